-- The two tables of a plan (paper 01, "Reached, and the groups").
--
--     starts_from k gs    the place of each community's first member, where the first one's is k, then the place past the last member
--     start_table gs      those from 0 on: the last is the count of memberships
--     member_table gs     the members of each community, one community after the other
use Rattle.std.specs.Prelude.{ℕ, ◌+◌, List, [], ◌∷◌, ◌++◌, length}

unfoldable pub starts_from : ℕ → List (List ℕ) → List ℕ
starts_from k [] = k ∷ []
starts_from k (x ∷ xs) = k ∷ starts_from (k + length x) xs

unfoldable pub start_table : List (List ℕ) → List ℕ
unfolding starts_from
start_table gs = starts_from 0 gs

unfoldable pub member_table : List (List ℕ) → List ℕ
member_table [] = []
member_table (x ∷ xs) = x ++ member_table xs

-- The members of group k, looked up in a plan's two tables (paper 01, "Scores, lookup, report" and question 14).
--
--     start_of starts k            start k: entry k of the start table
--     placed starts size k        question 14: k + 1 is a place in the start table, and start k ≤ start k+1 ≤ size, the member table's length
--     between first past table    the part of a table from one place up to another
--     members_of starts table k    the part of the member table from start k up to start k+1; empty where the question gets a no
--     looked_of starts table k     the companion's answer: the count of these members, or 14 with place 0
--     Agree starts table k ..     what a part and the companion's answer on the same tables and k have to do with each other
--
-- The laws are in proofs/Agreement.
use Rattle.std.specs.Prelude.{ℕ, ◌+◌, ◌-◌, ◌≡◌, Bool, ◌&&◌, cond, List, [], T, leb, ltb, length, get_or, take, drop, Err, Ok, Result}
use Rattle.image.specs.Answers.{refusal}
use Rattle.image.specs.declared.Refusal.{Refusal}

abbrev pub start_of : List ℕ → ℕ → ℕ
start_of starts k = get_or starts k 0

unfoldable pub placed : List ℕ → ℕ → ℕ → Bool
placed starts size k = ltb (k + 1) (length starts) && (leb (start_of starts k) (start_of starts (k + 1)) && leb (start_of starts (k + 1)) size)

abbrev pub between : ℕ → ℕ → List ℕ → List ℕ
between first past table = take (past - first) (drop first table)

unfoldable pub members_of : List ℕ → List ℕ → ℕ → List ℕ
unfolding placed
members_of starts table k = cond (placed starts (length table) k) (between (start_of starts k) (start_of starts (k + 1)) table) []

unfoldable pub looked_of : List ℕ → List ℕ → ℕ → Result ℕ Refusal
unfolding placed members_of
looked_of starts table k = cond (placed starts (length table) k) (Ok (length (members_of starts table k))) (Err (refusal 14))

-- the lookup and its companion agree: a part is given where there is no refusal, with the count of its members; 14 is the only refusal, and the part is
-- then empty
pub record Agree (starts table : List ℕ) (k : ℕ) (part : List ℕ) (looked : Result ℕ Refusal) : Type 0 where
  pub found : (n : ℕ) → looked ≡ Ok n → T (placed starts (length table) k) × (part ≡ between (start_of starts k) (start_of starts (k + 1)) table) × (n ≡ length part)
  pub refused : (r : Refusal) → looked ≡ Err r → (T (placed starts (length table) k) → ⊥) × (r ≡ refusal 14) × (part ≡ [])

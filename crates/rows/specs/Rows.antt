-- Communities that stand in a table as rows of bits, and what is read off them.
--
--     row_members rows k          the members of row k, ascending
--     rows_of rows k              the members of each of the first k rows
--     row_in rows k               the members of row k of the 512, ascending; none from 512 on
--     row_words rows k            the eight words of row k, whose members as row 0 are those of row k (proofs/Rows: row_words_lem); none from 512 on
--     counts_of gs                the counts of a plan of the communities gs
--     MembersFound gs a b        the set a has the handsets in at least one of the lists, b those in at least two
--     meets set l                some number below 512 is in the set and in the list
--     first_meeting set gs        the number of the first list that meets the set, or the count of lists where none does
--     first_met set gs           the same as an option: None where none meets the set
use Rattle.std.specs.Prelude.{ℕ, zero, suc, ◌*◌, Bool, ◌&&◌, List, [], ◌∷◌, ◌++◌, Option, leb, eqb, length, get_or, take, drop}
use Rattle.sets.specs.Below.{any, select, find, first}
use Rattle.sets.specs.Bits.{bit_at, cell}
use Rattle.sets.specs.Rows.{SetOf}
use Rattle.community.specs.Network.{contains, membership_count}
use Rattle.community.specs.Tables.{member_table}
use Rattle.rows.specs.declared.Counts.{Counts}

unfoldable pub row_members : List ℕ → ℕ → List ℕ
unfolding select
row_members rows k = select 512 (λ v. eqb (cell rows k v) 1)

unfoldable pub rows_of : List ℕ → ℕ → List (List ℕ)
unfolding row_members
rows_of rows zero = []
rows_of rows (suc k) = rows_of rows k ++ (row_members rows k ∷ [])

unfoldable pub row_in : List ℕ → ℕ → List ℕ
unfolding rows_of
row_in rows k = get_or (rows_of rows 512) k []

unfoldable pub row_words : List ℕ → ℕ → List ℕ
row_words rows k = take 8 (drop (8 * k) rows)

abbrev pub counts_of : List (List ℕ) → Counts
counts_of gs = record { groups = length gs; memberships = length (member_table gs) }

pub record MembersFound (gs : List (List ℕ)) (once twice : List ℕ) : Type 0 where
  pub in_one : SetOf once (λ v. leb 1 (membership_count v gs))
  pub in_two : SetOf twice (λ v. leb 2 (membership_count v gs))

unfoldable pub meets : List ℕ → List ℕ → Bool
unfolding any contains
meets set l = any 512 (λ v. eqb (bit_at set v) 1 && contains v l)

unfoldable pub first_meeting : List ℕ → List (List ℕ) → ℕ
unfolding find meets
first_meeting set gs = find (length gs) (λ k. meets set (get_or gs k []))

unfoldable pub first_met : List ℕ → List (List ℕ) → Option ℕ
unfolding first meets
first_met set gs = first (length gs) (λ k. meets set (get_or gs k []))

-- These definitions only serve the proofs; a caller need not believe them.
-- What the tally's functions work out one after another, for the contracts inside the crate.
--
--     tally_at records m test l  the tally over the first m edge records, those that pass, edge by edge
--     GoodEntries l             the entries of a list that question 13 passes
--     Multiplicities table l    place v holds how often v stands in l, for every v
--     joined_sum, leaving_sum     t and o over the first m edge records, those that pass, by such a table
use Rattle.std.specs.Prelude.{ℕ, ◌*◌, ◌≤◌, ◌<◌, ◌≡◌, Bool, ◌&&◌, cond, List, leb, length, get_or}
use Rattle.sets.specs.Below.{count, sum}
use Rattle.sets.specs.Entries.{multiplicity}
use Rattle.image.specs.Image.{end_a, end_b}
use Rattle.community.specs.Network.{contains}
use Rattle.community.specs.Scores.{pairs, just_one}
use Rattle.scores.specs.declared.Tally.{Tally}

unfoldable pub tally_at : List ℕ → ℕ → (ℕ → Bool) → List ℕ → Tally
unfolding pairs sum count multiplicity end_a end_b contains
tally_at records m test l = record {
  pairs = pairs l;
  joined = sum m (λ k. cond (test k) (multiplicity l (end_a records k) * multiplicity l (end_b records k)) 0);
  leaving = count m (λ k. test k && just_one (contains (end_a records k) l) (contains (end_b records k) l));
}

pub record GoodEntries (l : List ℕ) : Type 0 where
  pub short : length l ≤ 512
  pub low : (i : ℕ) → i < length l → get_or l i 0 < 512

pub record Multiplicities (table l : List ℕ) : Type 0 where
  pub held : (v : ℕ) → get_or table v 0 ≡ multiplicity l v

unfoldable pub joined_sum : List ℕ → List ℕ → (ℕ → Bool) → ℕ → ℕ
unfolding sum end_a end_b
joined_sum table records test m = sum m (λ k. cond (test k) (get_or table (end_a records k) 0 * get_or table (end_b records k) 0) 0)

unfoldable pub leaving_sum : List ℕ → List ℕ → (ℕ → Bool) → ℕ → ℕ
unfolding count end_a end_b
leaving_sum table records test m = count m (λ k. test k && just_one (leb 1 (get_or table (end_a records k) 0)) (leb 1 (get_or table (end_b records k) 0)))

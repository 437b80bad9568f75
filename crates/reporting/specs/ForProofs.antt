-- These definitions only serve the proofs; a caller need not believe them.
-- What the report's working tables hold, for the contracts inside the crate.
--
--     RowsCounted rows c             the counts c are those of the first rows of a table, of 512 at most
--     Filled t l r l'                a text t was written into the buffer l where it fits: the answer r, and the buffer after
--     RowsHeld s h rows k cores      an accepted image's header, its communities as the first k rows of a table, and the set of its cores
use Rattle.std.specs.Prelude.{ℕ, ◌≤◌, ◌≡◌, ◌&&◌, List, ltb, length, Result}
use Rattle.sets.specs.Rows.{SetOf}
use Rattle.image.specs.Image.{header_of, handset_count}
use Rattle.image.specs.Questions.{Accepted}
use Rattle.image.specs.declared.Header.{Header}
use Rattle.community.specs.Network.{is_core, communities}
use Rattle.community.specs.Site.{network}
use Rattle.community.specs.Tables.{member_table}
use Rattle.rows.specs.Rows.{rows_of}
use Rattle.rows.specs.declared.Counts.{Counts}
use Rattle.image.specs.declared.Refusal.{Refusal}
use Rattle.reporting.specs.Report.{written_of, written_in}

pub record RowsCounted (rows : List ℕ) (c : Counts) : Type 0 where
  pub few : c.groups ≤ 512
  pub listed : c.memberships ≡ length (member_table (rows_of rows c.groups))

pub record Filled (t l : List ℕ) (r : Result ℕ Refusal) (l' : List ℕ) : Type 0 where
  pub answer : r ≡ written_of t (length l)
  pub text : l' ≡ written_in t l

pub record RowsHeld (s : List ℕ) (h : Header) (rows : List ℕ) (k : ℕ) (cores : List ℕ) : Type 0 where
  pub accepted : Accepted s
  pub header : h ≡ header_of s
  pub few : k ≤ 512
  pub listed : rows_of rows k ≡ communities (network s)
  pub cores_are : SetOf cores (λ v. ltb v (handset_count s) && is_core (network s) v)

-- An edge joins u and v exactly when u and v are its two ends, in either order; and how pairs of numbers follow one another.
use Prim.Native.Nat.{ℕ, ◌<◌}
use mathlib.Core.Path.{sym, ap, ◌∙◌}
use mathlib.Core.Logic.{inl, inr}
use mathlib.Core.List.{List}
use lib.Dec.{T}
use Rattle.sets.specs.Renumbering.{Renumbering}
use Rattle.sets.proofs.Counting.{to_apart}
use Rattle.image.specs.Image.{joins, end_a, end_b}
use Rattle.image.proofs.Edges.{joins_cases, joins_one, joins_other}
use Rattle.community.specs.Renumbered.{SamePair}

pub joins_make : (records : List ℕ) (u v k : ℕ) → SamePair (end_a records k) (end_b records k) u v → T (joins records u v k)
joins_make records u v k (inl x) = joins_one records u v k x.0 x.1
joins_make records u v k (inr x) = joins_other records u v k x.0 x.1

pub joins_take : (records : List ℕ) (u v k : ℕ) → T (joins records u v k) → SamePair (end_a records k) (end_b records k) u v
joins_take = joins_cases

pub pair_sym : (a b c d : ℕ) → SamePair a b c d → SamePair c d a b
pair_sym a b c d (inl x) = inl (sym x.0, sym x.1)
pair_sym a b c d (inr x) = inr (sym x.1, sym x.0)

pub pair_trans : (a b c d e f : ℕ) → SamePair a b c d → SamePair c d e f → SamePair a b e f
pair_trans a b c d e f (inl x) (inl y) = inl (x.0 ∙ y.0, x.1 ∙ y.1)
pair_trans a b c d e f (inl x) (inr y) = inr (x.0 ∙ y.0, x.1 ∙ y.1)
pair_trans a b c d e f (inr x) (inl y) = inr (x.0 ∙ y.1, x.1 ∙ y.0)
pair_trans a b c d e f (inr x) (inr y) = inl (x.0 ∙ y.1, x.1 ∙ y.0)

pub pair_map : (f : ℕ → ℕ) (a b c d : ℕ) → SamePair a b c d → SamePair (f a) (f b) (f c) (f d)
pair_map f a b c d (inl x) = inl (ap f x.0, ap f x.1)
pair_map f a b c d (inr x) = inr (ap f x.0, ap f x.1)

-- a renumbering takes no two pairs to one
pub pair_back : {n : ℕ} (r : Renumbering n) (a b c d : ℕ) → a < n → b < n → c < n → d < n → SamePair (r.to a) (r.to b) (r.to c) (r.to d) → SamePair a b c d
pair_back r a b c d ha hb hc hd (inl x) = inl (to_apart r a c ha hc x.0, to_apart r b d hb hd x.1)
pair_back r a b c d ha hb hc hd (inr x) = inr (to_apart r a d ha hd x.0, to_apart r b c hb hc x.1)

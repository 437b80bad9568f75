-- The reach of a group (paper 02, order 6): the largest squared distance of a near tie between two members. It is an answer of the near test: near with
-- that distance, or not near where no near tie joins two members.
--
--     farther a b       of two answers of the near test the farther one; one that is not near is passed over
--     farthest n f      the farthest of f 0, .., f (n - 1)
--     inside s l k      both ends of edge k stand in l
--     reach s l         the reach of a list of handsets: the farthest answer for the ends of an edge inside it
--     Spans s l d       two handsets of l, similar or not, are adjacent and near at the squared distance d (the paper: a near tie between two members)
--     ReachMeans        the theorems: what the reach of a list is (proved in proofs/Reach)
use Rattle.std.specs.Prelude.{ℕ, zero, suc, ◌≤◌, max, ◌≡◌, ◌↔◌, Bool, ◌&&◌, cond, List, [], ◌∷◌, T, None, Option, Some}
use Rattle.image.specs.Image.{edge_count, limit_of, edge_records, end_a, end_b, adjacent}
use Rattle.image.specs.Questions.{Accepted}
use Rattle.near.specs.Near.{proximity}
use Rattle.community.specs.Network.{contains}

unfoldable pub farther : Option ℕ → Option ℕ → Option ℕ
farther (Some d) (Some e) = Some (max d e)
farther (Some d) None = Some d
farther None b = b

unfoldable pub farthest : ℕ → (ℕ → Option ℕ) → Option ℕ
unfolding farther
farthest zero f = None
farthest (suc n) f = farther (farthest n f) (f n)

unfoldable pub inside : List ℕ → List ℕ → ℕ → Bool
unfolding contains edge_records end_a end_b
inside s l k = contains (end_a (edge_records s) k) l && contains (end_b (edge_records s) k) l

unfoldable pub reach : List ℕ → List ℕ → Option ℕ
unfolding farthest inside proximity
reach s l = farthest (edge_count s) (λ k. cond (inside s l k) (proximity s (end_a (edge_records s) k) (end_b (edge_records s) k)) None)

abbrev pub Spans : List ℕ → List ℕ → ℕ → Type 0
Spans s l d = (u : ℕ) × (v : ℕ) × T (contains u l) × T (contains v l) × T (adjacent s u v) × (proximity s u v ≡ Some d)

pub record ReachMeans : Type 0 where
  -- the largest: some near edge between two members has that distance, and none has a larger one; so it is no more than G
  pub largest : (s l : List ℕ) (d : ℕ) → (reach s l ≡ Some d) ↔ (Spans s l d × ((e : ℕ) → Spans s l e → e ≤ d))
  pub in_limit : (s l : List ℕ) (d : ℕ) → reach s l ≡ Some d → d ≤ limit_of s
  -- none, which is not 0: exactly where no near edge joins two members; a group of one has none
  pub none : (s l : List ℕ) → (reach s l ≡ None) ↔ ((d : ℕ) → Spans s l d → ⊥)
  pub alone : (s : List ℕ) (v : ℕ) → Accepted s → reach s (v ∷ []) ≡ None

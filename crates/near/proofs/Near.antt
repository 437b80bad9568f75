-- The near test of two handsets. It answers near where they are the same, or adjacent and no farther apart than gamma, and then with their squared distance.
--
--     near_apart, near_same     not near is not near at some distance, and near at one distance is not near at another
--     proximity_same            two answers with the same values are the same
--     near_most                 a test by records that answers near: the distance that it tells is that of the records, and at most the limit
--     adjacent_comm             adjacent, either way round
--     proximity_comm            the test, either way round
--     neighbour_is              neighbours are the same handset, or adjacent and no farther apart than gamma
--     neighbour_cases           so they are the same, or adjacent
--     near_itself               a handset is near itself at 0
--     near_limit                what is near is no farther apart than gamma
--     edge_proximity_lem            the test of the ends of an edge of an accepted image is that by their records
use Rattle.std.specs.Prelude.{None, Option, Some}
use Rattle.std.proofs.Common.{◌≡◌, ℕ, ◌*◌, ◌<◌, ◌≤◌, Bool, true, false, cond, ◌&&◌, ◌||◌, T, eqb, leb, ◌⊎◌, List, get_or, sym, refl, ap, ◌∙◌, subst, ap₂, inl, inr, ⊎_elim, arith, eqb→eq, eq-eqb, eqb-true, le-leb, leb-true}
use Rattle.sets.proofs.Tests.{and_left, or_cases, T_true, T_false, any_make, any_cong, eqb_comm}
use Rattle.sets.proofs.Counting.{sum_cong, sum_zero}
use Rattle.fields.specs.Fields.{coordinate_count, gap, coordinate_of}
use Rattle.image.specs.Image.{edge_count, limit_of, handset_records, handset_record, edge_records, gap_squared, distance_between, distance_squared, end_a, end_b, joins, adjacent}
use Rattle.image.specs.Answers.{Answer}
use Rattle.image.specs.Questions.{Accepted, is_loop}
use Rattle.near.specs.Near.{proximity_of, proximity, is_near, neighbour, proximity_answer, OneAnswer, NearTest}
use Rattle.image.proofs.Edges.{joins_one, joins_comm}

-- ---- the cases of an answer

-- what is told of the distance; 0 where it is not near
abbrev distance_in : Option ℕ → ℕ
distance_in (Some d) = d
distance_in None = 0

pub near_apart : {A : Type 0} (d : ℕ) → None ≡ Some d → A
unfolding is_near
near_apart d e = absurd (subst (λ (p : Option ℕ). T (is_near p)) (sym e) tt)

pub near_same : {d e : ℕ} → Some d ≡ Some e → d ≡ e
near_same e = ap distance_in e

pub proximity_same : (a b : Option ℕ) → proximity_answer a ≡ proximity_answer b → a ≡ b
proximity_same (Some d) (Some e) q = ap (λ (a : Answer). Some (get_or a.values 1 0)) q
proximity_same (Some d) None q = let z : ◌≡◌ {A = ℕ} 1 0 = ap (λ (a : Answer). get_or a.values 0 0) q in absurd (omega arith)
proximity_same None (Some d) q = let z : ◌≡◌ {A = ℕ} 0 1 = ap (λ (a : Answer). get_or a.values 0 0) q in absurd (omega arith)
proximity_same None None q = refl

pub one_answer : OneAnswer
one_answer = record { proximity = proximity_same }

-- ---- the test by records

pub near_most : (a b : List ℕ) (limit d : ℕ) → proximity_of a b limit ≡ Some d → (d ≡ distance_between a b) × (d ≤ limit)
unfolding proximity_of
near_most a b limit d e = go (leb (distance_between a b) limit) refl e
  where
    go : (t : Bool) → leb (distance_between a b) limit ≡ t → cond t (Some (distance_between a b)) None ≡ Some d → (d ≡ distance_between a b) × (d ≤ limit)
    go true h q = let f : distance_between a b ≡ d = near_same q in (sym f, omega (arith, f, leb-true (distance_between a b) limit h))
    go false h q = near_apart d q

gap_comm : (a b : ℕ) → gap a b ≡ gap b a
gap_comm a b = omega arith

distance_comm : (a b : List ℕ) → distance_between a b ≡ distance_between b a
unfolding distance_between
distance_comm a b =
    sum_cong coordinate_count (gap_squared (coordinate_of a) (coordinate_of b)) (gap_squared (coordinate_of b) (coordinate_of a)) (λ i h. ap (λ (d : ℕ). d * d) (gap_comm (coordinate_of a i) (coordinate_of b i)))

distance_itself : (a : List ℕ) → distance_between a a ≡ 0
unfolding distance_between
distance_itself a =
    sum_cong coordinate_count (gap_squared (coordinate_of a) (coordinate_of a)) (λ i. 0) (λ i h. ap (λ (d : ℕ). d * d) (let e : gap (coordinate_of a i) (coordinate_of a i) ≡ 0 = omega arith in e))
    ∙ sum_zero coordinate_count

records_comm : (a b : List ℕ) (limit : ℕ) → proximity_of a b limit ≡ proximity_of b a limit
unfolding proximity_of
records_comm a b limit = ap (λ (d : ℕ). cond (leb d limit) (Some d) None) (distance_comm a b)

record_itself : (a : List ℕ) (limit : ℕ) → proximity_of a a limit ≡ Some 0
unfolding proximity_of
record_itself a limit =
    ap (λ (d : ℕ). cond (leb d limit) (Some d) None) (distance_itself a) ∙ ap (λ (t : Bool). cond t (Some 0) None) (le-leb 0 limit (omega arith))

-- ---- the test of two handsets

pub adjacent_comm : (s : List ℕ) (u v : ℕ) → adjacent s u v ≡ adjacent s v u
unfolding adjacent
adjacent_comm s u v = any_cong (edge_count s) (joins (edge_records s) u v) (joins (edge_records s) v u) (λ k h. joins_comm (edge_records s) u v k)

-- the test by its three parts: the same handset, adjacent, and the test by records
abbrev tested : Bool → Bool → Option ℕ → Option ℕ
tested x y p = cond x (Some 0) (cond y p None)

pub proximity_comm : (s : List ℕ) (u v : ℕ) → proximity s u v ≡ proximity s v u
unfolding proximity
proximity_comm s u v =
    let a : List ℕ = handset_record (handset_records s) u in
    let b : List ℕ = handset_record (handset_records s) v in
    ap (λ (x : Bool). tested x (adjacent s u v) (proximity_of a b (limit_of s))) (eqb_comm u v)
    ∙ ap₂ (λ (y : Bool) (p : Option ℕ). tested (eqb v u) y p) (adjacent_comm s u v) (records_comm a b (limit_of s))

pub near_itself : (s : List ℕ) (u : ℕ) → proximity s u u ≡ Some 0
unfolding proximity
near_itself s u =
    ap (λ (x : Bool). tested x (adjacent s u u) (proximity_of (handset_record (handset_records s) u) (handset_record (handset_records s) u) (limit_of s))) (eq-eqb u u refl)

is_near_lem : (x y t : Bool) (d : ℕ) → is_near (tested x y (cond t (Some d) None)) ≡ (x || (y && t))
unfolding is_near
is_near_lem true y t d = refl
is_near_lem false true true d = refl
is_near_lem false true false d = refl
is_near_lem false false t d = refl

pub neighbour_is : (s : List ℕ) (u v : ℕ) → neighbour s u v ≡ (eqb u v || (adjacent s u v && leb (distance_squared s u v) (limit_of s)))
unfolding neighbour proximity proximity_of distance_squared
neighbour_is s u v = is_near_lem (eqb u v) (adjacent s u v) (leb (distance_squared s u v) (limit_of s)) (distance_squared s u v)

pub neighbour_cases : (s : List ℕ) (u v : ℕ) → T (neighbour s u v) → (u ≡ v) ⊎ T (adjacent s u v)
neighbour_cases s u v t =
    let close : Bool = leb (distance_squared s u v) (limit_of s) in
    ⊎_elim (λ x. inl (eqb→eq u v x)) (λ x. inr (and_left (adjacent s u v) close x)) (or_cases (eqb u v) (adjacent s u v && close) (subst T (neighbour_is s u v) t))

near_distance : (s : List ℕ) (u v d : ℕ) → proximity s u v ≡ Some d → d ≡ distance_squared s u v
unfolding proximity distance_squared
near_distance s u v d = go (eqb u v) (adjacent s u v) refl
  where
    a : List ℕ
    a = handset_record (handset_records s) u

    b : List ℕ
    b = handset_record (handset_records s) v

    go : (x y : Bool) → eqb u v ≡ x → tested x y (proximity_of a b (limit_of s)) ≡ Some d → d ≡ distance_between a b
    go true y h e =
        let same : u ≡ v = eqb-true u v h in
        sym (near_same e) ∙ sym (distance_itself a) ∙ ap (λ (w : ℕ). distance_between a (handset_record (handset_records s) w)) same
    go false true h e = (near_most a b (limit_of s) d e).0
    go false false h e = near_apart d e

-- near at no more than gamma
pub near_limit : (s : List ℕ) (u v d : ℕ) → proximity s u v ≡ Some d → d ≤ limit_of s
unfolding proximity
near_limit s u v d = go (eqb u v) (adjacent s u v)
  where
    go : (x y : Bool) → tested x y (proximity_of (handset_record (handset_records s) u) (handset_record (handset_records s) v) (limit_of s)) ≡ Some d → d ≤ limit_of s
    go true y e = omega (arith, near_same e)
    go false true e = (near_most (handset_record (handset_records s) u) (handset_record (handset_records s) v) (limit_of s) d e).1
    go false false e = near_apart d e

pub near_test : NearTest
near_test = record {
  distance = near_distance;
  itself = near_itself;
  same_record = record_itself;
  symmetric = proximity_comm;
}

-- ---- the ends of an edge

pub edge_proximity_lem : (s : List ℕ) → Accepted s → (k : ℕ) → k < edge_count s
    → proximity s (end_a (edge_records s) k) (end_b (edge_records s) k)
    ≡ proximity_of (handset_record (handset_records s) (end_a (edge_records s) k)) (handset_record (handset_records s) (end_b (edge_records s) k)) (limit_of s)
unfolding proximity adjacent is_loop
edge_proximity_lem s ok k h =
    let a : ℕ = end_a (edge_records s) k in
    let b : ℕ = end_b (edge_records s) k in
    let p : (Option ℕ) = proximity_of (handset_record (handset_records s) a) (handset_record (handset_records s) b) (limit_of s) in
    ap₂ (λ (x y : Bool). tested x y p) (T_false (eqb a b) (ok.q9 k h))
    (T_true (adjacent s a b) (any_make (edge_count s) (joins (edge_records s) a b) k h (joins_one (edge_records s) a b k refl refl)))

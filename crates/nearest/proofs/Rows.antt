-- The nearest group by the rows. The handsets at the least distance of all that are in a row are the nearest members of all groups, so that the first row that
-- meets them is the nearest group.
--
--     none_seen        where no handset is in a row, there is none: no_rows is the answer then
--     rows_nearest     what the pass over the rows answers
--     some_member      a community has a member
--     rows_filled      so that each row of the communities has
--     rows_found       what the crate graph finds are the rows of the communities
--     site_answer_lem      the answer over the rows of an accepted image is the call's
use Rattle.std.specs.Prelude.{None, Ok}
use Prim.Native.Nat.{ℕ, zero, suc, ◌+◌, ◌*◌, ◌-◌, ◌≤◌, ◌<◌, min}
use native.Mathlib.Omega.{arith}
use native.Mathlib.Decide.{dec_lt}
use mathlib.Core.Path.{◌≡◌, refl, sym, ap, ap₂, ◌∙◌, subst}
use mathlib.Core.Logic.{⊎_elim}
use mathlib.Core.Bool.{Bool, true, false, ◌&&◌}
use mathlib.Core.List.{List, [], ◌∷◌, map, Memᴰ}
use lib.Dec.{T, eqb, leb, eqb→eq}
use lib.IntN.{ℤ}
use lib.ListN.{length, get_or, take, drop}
use borrow.Author.Tests.{le-leb}
use Rattle.std.specs.Prelude.{Some, None}
use Rattle.sets.specs.Below.{any, bit, find}
use Rattle.sets.specs.Bits.{bit_at}
use Rattle.sets.proofs.Tests.{T_true, decide, any_make, any_take, not_any, and_make, and_left, and_right, eqb_of, find_law}
use Rattle.sets.proofs.Counting.{bit_true, bit_test}
use Rattle.sets.proofs.Selecting.{mem_at, at_mem, select_mem}
use Rattle.fields.specs.Fields.{coordinate_count, handset_bytes}
use Rattle.image.specs.Image.{handset_records}
use Rattle.image.specs.Questions.{Accepted}
use Rattle.image.specs.Signed.{raised}
use Rattle.image.specs.declared.Header.{Header}
use Rattle.image.proofs.Records.{handset_slice_is}
use Rattle.community.specs.Network.{contains, membership_count}
use Rattle.community.specs.Site.{network, communities_of}
use Rattle.community.proofs.Communities.{member_below, leader_member}
use Rattle.community.proofs.Roles.{contains_mem, mem_contains}
use Rattle.community.proofs.Site.{accepted_sound}
use Rattle.rows.proofs.Rows.{met_none}
use Rattle.rows.specs.Rows.{first_met, row_members, rows_of, MembersFound, meets, first_meeting}
use Rattle.rows.proofs.Listing.{in_row, rows_at, rows_length}
use Rattle.graph.specs.Graph.{Groups}
use Rattle.graph.proofs.Listing.{groups_most, grouped_rows}
use Rattle.image.proofs.Acceptance.{accepted_fits}
use Rattle.points.specs.Points.{point_in_limits, distance_to}
use Rattle.points.proofs.Distances.{distance_exact}
use Rattle.nearest.specs.Nearest.{Nearest, group_found, least_of, nearest_among, nearest_in, nearest_of, closer}
use Rattle.nearest.specs.Meaning.{IsNearest}
use Rattle.nearest.specs.ForProofs.{wrapped, Closest, RowsFilled, PointHeld}
use Rattle.nearest.proofs.Answers.{inside_answer}
use Rattle.nearest.proofs.Right.{Below, groups_right, nearest_is}

-- ---- in some list
times_some : (v : ℕ) (gs : List (List ℕ)) (k : ℕ) → k < length gs → T (contains v (get_or gs k [])) → 1 ≤ membership_count v gs
unfolding membership_count
times_some v [] k h t = absurd (omega arith)
times_some v (x ∷ gs) zero h t = omega (arith, bit_true (contains v x) t)
times_some v (x ∷ gs) (suc k) h t = omega (arith, times_some v gs k (omega arith) t)

some_times : (v : ℕ) (gs : List (List ℕ)) → 1 ≤ membership_count v gs → (k : ℕ) × (k < length gs) × T (contains v (get_or gs k []))
unfolding membership_count
some_times v [] h = absurd (omega arith)
some_times v (x ∷ gs) h = go (contains v x) refl h (some_times v gs)
  where
    go : (b : Bool) → contains v x ≡ b → 1 ≤ bit b + membership_count v gs → (1 ≤ membership_count v gs → (k : ℕ) × (k < length gs) × T (contains v (get_or gs k [])))
        → (k : ℕ) × (k < suc (length gs)) × T (contains v (get_or (x ∷ gs) k []))
    go true e h r = (0, omega arith, subst T (sym e) tt)
    go false e h r = let p = r (omega arith) in (suc p.0, omega (arith, p.1), p.2)

-- ---- the pass over the rows
module _ (far : ℕ → ℕ) (rows : List ℕ) (n : ℕ) (filled : RowsFilled rows n) (once twice : List ℕ) (found : MembersFound (rows_of rows n) once twice)
  where
    abbrev group : ℕ → List ℕ
    group k = get_or (rows_of rows n) k []

    abbrev in_once : ℕ → Bool
    in_once v = eqb (bit_at once v) 1

    below_all : (k v : ℕ) → k < n → Memᴰ v (group k) → v < 512
    unfolding row_members
    below_all k v h m = (select_mem 512 (in_row rows k) v (subst (λ (l : List ℕ). Memᴰ v l) (rows_at rows n k h) m)).0

    once_is : (v : ℕ) → v < 512 → in_once v ≡ leb 1 (membership_count v (rows_of rows n))
    once_is v h = ap (λ (b : ℕ). eqb b 1) (found.in_one.bits v h) ∙ bit_test (leb 1 (membership_count v (rows_of rows n)))

    seen : (k v : ℕ) → k < n → Memᴰ v (group k) → T (in_once v)
    seen k v h m =
        subst T (sym (once_is v (below_all k v h m) ∙ le-leb 1 _ (times_some v (rows_of rows n) k (omega (arith, rows_length rows n)) (mem_contains v (group k) m)))) tt

    -- where no handset is in a row, there is no row
    pub none_seen : ((v : ℕ) → v < 512 → in_once v ≡ false) → n ≡ 0
    none_seen none = pick (dec_lt 0 n)
      where
        pick : Dec (0 < n) → n ≡ 0
        pick (yes some) =
            let l : 0 < length (group 0) = subst (λ (x : List ℕ). 0 < length x) (sym (rows_at rows n 0 some)) (filled.some 0 some) in
            let v : ℕ = get_or (group 0) 0 0 in
            let m : Memᴰ v (group 0) = at_mem (group 0) 0 0 l in
            absurd (subst T (none v (below_all 0 v some m)) (seen 0 v some m))
        pick (no h) = omega arith

    module _ (least : ℕ) (closest : List ℕ) (held : Closest far in_once (Some least) closest) where
      -- a handset that is in the set of the closest
      close : (v : ℕ) → v < 512 → T (in_once v) → far v ≡ least → T (eqb (bit_at closest v) 1)
      close v h t e =
          eqb_of (bit_at closest v) 1 (held.bits v h ∙ bit_true (in_once v && eqb (far v) least) (and_make (in_once v) (eqb (far v) least) t (eqb_of (far v) least e)))

      close_far : (v : ℕ) → v < 512 → T (eqb (bit_at closest v) 1) → far v ≡ least
      close_far v h t =
          let q : (in_once v && eqb (far v) least) ≡ true = sym (bit_test (in_once v && eqb (far v) least)) ∙ ap (λ (b : ℕ). eqb b 1) (sym (held.bits v h)) ∙ T_true (eqb (bit_at closest v) 1) t in
          eqb→eq (far v) least (and_right (in_once v) (eqb (far v) least) (subst T (sym q) tt))

      abbrev at : ℕ → Bool
      at k = meets closest (group k)

      meets_with : (k v : ℕ) → v < 512 → T (eqb (bit_at closest v) 1) → T (contains v (group k)) → T (at k)
      unfolding meets
      meets_with k v h c t = any_make 512 (λ u. eqb (bit_at closest u) 1 && contains u (group k)) v h (and_make (eqb (bit_at closest v) 1) (contains v (group k)) c t)

      met_by : (k : ℕ) → T (at k) → (v : ℕ) × (v < 512) × T (eqb (bit_at closest v) 1) × T (contains v (group k))
      unfolding meets
      met_by k t =
          let r = any_take 512 (λ u. eqb (bit_at closest u) 1 && contains u (group k)) t in
          (r.0, r.1, and_left (eqb (bit_at closest r.0) 1) (contains r.0 (group k)) r.2, and_right (eqb (bit_at closest r.0) 1) (contains r.0 (group k)) r.2)

      some_meets : T (any (length (rows_of rows n)) at)
      some_meets =
          let w = held.standing.attained in
          let e : leb 1 (membership_count w.0 (rows_of rows n)) ≡ true = sym (once_is w.0 w.1) ∙ T_true (in_once w.0) w.2 in
          let k = some_times w.0 (rows_of rows n) (lib.Dec.leb→le 1 (membership_count w.0 (rows_of rows n)) (subst T (sym e) tt)) in
          any_make (length (rows_of rows n)) at k.0 k.1 (meets_with k.0 w.0 w.1 (close w.0 w.1 w.2 w.3) k.2)

      pub not_unmet : None ≡ first_met closest (rows_of rows n) → ⊥
      not_unmet e = lib.Dec.T_not (any (length (rows_of rows n)) at) (met_none closest (rows_of rows n) e) some_meets

      is_nearest : IsNearest far (Below group (length (rows_of rows n))) (first_meeting closest (rows_of rows n)) least
      unfolding first_meeting
      is_nearest =
          let l = find_law (length (rows_of rows n)) at some_meets in
          let k : ℕ = find (length (rows_of rows n)) at in
          let v = met_by k l.1 in
          record {
            stands = (v.0, (l.0, contains_mem v.0 (group k) v.3), close_far v.0 v.1 v.2);
            none_nearer = λ j u m.
                let h : j < n = omega (arith, m.0, rows_length rows n) in
                held.standing.none_nearer u (below_all j u h m.1) (seen j u h m.1);
            lowest = λ j u m e.
                let h : j < n = omega (arith, m.0, rows_length rows n) in
                let b : u < 512 = below_all j u h m.1 in
                let t : T (at j) = meets_with j u b (close u b (seen j u h m.1) e) (mem_contains u (group j) m.1) in
                ⊎_elim (λ q. absurd (not_any k at j l.2 (lib.Dec.ltb→lt j k q) t)) (λ q. lib.Dec.nltb→le j k q) (decide (lib.Dec.ltb j k));
          }

      pub rows_nearest : group_found (first_meeting closest (rows_of rows n)) least ≡ nearest_in far (rows_of rows n)
      unfolding nearest_in
      rows_nearest =
          sym (nearest_is far (Below group (length (rows_of rows n))) _ (first_meeting closest (rows_of rows n)) least
          (groups_right far group (length (rows_of rows n))
          (λ k h. let q : k < n = omega (arith, h, rows_length rows n) in subst (λ (x : List ℕ). 0 < length x) (sym (rows_at rows n k q)) (filled.some k q)))
          is_nearest)

pub no_rows : (far : ℕ → ℕ) (rows : List ℕ) (n : ℕ) → n ≡ 0 → Ok None ≡ nearest_in far (rows_of rows n)
unfolding nearest_in nearest_among rows_of
no_rows far rows n e = ap (λ (k : ℕ). nearest_in far (rows_of rows k)) (sym e)

-- ---- of an accepted image
pub some_member : (s : List ℕ) → Accepted s → (k : ℕ) → k < length (communities_of s) → 0 < length (get_or (communities_of s) k [])
unfolding communities_of
some_member s ok k l = omega (arith, (mem_at (get_or (communities_of s) k []) 0 _ (leader_member (accepted_sound s ok) k l)).1)

pub rows_filled : (s rows : List ℕ) (n : ℕ) → Accepted s → n ≤ 512 → rows_of rows n ≡ communities_of s → RowsFilled rows n
rows_filled s rows n ok few listed = record {
  few = few;
  some = λ j h.
      subst (λ (x : List ℕ). 0 < length x) (ap (λ (gs : List (List ℕ)). get_or gs j []) (sym listed) ∙ rows_at rows n j h)
      (some_member s ok j (omega (arith, h, ap length listed, rows_length rows n)));
}

-- what the crate graph finds of an accepted image
pub rows_found : (s : List ℕ) {k tests : ℕ} {near ws sizes cores : List ℕ} → Accepted s → Groups s (network s) k tests near ws sizes cores
    → (k ≤ 512) × (rows_of ws k ≡ communities_of s)
unfolding communities_of
rows_found s ok f = let few = (accepted_fits s ok).n_limit in (groups_most few f.grouped, grouped_rows few f.grouped)

least_cong : (far near : ℕ → ℕ) (l : List ℕ) → ((t : ℕ) → t < length l → far (get_or l t 0) ≡ near (get_or l t 0)) → least_of far l ≡ least_of near l
unfolding least_of
least_cong far near [] e = refl
least_cong far near (v ∷ []) e = e 0 (omega arith)
least_cong far near (v ∷ (w ∷ l)) e = ap₂ min (e 0 (omega arith)) (least_cong far near (w ∷ l) (λ t h. e (suc t) (omega arith)))

nearest_cong : (d e : ℕ → ℕ) (n : ℕ) → ((k : ℕ) → k < n → d k ≡ e k) → nearest_among d n ≡ nearest_among e n
unfolding nearest_among
nearest_cong d e zero p = refl
nearest_cong d e (suc n) p = ap₂ (λ (a : Nearest) (y : ℕ). closer a n y) (nearest_cong d e n (λ k h. p k (omega arith))) (p n (omega arith))

module _ {s : List ℕ} {h : Header} {p : List ℤ} (held : PointHeld s h p) (long : length p ≡ coordinate_count) where
  -- each member is a handset, and so at a distance that 64 bits hold
  exact : (k t : ℕ) → k < length (communities_of s) → t < length (get_or (communities_of s) k [])
      → wrapped (map raised p) (handset_records s) (get_or (get_or (communities_of s) k []) t 0) ≡ distance_to s p (get_or (get_or (communities_of s) k []) t 0)
  unfolding communities_of
  exact k t l m =
      let v : ℕ = get_or (get_or (communities_of s) k []) t 0 in
      distance_exact s held.accepted p long held.inside v (member_below (network s) k v l (at_mem (get_or (communities_of s) k []) 0 t m))

  pub site_answer_lem : (q rows : List ℕ) (n : ℕ) (r : Nearest) → q ≡ map raised p → rows_of rows n ≡ communities_of s
      → r ≡ nearest_in (wrapped q (take (h.handsets + handset_bytes * h.n - h.handsets) (drop h.handsets s))) (rows_of rows n)
      → r ≡ nearest_of s p
  unfolding nearest_in
  site_answer_lem q rows n r f listed e =
      e
      ∙ ap₂ (λ (x records : List ℕ). nearest_in (wrapped x records) (rows_of rows n)) f (handset_slice_is s h held.header)
      ∙ ap (nearest_in (wrapped (map raised p) (handset_records s))) listed
      ∙ nearest_cong _ _ (length (communities_of s)) (λ k l. least_cong (wrapped (map raised p) (handset_records s)) (distance_to s p) (get_or (communities_of s) k []) (λ t m. exact k t l m))
      ∙ inside_answer s p held.accepted (T_true (point_in_limits p) held.inside)

-- Demand 3. A plan call that is not refused leaves two tables that begin with the plan's, so their group k is the k-th community, and the laws of the
-- communities carry over. A renumbered image is accepted with as many communities and memberships, so its plan is not refused either.
use Rattle.std.specs.Prelude.{Err, Result}
use Prim.Native.Nat.{ℕ, ◌+◌, ◌≤◌, ◌<◌}
use native.Mathlib.Omega.{arith}
use mathlib.Core.Path.{◌≡◌, refl, sym, ap, ap₂, ◌∙◌, subst}
use mathlib.Core.Logic.{◌↔◌}
use mathlib.Core.Bool.{Bool, true, false, cond}
use mathlib.Core.List.{List, [], ◌∷◌, ◌++◌, Memᴰ}
use lib.Dec.{T, ltb, leb, ltb→lt, leb→le}
use lib.ListN.{length, get_or, drop}
use Rattle.sets.proofs.Counting.{inverse}
use Rattle.image.specs.Image.{handset_count}
use Rattle.image.specs.Answers.{refusal}
use Rattle.image.specs.Questions.{Accepted}
use Rattle.image.proofs.Acceptance.{opened, when_accepted}
use Rattle.community.specs.Network.{is_core, IsCommunity}
use Rattle.community.specs.Tables.{start_table, member_table}
use Rattle.community.specs.Site.{network, communities_of}
use Rattle.community.specs.Renumbered.{Renumbered, NumberedBack}
use Rattle.community.proofs.Communities as C
use Rattle.community.proofs.Tables.{table_community}
use Rattle.community.proofs.Site.{accepted_sound}
use Rattle.community.proofs.Bound.{memberships_bound}
use Rattle.community.proofs.RenumberSite.{accepted_too, same_handsets, image_communities, image_memberships, image_roles, image_neighbours, community_numbered_back, community_numbered_on}
use Rattle.tables.specs.Plan.{made, planned, plan_answer, over}
use Rattle.tables.proofs.Answers.{plan_same}
use Rattle.planner.specs.Plan.{PlanCall, plan_of, known_of, known_answer, standing}
use Rattle.planner.proofs.Answers.{known_same}
use Rattle.planner.proofs.Calls.{plan_made, starts_made, members_made, known_handset}
use Rattle.demands.specs.Demand3 as D
use Rattle.rows.specs.declared.Counts.{Counts}
use Rattle.image.specs.declared.Refusal.{Refusal}
use Rattle.community.specs.declared.Standing.{Standing}
use Rattle.demands.specs.Demand3.{group, ListedAs, Plan, SameStanding, Again, LongEnough, Demand3}

-- ---- what a call answers

answer_is : {s ss ms : List ℕ} {a : Result Counts Refusal} {ss' ms' : List ℕ} → PlanCall s ss ms a ss' ms' → a ≡ plan_of s (length ss) (length ms)
answer_is call = plan_same _ _ call.answer

-- a call that was not refused had room for the plan
made_room : (gs : List (List ℕ)) (a b g c : ℕ) → planned gs a b ≡ made g c
    → (length gs + 1 ≤ a) × (length (member_table gs) ≤ b) × (length gs ≡ g) × (length (member_table gs) ≡ c)
made_room gs a b g c e = go (ltb (length gs) a) refl (leb (length (member_table gs)) b) refl e
  where
    go : (x : Bool) → ltb (length gs) a ≡ x → (y : Bool) → leb (length (member_table gs)) b ≡ y
        → cond x (cond y (made (length gs) (length (member_table gs))) (Err (refusal 12))) (Err (refusal 11)) ≡ made g c
        → (length gs + 1 ≤ a) × (length (member_table gs) ≤ b) × (length gs ≡ g) × (length (member_table gs) ≡ c)
    go true p true q e =
        let v : length gs ∷ (length (member_table gs) ∷ []) ≡ g ∷ (c ∷ []) = ap (λ (x : Result Counts Refusal). (plan_answer x).values) e in
        (omega (arith, ltb→lt (length gs) a (subst T (sym p) tt)), leb→le (length (member_table gs)) b (subst T (sym q) tt), cc, cc)
    go true p false q e = let z : ◌≡◌ {A = ℕ} 0 1 = cc in absurd (omega arith)
    go false p y q e = let z : ◌≡◌ {A = ℕ} 0 1 = cc in absurd (omega arith)

-- ---- tables that begin with the plan's

module _ (s : List ℕ) (ok : Accepted s) (x y : List ℕ) where
  at : (k : ℕ) → k < length (communities_of s) → group (start_table (communities_of s) ++ x) (member_table (communities_of s) ++ y) k ≡ get_or (communities_of s) k []
  at k h = table_community (communities_of s) x y k h

  to_list : (P : ℕ → Type 0) (k : ℕ) → ListedAs (start_table (communities_of s) ++ x) (member_table (communities_of s) ++ y) (length (communities_of s)) P k → C.ListedAt (network s) P k
  unfolding communities_of
  to_list P k l =
      record { place = l.place; same = λ v. subst (λ (m : List ℕ). P v ↔ Memᴰ v m) (at k l.place) (l.same v) }

  from_list : (P : ℕ → Type 0) (k : ℕ) → C.ListedAt (network s) P k → ListedAs (start_table (communities_of s) ++ x) (member_table (communities_of s) ++ y) (length (communities_of s)) P k
  unfolding communities_of
  from_list P k l =
      record { place = l.place; same = λ v. subst (λ (m : List ℕ). P v ↔ Memᴰ v m) (sym (at k l.place)) (l.same v) }

  core_one : (v j k : ℕ) → T (is_core (network s) v) → j < length (communities_of s) → k < length (communities_of s)
      → Memᴰ v (group (start_table (communities_of s) ++ x) (member_table (communities_of s) ++ y) j)
      → Memᴰ v (group (start_table (communities_of s) ++ x) (member_table (communities_of s) ++ y) k) → j ≡ k
  unfolding communities_of
  core_one v j k c hj hk a b =
      C.core_once (accepted_sound s ok) v j k c hj hk (subst (Memᴰ v) (at j hj) a) (subst (Memᴰ v) (at k hk) b)

  core_some : (v : ℕ) → v < handset_count s → T (is_core (network s) v)
      → (k : ℕ) × (k < length (communities_of s)) × Memᴰ v (group (start_table (communities_of s) ++ x) (member_table (communities_of s) ++ y) k)
  unfolding communities_of
  core_some v h c =
      let l = C.core_listed (accepted_sound s ok) v h c in
      (l.0, l.1, subst (Memᴰ v) (sym (at l.0 l.1)) l.2)

  pub the_plan : Plan s (start_table (communities_of s) ++ x) (member_table (communities_of s) ++ y) (length (communities_of s)) (length (member_table (communities_of s)))
  unfolding communities_of
  the_plan = record {
    exactly = λ P. (
      (λ l. (C.exactly (accepted_sound s ok) P).1 (l.0, to_list P l.0 l.1)),
      (λ d. let l = (C.exactly (accepted_sound s ok) P).0 d in (l.0, from_list P l.0 l.1)),
    );
    once = λ P j k a b.
        let d = (C.exactly (accepted_sound s ok) P).1 (j, to_list P j a) in
        let c = d.has_core in
        core_one c.0 j k c.2 a.place b.place ((a.same c.0).0 c.1) ((b.same c.0).0 c.1);
    core_listed = core_some;
    core_once = core_one;
    bound = memberships_bound s ok;
  }

planned_law : (s ss ms : List ℕ) (a : Result Counts Refusal) (ss' ms' : List ℕ) → Accepted s → LongEnough s ss ms → PlanCall s ss ms a ss' ms'
    → (g : ℕ) × (c : ℕ) × (a ≡ made g c) × Plan s ss' ms' g c
planned_law s ss ms a ss' ms' ok room call =
    let gs : List (List ℕ) = communities_of s in
    let x : List ℕ = drop (length (start_table gs)) ss in
    let y : List ℕ = drop (length (member_table gs)) ms in
    let p : ss' ≡ start_table gs ++ x = call.starts ∙ starts_made s ss ms ok room in
    let q : ms' ≡ member_table gs ++ y = call.members ∙ members_made s ss ms ok room in (
      length gs,
      length (member_table gs),
      answer_is call ∙ plan_made s ss ms ok room,
      subst (λ (l : List ℕ). Plan s l ms' (length gs) (length (member_table gs))) (sym p)
          (subst (λ (l : List ℕ). Plan s (start_table gs ++ x) l (length gs) (length (member_table gs))) (sym q) (the_plan s ok x y)),
    )

-- a call on an accepted image that answered counts had room, and counted the communities
pub room_of : (s ss ms ss' ms' : List ℕ) (g c : ℕ) → Accepted s → PlanCall s ss ms (made g c) ss' ms'
    → LongEnough s ss ms × (length (communities_of s) ≡ g) × (length (member_table (communities_of s)) ≡ c)
unfolding plan_of
room_of s ss ms ss' ms' g c ok call =
    let e : planned (communities_of s) (length ss) (length ms) ≡ made g c = sym (when_accepted s _ _ ok) ∙ sym (answer_is call) in
    let r = made_room (communities_of s) (length ss) (length ms) g c e in
    ((r.0, r.1), r.2, r.3)

-- ---- the second image

module _ (s t : List ℕ) (r : Renumbered s t) (ok : Accepted s) where
  ok_t : Accepted t
  ok_t = accepted_too s t r ok

  standings : (v : ℕ) → v < handset_count s → (a b : Result Standing Refusal) → known_answer a ≡ known_answer (known_of s v) → known_answer b ≡ known_answer (known_of t (r.map.to v))
      → SameStanding a b
  unfolding standing
  standings v h a b d e =
      let w : ℕ = r.map.to v in
      record {
        x = standing s v;
        y = standing t w;
        first = known_same _ _ d ∙ known_handset s ok v h;
        second = known_same _ _ e ∙ known_handset t ok_t w (subst (λ (n : ℕ). w < n) (sym (same_handsets s t r ok)) (r.map.to_below v h));
        same_neighbours = sym (image_neighbours s t r ok v h);
        same_role = image_roles s t r ok v h;
      }

  -- a set and the set numbered on and back are one
  on_back : (P : ℕ → Type 0) → ((v : ℕ) → P v → v < handset_count s) → (Q : ℕ → Type 0) → ((w : ℕ) → NumberedBack (inverse r.map) P w ↔ Q w)
      → (v : ℕ) → P v ↔ NumberedBack r.map Q v
  on_back P below Q same v = (
    (λ p.
        let h : v < handset_count s = below v p in
        (h, (same (r.map.to v)).0 (r.map.to_below v h, subst P (sym (r.map.back_to v h)) p))),
    (λ q. subst P (r.map.back_to v q.0) ((same (r.map.to v)).1 q.1).1),
  )

  module _ (x y x' y' : List ℕ) where
    count_same : length (communities_of s) ≡ length (communities_of t)
    unfolding communities_of
    count_same = image_communities s t r ok

    -- the set that group k of the second plan is
    InSecond : ℕ → ℕ → Type 0
    InSecond k w = Memᴰ w (group (start_table (communities_of t) ++ x') (member_table (communities_of t) ++ y') k)

    same_sets : (P : ℕ → Type 0)
        → D.Listed (start_table (communities_of s) ++ x) (member_table (communities_of s) ++ y) (length (communities_of s)) P
        ↔ ((k : ℕ) × (k < length (communities_of s)) × ((v : ℕ) → P v ↔ NumberedBack r.map (InSecond k) v))
    unfolding InSecond
    same_sets P = (
      (λ l.
          let d : IsCommunity (network s) P = ((the_plan s ok x y).exactly P).0 l in
          let e = community_numbered_on s t r ok P d in
          let m = ((the_plan t ok_t x' y').exactly (NumberedBack (inverse r.map) P)).1 e in (
            m.0,
            subst (λ (n : ℕ). m.0 < n) (sym count_same) m.1.place,
            on_back P d.handset (InSecond m.0) m.1.same,
          )),
      (λ l.
          let Q : ℕ → Type 0 = InSecond l.0 in
          let e : IsCommunity (network t) Q =
          ((the_plan t ok_t x' y').exactly Q).0
          (l.0, record { place = subst (λ (n : ℕ). l.0 < n) count_same l.1; same = λ v. ((λ z. z), (λ z. z)) }) in
          let m = ((the_plan s ok x y).exactly (NumberedBack r.map Q)).1 (community_numbered_back s t r ok Q e) in (
            m.0,
            record {
              place = m.1.place;
              same = λ v. ((λ p. (m.1.same v).0 ((l.2 v).0 p)), (λ q. (l.2 v).1 ((m.1.same v).1 q)));
            },
          )),
    )

-- the second image's call has room where the first one's had
again_law : (s t : List ℕ) (r : Renumbered s t) (ss ms ss' ms' : List ℕ) (g c : ℕ) → Accepted s
    → PlanCall s ss ms (made g c) ss' ms' → Again s t r ss ms ss' ms' g c
unfolding InSecond communities_of
again_law s t r ss₀ ms₀ ss' ms' g c ok call =
    let f = room_of s ss₀ ms₀ ss' ms' g c ok call in
    let ok' : Accepted t = ok_t s t r ok in
    let n : length (communities_of s) ≡ length (communities_of t) = image_communities s t r ok in
    let m : length (member_table (communities_of s)) ≡ length (member_table (communities_of t)) = image_memberships s t r ok in
    let room : (a b : List ℕ) → length ss₀ ≤ length a → length ms₀ ≤ length b → LongEnough t a b =
    λ a b p q. (omega (arith, f.0.0, n), omega (arith, f.0.1, m)) in
    record {
      accepted = opened t ok';
      not_refused = λ a b z a' b' p q call'.
          answer_is call' ∙ plan_made t a b ok' (room a b p q) ∙ ap₂ made (sym n ∙ f.1) (sym m ∙ f.2);
      same_sets = λ a b z a' b' p q call' P.
          let e1 : ss' ≡ over (start_table (communities_of s)) ss₀ = call.starts ∙ starts_made s ss₀ ms₀ ok f.0 in
          let e2 : ms' ≡ over (member_table (communities_of s)) ms₀ = call.members ∙ members_made s ss₀ ms₀ ok f.0 in
          let e3 : a' ≡ over (start_table (communities_of t)) a = call'.starts ∙ starts_made t a b ok' (room a b p q) in
          let e4 : b' ≡ over (member_table (communities_of t)) b = call'.members ∙ members_made t a b ok' (room a b p q) in
          rw (e1, e2, e3, e4, ← f.1)
          (same_sets s t r ok (drop (length (start_table (communities_of s))) ss₀) (drop (length (member_table (communities_of s))) ms₀)
          (drop (length (start_table (communities_of t))) a) (drop (length (member_table (communities_of t))) b) P);
      same_roles = standings s t r ok;
    }

pub demand3 : Demand3
demand3 = record { planned = planned_law; renumbered = again_law }

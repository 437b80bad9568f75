-- The theorems of specs/Meaning. The answer over all groups is right of their members (proofs/Right), two that are nearest are the same, and each community
-- has a member.
use Rattle.std.specs.Prelude.{Err, None, Ok}
use Prim.Native.Nat.{ℕ, ◌<◌}
use native.Mathlib.Omega.{arith}
use mathlib.Core.Path.{◌≡◌, refl, sym, ap, ◌∙◌, subst}
use mathlib.Core.Logic.{◌↔◌}
use mathlib.Core.List.{List, [], ◌∷◌}
use lib.Dec.{T}
use lib.IntN.{ℤ}
use lib.ListN.{length, get_or}
use Rattle.sets.proofs.Tests.{T_true, T_false}
use Rattle.image.specs.Questions.{Accepted}
use Rattle.image.specs.declared.Refusal.{Refusal}
use Rattle.community.specs.Site.{network, communities_of}
use Rattle.community.proofs.Site.{accepted_sound}
use Rattle.community.proofs.Communities.{leader, leader_member}
use Rattle.points.specs.Points.{point_in_limits, distance_to}
use Rattle.nearest.specs.Nearest.{Nearest, group_found, nearest_among, nearest_in}
use Rattle.nearest.specs.Meaning.{NearestCall, Member, IsNearest, NearestMeans}
use Rattle.nearest.proofs.Right.{Right, groups_right, nearest_is}
use Rattle.nearest.proofs.Rows.{some_member}
use Rattle.nearest.proofs.Answers.{nearest_same, refused_answer, past_answer, inside_answer}

-- ---- of the call

empty_list : (gs : List (List ℕ)) → (0 < length gs → ⊥) → gs ≡ []
empty_list [] h = refl
empty_list (x ∷ gs) h = absurd (h (omega arith))

module _ (s : List ℕ) (p : List ℤ) (a : Nearest) (ok : Accepted s) (inside : T (point_in_limits p)) (call : NearestCall s p a) where
  answer_is : a ≡ nearest_in (distance_to s p) (communities_of s)
  answer_is = nearest_same _ _ call ∙ sym (inside_answer s p ok (T_true (point_in_limits p) inside))

  answer_right : Right (distance_to s p) (Member (communities_of s)) a
  unfolding nearest_in
  answer_right =
      subst (Right (distance_to s p) (Member (communities_of s))) (sym answer_is)
      (groups_right (distance_to s p) (λ k. get_or (communities_of s) k []) (length (communities_of s)) (some_member s ok))

  group_law : (k d : ℕ) → (a ≡ group_found k d) ↔ IsNearest (distance_to s p) (Member (communities_of s)) k d
  group_law k d = (
    (λ e. subst (Right (distance_to s p) (Member (communities_of s))) e answer_right),
    (λ n. nearest_is (distance_to s p) (Member (communities_of s)) a k d answer_right n),
  )

  no_groups_law : (a ≡ Ok None) ↔ (communities_of s ≡ [])
  unfolding communities_of nearest_in nearest_among
  no_groups_law = (
    (λ e. empty_list (communities_of s) (λ h.
        subst (Right (distance_to s p) (Member (communities_of s))) e answer_right 0 (leader (network s) 0) (h, leader_member (accepted_sound s ok) 0 h))),
    (λ e. answer_is ∙ ap (nearest_in (distance_to s p)) e),
  )

  not_refused_law : (r : Refusal) → a ≡ Err r → ⊥
  not_refused_law r e = subst (Right (distance_to s p) (Member (communities_of s))) e answer_right

pub nearest_means : NearestMeans
nearest_means = record {
  group = group_law;
  no_groups = no_groups_law;
  not_refused = not_refused_law;
  image_first = λ s p a r e call. nearest_same _ _ call ∙ sym (refused_answer s p r e);
  out_of_limits_lem = λ s p a ok t call. nearest_same _ _ call ∙ sym (past_answer s p ok (T_false (point_in_limits p) t));
}

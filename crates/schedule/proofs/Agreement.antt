-- The cases of the choice, and that the call and its companion agree: in a plan both are the lookup's, which agree.
--
--     no_date, no_minutes, chosen     the choice, by the answers to questions 18 and 19
--     workday, restday                the plan for a time
--     agreement                       the call and its companion agree
use Rattle.std.specs.Prelude.{Err, Ok, Result}
use Prim.Native.Nat.{ℕ}
use mathlib.Core.Path.{◌≡◌, refl, ap}
use mathlib.Core.Logic.{◌⊎◌, inl, inr, ⊎_elim}
use mathlib.Core.Bool.{Bool, true, false}
use mathlib.Core.List.{List, []}
use lib.Dec.{not_T}
use lib.ListN.{length}
use Rattle.sets.proofs.Tests.{T_true, T_false}
use Rattle.image.specs.Answers.{refusal}
use Rattle.image.specs.declared.Refusal.{Refusal}
use Rattle.lookup.specs.Lookup.{members_of, looked_of}
use Rattle.lookup.proofs.Agreement as lookup
use Rattle.schedule.specs.declared.Time.{Time}
use Rattle.schedule.specs.declared.Window.{Window}
use Rattle.schedule.specs.declared.Day.{Day}
use Rattle.schedule.specs.declared.Day.TheVariants.{Workday, Restday}
use Rattle.schedule.specs.declared.Scheduled.{Scheduled}
use Rattle.schedule.specs.Schedule.{date_fits, minutes_fit, is_working, plan_at, choice_of, part_of, found_in, in_plan, scheduled_of, Agreement}

module _ (t : Time) (w : Window) where
  pub no_date : date_fits t ≡ false → choice_of t w ≡ Err (refusal 18)
  unfolding choice_of
  no_date a = simp a

  pub no_minutes : date_fits t ≡ true → minutes_fit t w ≡ false → choice_of t w ≡ Err (refusal 19)
  unfolding choice_of
  no_minutes a b = simp (a, b)

  pub chosen : date_fits t ≡ true → minutes_fit t w ≡ true → choice_of t w ≡ Ok (plan_at t w)
  unfolding choice_of
  chosen a b = simp (a, b)

  pub workday : is_working t w ≡ true → plan_at t w ≡ Workday
  unfolding plan_at
  workday e = simp e

  pub restday : is_working t w ≡ false → plan_at t w ≡ Restday
  unfolding plan_at
  restday e = simp e

-- an answer in a plan is the lookup's, and names that plan
found_lem : (d e : Day) (l : Result ℕ Refusal) (n : ℕ) → in_plan d l ≡ found_in e n → (d ≡ e) × (l ≡ Ok n)
found_lem d e (Ok m) n f =
    let z : ◌≡◌ {A = Scheduled} (record { day = d; count = m }) (record { day = e; count = n }) = cc in
    (ap (λ (s : Scheduled). s.day) z, ap Ok (ap (λ (s : Scheduled). s.count) z))
found_lem d e (Err r) n f = absurd cc

refused_lem : (d : Day) (l : Result ℕ Refusal) (r : Refusal) → in_plan d l ≡ Err r → l ≡ Err r
refused_lem d (Ok m) r f = absurd cc
refused_lem d (Err q) r f = cc

module _ (k : ℕ) (starts members starts' members' : List ℕ) where
  abbrev pub part : Result Day Refusal → List ℕ
  part c = part_of c (members_of starts members k) (members_of starts' members' k)

  abbrev pub answer : Result Day Refusal → Result Scheduled Refusal
  answer c = scheduled_of c (looked_of starts members k) (looked_of starts' members' k)

  refused : (c : Result Day Refusal) (r : Refusal) → answer c ≡ Err r → (part c ≡ []) × ((c ≡ Err r) ⊎ (r ≡ refusal 14))
  unfolding part_of scheduled_of
  refused (Ok Workday) r e = let a = (lookup.agree starts members k).refused r (refused_lem Workday _ r e) in (a.2, inr a.1)
  refused (Ok Restday) r e = let a = (lookup.agree starts' members' k).refused r (refused_lem Restday _ r e) in (a.2, inr a.1)
  refused (Err q) r e = (refl, inl e')
    where
      e' : ◌≡◌ {A = Result Day Refusal} (Err q) (Err r)
      e' = cc

  workday_counted : (c : Result Day Refusal) (n : ℕ) → answer c ≡ found_in Workday n → (c ≡ Ok Workday) × (n ≡ length (part c))
  unfolding part_of scheduled_of
  workday_counted (Ok Workday) n e = (refl, ((lookup.agree starts members k).found n (found_lem Workday Workday _ n e).1).2)
  workday_counted (Ok Restday) n e = let z : Restday ≡ Workday = (found_lem Restday Workday _ n e).0 in absurd cc
  workday_counted (Err q) n e = absurd cc

  restday_counted : (c : Result Day Refusal) (n : ℕ) → answer c ≡ found_in Restday n → (c ≡ Ok Restday) × (n ≡ length (part c))
  unfolding part_of scheduled_of
  restday_counted (Ok Workday) n e = let z : Workday ≡ Restday = (found_lem Workday Restday _ n e).0 in absurd cc
  restday_counted (Ok Restday) n e = (refl, ((lookup.agree starts' members' k).found n (found_lem Restday Restday _ n e).1).2)
  restday_counted (Err q) n e = absurd cc

-- a choice that is no plan is 18 or 19
neither : (t : Time) (w : Window) (r : Refusal) → choice_of t w ≡ Err r → (r ≡ refusal 18) ⊎ (r ≡ refusal 19)
neither t w r e = go (date_fits t) (minutes_fit t w) refl refl
  where
    go : (a b : Bool) → date_fits t ≡ a → minutes_fit t w ≡ b → (r ≡ refusal 18) ⊎ (r ≡ refusal 19)
    go false b p q = let f = no_date t w p in inl cc
    go true false p q = let f = no_minutes t w p q in inr cc
    go true true p q = let f = chosen t w p q in absurd cc

pub agreement : Agreement
unfolding part_of scheduled_of
agreement t w k starts members starts' members' = record {
  no_date = λ a. rw (no_date t w (T_false (date_fits t) (not_T (date_fits t) a)));
  no_minutes = λ a b. rw (no_minutes t w (T_true (date_fits t) a) (T_false (minutes_fit t w) (not_T (minutes_fit t w) b)));
  workday = λ a b e. rw (chosen t w (T_true _ a) (T_true _ b), e) (refl, refl);
  restday = λ a b e. rw (chosen t w (T_true _ a) (T_true _ b), e) (refl, refl);
  in_workday = λ n e. workday_counted k starts members starts' members' (choice_of t w) n e;
  in_restday = λ n e. restday_counted k starts members starts' members' (choice_of t w) n e;
  refused = λ r e.
      let a = refused k starts members starts' members' (choice_of t w) r e in (
        a.0,
        ⊎_elim (λ c. ⊎_elim inl (λ x. inr (inl x)) (neither t w r c)) (λ x. inr (inr x)) a.1,
      );
}

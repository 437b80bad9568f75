-- Two answers of the companion with the same number, place and values are the same answer: a refusal has no values, and which plan and the count are values.
use Rattle.std.specs.Prelude.{Err, Ok, Result, cond}
use Prim.Native.Nat.{ℕ}
use lib.Dec.{eqb}
use mathlib.Core.Path.{◌≡◌, refl, sym, ap, ◌∙◌}
use mathlib.Core.List.{List, [], ◌∷◌}
use lib.ListN.{get_or}
use Rattle.image.specs.Answers.{Answer}
use Rattle.image.proofs.Answers.{given_refused, refused_same}
use Rattle.schedule.specs.Answers.{table_number, scheduled_answer, OneAnswer}
use Rattle.schedule.specs.declared.Day.{Day}
use Rattle.schedule.specs.declared.Day.TheVariants.{Workday, Restday}
use Rattle.schedule.specs.declared.Scheduled.{Scheduled}
use Rattle.image.specs.declared.Refusal.{Refusal}

-- the plan and the count that a list of values stands for
read : List ℕ → Scheduled
read l = record { day = cond (eqb (get_or l 0 0) 0) Workday Restday; count = get_or l 1 0 }

read_lem : (d : Day) (n : ℕ) → read (table_number d ∷ n ∷ []) ≡ record { day = d; count = n }
unfolding read
read_lem Workday n = refl
read_lem Restday n = refl

pub scheduled_same : (a b : Result Scheduled Refusal) → scheduled_answer a ≡ scheduled_answer b → a ≡ b
scheduled_same (Ok s) (Ok t) e = ap Ok (sym (read_lem s.day s.count) ∙ ap (λ (a : Answer). read a.values) e ∙ read_lem t.day t.count)
scheduled_same (Ok s) (Err r) e = given_refused _ _ r e
scheduled_same (Err r) (Ok s) e = given_refused _ _ r (sym e)
scheduled_same (Err r) (Err q) e = ap Err (refused_same r q e)

pub one_answer : OneAnswer
one_answer = record { scheduled = scheduled_same }

-- `dates::Date::weekday` meets its contract: the weekday follows from the day number, where there is one.
use Rattle.std.specs.Prelude.{Some}
use Prim.Native.Nat.{ℕ}
use native.Mathlib.Omega.{arith}
use mathlib.Core.Path.{◌≡◌, sym, ◌∙◌}
use mathlib.Core.Bool.{true}
use Rattle.dates.specs.Dates.{date_exists, day_number, day_number_of, weekday_of, if_date}
use Rattle.dates.proofs.IfDate.{held, none}
use Rattle.dates.proofs.Limits.{number_small}
use Rattle.dates.proofs.Date.weekday.Goals as goal

number_of : (y m d k : ℕ) → if_date y m d (day_number_of y m d) ≡ Some k → (date_exists y m d ≡ true) × (k ≡ day_number y m d)
unfolding day_number_of
number_of y m d k e = let h = held y m d _ k e in (h.0, h.1 ∙ simp (h.0))

pub overflow_add-result : goal.overflow_add-result
overflow_add-result c =
    let h = number_of c.args.self.year c.args.self.month c.args.self.day c.in_ok-days.days (sym c.day_number.ensures ∙ c.in_ok-days.was) in
    omega (arith, h.1, number_small c.args.self.year c.args.self.month c.args.self.day h.0)

pub returns-in_err-days : goal.returns-in_err-days
unfolding if_date
returns-in_err-days c =
    let h = none c.args.self.year c.args.self.month c.args.self.day _ (sym c.day_number.ensures ∙ c.in_err-days.was) in
    rw (c.from_residual.ensures) (simp h)

pub returns : goal.returns
unfolding if_date weekday_of
returns c =
    let h = number_of c.args.self.year c.args.self.month c.args.self.day c.in_ok-days.days (sym c.day_number.ensures ∙ c.in_ok-days.was) in
    simp (h.0, h.1)

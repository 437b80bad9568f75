-- `dates::Date::count_days` meets its contract: a date that exists keeps every sum small, and the three results make up the day number.
use native.Mathlib.Omega.{arith}
use Rattle.dates.specs.Dates.{march_month, day_number}
use Rattle.dates.proofs.Limits.{exists_true, march_year_le, day_31, count_337, number_small}
use Rattle.dates.proofs.Date.count_days.Goals as goal

pub march_year-requires : goal.march_year-requires
march_year-requires c = omega (arith, exists_true _ _ _ c.requires)

pub days_before-requires : goal.days_before-requires
days_before-requires c = omega (arith, exists_true _ _ _ c.requires, march_year_le c.args.self.year c.args.self.month)

pub before_month-requires : goal.before_month-requires
before_month-requires c = omega (arith, exists_true _ _ _ c.requires)

pub overflow_add-result : goal.overflow_add-result
overflow_add-result c = omega (arith, day_31 c.args.self.year c.args.self.month c.args.self.day (exists_true _ _ _ c.requires), count_337 (march_month c.args.self.month) (omega arith))

pub overflow_add-result-2 : goal.overflow_add-result-2
unfolding day_number
overflow_add-result-2 c = omega (arith, number_small c.args.self.year c.args.self.month c.args.self.day c.requires, c.march_year.ensures, c.days_before.ensures, c.before_month.ensures)

pub returns : goal.returns
unfolding day_number
returns c = cc

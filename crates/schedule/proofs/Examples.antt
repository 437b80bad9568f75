-- The worked examples, computed.
use mathlib.Core.Path.{refl}
use Rattle.dates.specs.Dates.{is_leap, month_length, date_exists, days_before, day_number, weekday_of}
use Rattle.schedule.specs.Schedule.{date_fits, minutes_fit, is_workday, in_window, is_working, plan_at, choice_of}
use Rattle.schedule.specs.Examples.{Examples}

pub examples : Examples
unfolding is_leap month_length date_exists days_before day_number weekday_of date_fits minutes_fit is_workday in_window is_working plan_at choice_of
examples = record {
  before_opening = refl;
  opening = refl;
  last_minute = refl;
  closing = refl;
  friday = refl;
  saturday = refl;
  sunday = refl;
  monday = refl;
  tuesday = refl;
  wednesday = refl;
  whole_day = refl;
  never = refl;
  never_at_all = refl;
  first_date = refl;
  last_date = refl;
  no_such_day = refl;
  year_1599 = refl;
  year_10000 = refl;
  no_such_day_or_minute = refl;
  no_such_minute = refl;
  closing_late = refl;
  opening_after_closing = refl;
}

-- Times whose plan, or whose refusal, is worked out here by hand (proved in proofs/Examples, as `examples`, by computing).
--
--     at y m d minute     a time
--     from x y            the window from minute x up to minute y
--     hours               the window from 8:00 up to 17:00
--     Examples            the list
use Rattle.std.specs.Prelude.{ℕ, ◌≡◌, Err, Ok}
use Rattle.image.specs.Answers.{refusal}
use Rattle.schedule.specs.declared.Time.{Time}
use Rattle.schedule.specs.declared.Window.{Window}
use Rattle.schedule.specs.declared.Day.TheVariants.{Workday, Restday}
use Rattle.schedule.specs.Schedule.{choice_of}

abbrev pub at : ℕ → ℕ → ℕ → ℕ → Time
at y m d minute = record { date = record { year = y; month = m; day = d }; minute = minute }

abbrev pub from : ℕ → ℕ → Window
from opening closing = record { opening = opening; closing = closing }

abbrev pub hours : Window
hours = from 480 1020

pub record Examples : Type 0 where
  -- Thursday, 29 February 2024: the opening minute is in the window, the closing minute is not
  pub before_opening : choice_of (at 2024 2 29 479) hours ≡ Ok Restday
  pub opening : choice_of (at 2024 2 29 480) hours ≡ Ok Workday
  pub last_minute : choice_of (at 2024 2 29 1019) hours ≡ Ok Workday
  pub closing : choice_of (at 2024 2 29 1020) hours ≡ Ok Restday
  -- the day after, a Friday, and then Saturday to Wednesday, at noon
  pub friday : choice_of (at 2024 3 1 720) hours ≡ Ok Workday
  pub saturday : choice_of (at 2024 3 2 720) hours ≡ Ok Restday
  pub sunday : choice_of (at 2024 3 3 720) hours ≡ Ok Restday
  pub monday : choice_of (at 2024 3 4 720) hours ≡ Ok Workday
  pub tuesday : choice_of (at 2024 3 5 720) hours ≡ Ok Workday
  pub wednesday : choice_of (at 2024 3 6 720) hours ≡ Ok Workday
  -- a window of a whole workday, and windows that are never open
  pub whole_day : choice_of (at 2024 3 4 1439) (from 0 1440) ≡ Ok Workday
  pub never : choice_of (at 2024 3 4 720) (from 720 720) ≡ Ok Restday
  pub never_at_all : choice_of (at 2024 3 4 0) (from 0 0) ≡ Ok Restday
  -- the first date and the last, a Saturday and a Friday
  pub first_date : choice_of (at 1600 1 1 720) hours ≡ Ok Restday
  pub last_date : choice_of (at 9999 12 31 720) hours ≡ Ok Workday
  -- 29 February 1900 does not exist, and no year outside 1600 to 9999 is taken; 18 is asked before 19
  pub no_such_day : choice_of (at 1900 2 29 720) hours ≡ Err (refusal 18)
  pub year_1599 : choice_of (at 1599 12 31 720) hours ≡ Err (refusal 18)
  pub year_10000 : choice_of (at 10000 1 1 720) hours ≡ Err (refusal 18)
  pub no_such_day_or_minute : choice_of (at 1900 2 29 1440) hours ≡ Err (refusal 18)
  -- a minute or a window out of limits, also where the window could not matter: 2 March 2024 is a Saturday
  pub no_such_minute : choice_of (at 2024 3 4 1440) hours ≡ Err (refusal 19)
  pub closing_late : choice_of (at 2024 3 4 720) (from 480 1441) ≡ Err (refusal 19)
  pub opening_after_closing : choice_of (at 2024 3 2 720) (from 721 720) ≡ Err (refusal 19)

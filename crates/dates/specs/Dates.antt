-- Dates of the Gregorian calendar, years 1600 to 9999, their day numbers and weekdays (paper 02, order 4).
--
--     first_year, last_year      the years whose dates are taken: 1600 to 9999
--     is_leap y                 y is a leap year: a multiple of 4, and where it is one of 100 also of 400
--     month_lengths             the days of each month of a common year, from January on
--     month_length y m          how many days month m of the year y has, for m from 1, January, to 12
--     date_exists y m d         there is such a date, in a year from 1600 to 9999
--     day_counts                the paper's twelve day counts: the days before each month, from March on
--     count_before k            the count before month k, with March as 0
--     march_year, march_month    a date's year and month, with March as month 0 of a year
--     days_before y             the days before 1 March of the year y, from 1 March of the year 0 on
--     day_number y m d          the day number of a date; 1 is 1 March of the year 0
--     weekday_number n          the weekday of the day with number n: 0 is Monday, 6 Sunday
--     day_number_of, weekday_of   for any three numbers: 0, and 7, where there is no such date
--     if_date y m d n           n where there is such a date, else none: the calls answer this of the two
--
-- What is proved of them is stated in Calendar.
use Rattle.std.specs.Prelude.{ℕ, ◌+◌, ◌*◌, ◌-◌, ◌/◌, ◌%◌, Bool, ◌&&◌, ◌||◌, not, cond, None, Option, Some, List, [], ◌∷◌, leb, ltb, eqb, get_or}

abbrev pub first_year : ℕ
first_year = 1600

abbrev pub last_year : ℕ
last_year = 9999

unfoldable pub is_leap : ℕ → Bool
is_leap y = eqb (y % 4) 0 && (not (eqb (y % 100) 0) || eqb (y % 400) 0)

abbrev pub month_lengths : List ℕ
month_lengths = 31 ∷ 28 ∷ 31 ∷ 30 ∷ 31 ∷ 30 ∷ 31 ∷ 31 ∷ 30 ∷ 31 ∷ 30 ∷ 31 ∷ []

unfoldable pub month_length : ℕ → ℕ → ℕ
unfolding is_leap
month_length y m = cond (eqb m 2 && is_leap y) 29 (get_or month_lengths (m - 1) 0)

unfoldable pub date_exists : ℕ → ℕ → ℕ → Bool
unfolding month_length
date_exists y m d = leb 1 m && (leb m 12 && (leb first_year y && (leb y last_year && (leb 1 d && leb d (month_length y m)))))

abbrev pub day_counts : List ℕ
day_counts = 0 ∷ 31 ∷ 61 ∷ 92 ∷ 122 ∷ 153 ∷ 184 ∷ 214 ∷ 245 ∷ 275 ∷ 306 ∷ 337 ∷ []

abbrev pub count_before : ℕ → ℕ
count_before k = get_or day_counts k 0

-- January and February belong to the year before
abbrev pub march_year : ℕ → ℕ → ℕ
march_year y m = cond (ltb m 3) (y - 1) y

-- March is 0, February 11
abbrev pub march_month : ℕ → ℕ
march_month m = (m + 9) % 12

unfoldable pub days_before : ℕ → ℕ
days_before y = 365 * y + (y / 4 + y / 400 - y / 100)

unfoldable pub day_number : ℕ → ℕ → ℕ → ℕ
unfolding days_before
day_number y m d = days_before (march_year y m) + (count_before (march_month m) + d)

abbrev pub weekday_number : ℕ → ℕ
weekday_number n = (n + 1) % 7

unfoldable pub day_number_of : ℕ → ℕ → ℕ → ℕ
unfolding date_exists day_number
day_number_of y m d = cond (date_exists y m d) (day_number y m d) 0

unfoldable pub weekday_of : ℕ → ℕ → ℕ → ℕ
unfolding date_exists day_number
weekday_of y m d = cond (date_exists y m d) (weekday_number (day_number y m d)) 7

unfoldable pub if_date : ℕ → ℕ → ℕ → ℕ → Option ℕ
unfolding date_exists
if_date y m d n = cond (date_exists y m d) (Some n) None

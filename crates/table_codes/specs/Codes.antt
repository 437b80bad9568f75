-- The answers of the calls on tables as the numbers that C gets: 0 or more for success, less than 0 for a refusal (refusals/specs/Refusals).
-- include/divanegret.h says the same to a C reader.
--
--     count_code c       the count of a group's members, or the length of an image that was written
--     scheduled_code s   a group at a time: which member table, 0 for the first plan's and 1 for the second's, + 2 times the count of its members
--
-- Where a number might be larger than its share of the code, it is cut off at the end of that share. No call's answer is that large: divanegret/specs/Lossless.
use Rattle.std.specs.Prelude.{ℕ, ◌+◌, ◌*◌, min, ℤ, pos, Err, Ok, Result}
use Rattle.refusals.specs.Refusals.{refusal_code}
use Rattle.schedule.specs.declared.Scheduled.{Scheduled}
use Rattle.image.specs.declared.Refusal.{Refusal}
use Rattle.schedule.specs.Answers.{table_number}

abbrev pub count_code : Result ℕ Refusal → ℤ
count_code (Ok n) = pos (min n 9223372036854775807)
count_code (Err r) = refusal_code r

abbrev pub scheduled_code : Result Scheduled Refusal → ℤ
scheduled_code (Ok s) = pos (table_number s.day + 2 * min s.count 4611686018427387903)
scheduled_code (Err r) = refusal_code r

-- The answers of the calls on an image as the numbers that C gets: 0 or more for success, less than 0 for a refusal (refusals/specs/Refusals). include/divanegret.h says the same to a C reader.
--
--     open_code o        an opened image: n + 65,536 m
--     plan_code p        a plan: groups + 65,536 memberships
--     kind_code role     a role: its kind (0 core, 1 border, 2 outlier) + 65,536 times its community's number or its count of communities
--     role_code k        a handset: its role + 2 ^ 32 times its near count
--     tally_code t       a list: o + 65,536 t + 2 ^ 36 s
--     nearest_code n     the nearest group: 1 + 2 times its number + 65,536 times its squared distance, or 0 where there are no groups
--     report_code r      a report: the text's length, or the refusal's number made negative
--
-- Where a number might be larger than its share of the code, it is cut off at the end of that share. No call's answer is that large: divanegret/specs/Lossless.
use Rattle.std.specs.Prelude.{ℕ, ◌+◌, ◌*◌, min, ℤ, pos, neg_ℤ, Err, None, Ok, Result, Some}
use Rattle.refusals.specs.Refusals.{refusal_code}
use Rattle.community.specs.declared.Role.{Role}
use Rattle.community.specs.declared.Role.TheVariants.{Core, Border, Outlier}
use Rattle.nearest.specs.Nearest.{Nearest}
use Rattle.rows.specs.declared.Counts.{Counts}
use Rattle.image.specs.declared.Header.{Header}
use Rattle.image.specs.declared.Refusal.{Refusal}
use Rattle.community.specs.declared.Standing.{Standing}
use Rattle.scores.specs.declared.Tally.{Tally}

abbrev pub open_code : Result Header Refusal → ℤ
open_code (Ok h) = pos (h.n + 65536 * h.m)
open_code (Err r) = refusal_code r

abbrev pub plan_code : Result Counts Refusal → ℤ
plan_code (Ok c) = pos (min c.groups 65535 + 65536 * min c.memberships 65535)
plan_code (Err r) = refusal_code r

abbrev pub kind_code : Role → ℕ
kind_code (Core k) = 0 + 65536 * min k 65535
kind_code (Border k) = 1 + 65536 * min k 65535
kind_code Outlier = 2

abbrev pub role_code : Result Standing Refusal → ℤ
role_code (Ok x) = pos (kind_code x.role + 4294967296 * min x.neighbours 65535)
role_code (Err r) = refusal_code r

abbrev pub tally_code : Result Tally Refusal → ℤ
tally_code (Ok x) = pos (min x.leaving 65535 + 65536 * min x.joined 1048575 + 68719476736 * min x.pairs 1048575)
tally_code (Err r) = refusal_code r

abbrev pub nearest_code : Nearest → ℤ
nearest_code (Ok (Some g)) = pos (1 + 2 * min g.group 32767 + 65536 * min g.squared_distance 140737488355327)
nearest_code (Ok None) = pos 0
nearest_code (Err r) = refusal_code r

abbrev pub report_code : Result ℕ Refusal → ℤ
report_code (Ok n) = pos (min n 9223372036854775807)
report_code (Err r) = neg_ℤ (pos r.number)

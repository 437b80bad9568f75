-- What an answer for a date says: `held`, that the date exists, with the number; `none`, that it does not; `told`, the number that stands for none, where the
-- answer is taken for a number.
use Rattle.std.specs.Prelude.{None, Some}
use Rattle.std.specs.Option.{unwrap_or}
use Prim.Native.Nat.{ℕ}
use mathlib.Core.Path.{◌≡◌, refl}
use mathlib.Core.Bool.{Bool, true, false, cond}
use Rattle.dates.specs.Dates.{date_exists, if_date}

pub held : (y m d n k : ℕ) → if_date y m d n ≡ Some k → (date_exists y m d ≡ true) × (k ≡ n)
unfolding if_date
held y m d n k = go (date_exists y m d)
  where
    go : (b : Bool) → cond b (Some n) None ≡ Some k → (b ≡ true) × (k ≡ n)
    go true e = (refl, cc)
    go false e = absurd cc

pub none : (y m d n : ℕ) → if_date y m d n ≡ None → date_exists y m d ≡ false
unfolding if_date
none y m d n = go (date_exists y m d)
  where
    go : (b : Bool) → cond b (Some n) None ≡ None → b ≡ false
    go true e = absurd cc
    go false e = refl

pub told : (y m d n k : ℕ) → unwrap_or (if_date y m d (cond (date_exists y m d) n k)) k ≡ cond (date_exists y m d) n k
unfolding if_date
told y m d n k = go (date_exists y m d)
  where
    go : (b : Bool) → unwrap_or (cond b (Some (cond b n k)) None) k ≡ cond b n k
    go true = refl
    go false = refl

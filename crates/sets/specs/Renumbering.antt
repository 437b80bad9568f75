-- Numbers changed for each other.
--
--     Renumbering n    a map of the numbers below n one-to-one onto themselves, with its inverse
use Rattle.std.specs.Prelude.{ℕ, ◌<◌, ◌≡◌}

pub record Renumbering (n : ℕ) : Type 0 where
  pub to : ℕ → ℕ
  pub back : ℕ → ℕ
  pub to_below : (v : ℕ) → v < n → to v < n
  pub back_below : (v : ℕ) → v < n → back v < n
  pub back_to : (v : ℕ) → v < n → back (to v) ≡ v
  pub to_back : (v : ℕ) → v < n → to (back v) ≡ v

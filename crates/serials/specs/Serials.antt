-- What is carried from credential to credential.
use Rattle.std.specs.Prelude.{◌≡◌, ◌⊎◌, List, ℕ, ◌<◌, ◌≤◌}
use Rattle.file.specs.Format.{serial_of}

-- x is the greatest serial of the first n credentials, or 0 where there are none
pub record Greatest (f : List ℕ) (n x : ℕ) : Type 0 where
  pub bound : (j : ℕ) → j < n → serial_of f j ≤ x
  pub reached : ((n ≡ 0) × (x ≡ 0)) ⊎ ((j : ℕ) × (j < n) × (serial_of f j ≡ x))

-- i is the first of n positions whose credential has the serial x, or n
pub record FirstWith (f : List ℕ) (n x i : ℕ) : Type 0 where
  pub within : i ≤ n
  pub before : (j : ℕ) → j < i → ¬ (serial_of f j ≡ x)
  pub here : i < n → serial_of f i ≡ x

-- Lengths of the lent lists as bytes: the test for 9, and what completing on bytes asks.
use Rattle.std.specs.Prelude.{◌≡◌, Bool, ◌&&◌, ℕ, ◌*◌, ◌/◌, ◌%◌, ◌≤◌, eqb, length}
use Rattle.file.specs.Reading.{between}
use Rattle.completing.specs.Completing.{Lent}

-- so many bytes each: whole entries of one length, 1 to 1,024
abbrev pub table_fits : ℕ → ℕ → ℕ → Bool
table_fits r s p = (eqb (r % 4) 0 && eqb (s % 4) 0 && eqb (p % 8) 0) && (eqb (s / 4) (r / 4) && eqb (p / 8) (r / 4) && between 1 1024 (r / 4))

-- the bytes of n entries each, at most 1,024
pub record TableSizes (b : Lent) (n : ℕ) : Type 0 where
  pub roles : length b.roles ≡ 4 * n
  pub sets : length b.sets ≡ 4 * n
  pub spans : length b.spans ≡ 8 * n
  pub few : n ≤ 1024

-- Lengths of step lists as bytes: the test for 9, and what querying and checking on bytes ask.
use Rattle.std.specs.Prelude.{◌≡◌, Bool, ◌&&◌, ℕ, ◌*◌, ◌/◌, ◌%◌, ◌≤◌, eqb, length}
use Rattle.file.specs.Reading.{between}
use Rattle.asking.specs.Asking.{StepLists}

-- so many bytes each: whole entries of one length, 1 to 1,024
abbrev pub steps_fit : ℕ → ℕ → ℕ → ℕ → Bool
steps_fit c f s r =
    (eqb (c % 4) 0 && eqb (f % 4) 0 && eqb (s % 4) 0 && eqb (r % 4) 0)
    && (eqb (f / 4) (c / 4) && eqb (s / 4) (c / 4) && eqb (r / 4) (c / 4) && between 1 1024 (c / 4))

-- the bytes of n entries each, at most 1,024
pub record StepSizes (b : StepLists) (n : ℕ) : Type 0 where
  pub credential : length b.credential ≡ 4 * n
  pub first : length b.first ≡ 4 * n
  pub second : length b.second ≡ 4 * n
  pub sets : length b.sets ≡ 4 * n
  pub few : n ≤ 1024

-- four lists as long as the first
pub record Rooms (t : StepLists) : Type 0 where
  pub first : length t.first ≡ length t.credential
  pub second : length t.second ≡ length t.credential
  pub sets : length t.sets ≡ length t.credential

-- What the text of a set is shown to mean.
use mathlib.Core.Path.{◌≡◌}
use Prim.Native.Nat.{ℕ, ◌^◌, ◌<◌}
use Rattle.std.specs.Prelude.{Some}
use Rattle.sets.specs.Sets.{set_text, set_in}
use Rattle.sets.proofs.SetReading as SetReading

-- A set of one to 32 entities that is written in braces is read back.
pub set-read : (X : ℕ) → 0 < X → X < 2 ^ 32 → set_in (set_text X) ≡ Some X
set-read = SetReading.set-read

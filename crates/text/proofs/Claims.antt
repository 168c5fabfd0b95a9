-- What text is shown to mean.
use mathlib.Core.Path.{◌≡◌}
use Prim.Native.Nat.{ℕ, ◌^◌, ◌<◌}
use Rattle.text.specs.Lines.{decimal}
use Rattle.text.specs.Numbers.{number_in}
use Rattle.std.specs.Prelude.{Some}
use Rattle.text.proofs.Reading as Reading

-- A number of up to 32 bits that is written in decimal is read back.
pub decimal-read : (x : ℕ) → x < 2 ^ 32 → number_in (decimal x) ≡ Some x
decimal-read = Reading.decimal-read

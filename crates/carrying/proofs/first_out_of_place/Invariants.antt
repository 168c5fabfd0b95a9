-- The serials below i are position plus one.
use Prim.Native.Nat.{ℕ, ◌+◌, ◌<◌}
use mathlib.Core.Path.{◌≡◌}
use Rattle.file.specs.Format.{serial_of}
use Rattle.carrying.proofs.first_out_of_place.Given as goal

abbrev pub invariant-loop-i : goal.invariant-loop-i
invariant-loop-i l = (k : ℕ) → k < l.i → serial_of l.file k ≡ k + 1

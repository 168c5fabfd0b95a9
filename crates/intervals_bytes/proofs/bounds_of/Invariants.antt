-- The first i intervals stand in the places.
use Rattle.intervals_bytes.proofs.Bounds.{Placed}
use Rattle.intervals_bytes.proofs.bounds_of.Given as goal

abbrev pub invariant-loop-i : goal.invariant-loop-i
invariant-loop-i l = Placed l.intervals l.i l.bounds

-- The places hold the intervals of the first i spans.
use Prim.Native.Nat.{◌+◌, ◌*◌, ◌≤◌}
use Rattle.meaning.specs.Table.{intervals_to}
use Rattle.ends.proofs.Joining.{Placed}
use Rattle.ends.proofs.join_spans.Given as goal

abbrev pub invariant-loop-i : goal.invariant-loop-i
invariant-loop-i l = (2 * l.n ≤ l.i + 1) × Placed (intervals_to l.fn.ends l.fn.spans l.i) l.intervals l.n

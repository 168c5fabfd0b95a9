-- The entities up to the last comma are in the set.
use Rattle.sets.proofs.Scanning.{Scanned}
use Rattle.sets.proofs.parse_list.Given as goal

abbrev pub invariant-loop-i : goal.invariant-loop-i
invariant-loop-i l = Scanned l.bytes l.set l.from l.i

-- The number is the entry that the bytes from i on are.
use Rattle.codec.proofs.Entries.{Read}
use Rattle.codec.proofs.get.Given as goal

abbrev pub invariant-loop-i : goal.invariant-loop-i
invariant-loop-i l = Read l.src l.i l.number

-- The first i entries are read.
use Rattle.codec.proofs.Entries.{Decoded}
use Rattle.codec.proofs.decode32.Given as goal

abbrev pub invariant-loop-i : goal.invariant-loop-i
invariant-loop-i l = Decoded 4 l.n l.src l.fn.dst l.i l.dst

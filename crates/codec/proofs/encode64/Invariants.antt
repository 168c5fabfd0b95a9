-- The first i entries are written.
use Rattle.codec.proofs.Entries.{Encoded}
use Rattle.codec.proofs.encode64.Given as goal

abbrev pub invariant-loop-i : goal.invariant-loop-i
invariant-loop-i l = Encoded 8 l.n l.src l.fn.dst l.i l.dst

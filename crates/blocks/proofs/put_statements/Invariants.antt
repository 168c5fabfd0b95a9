-- The first i blocks are written.
use Rattle.blocks.specs.Blocks.{serialled}
use Rattle.blocks.proofs.Writing.{Blocks}
use Rattle.blocks.proofs.put_statements.Given as goal

abbrev pub invariant-loop-i : goal.invariant-loop-i
invariant-loop-i l = Blocks l.fn.dst 6 12 l.n (serialled l.src) l.i l.dst

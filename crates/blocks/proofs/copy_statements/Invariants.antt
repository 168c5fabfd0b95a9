-- The first i blocks are written.
use Rattle.blocks.specs.Blocks.{bare}
use Rattle.blocks.proofs.Writing.{Blocks}
use Rattle.blocks.proofs.copy_statements.Given as goal

abbrev pub invariant-loop-i : goal.invariant-loop-i
invariant-loop-i l = Blocks l.fn.dst 6 8 l.n (bare l.src) l.i l.dst

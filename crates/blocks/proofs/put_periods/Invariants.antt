-- The first i blocks are written.
use Rattle.blocks.specs.Blocks.{raised}
use Rattle.blocks.proofs.Writing.{Blocks}
use Rattle.blocks.proofs.put_periods.Given as goal

abbrev pub invariant-loop-i : goal.invariant-loop-i
invariant-loop-i l = Blocks l.fn.dst l.at 8 l.count (raised l.src l.from l.by) l.i l.dst

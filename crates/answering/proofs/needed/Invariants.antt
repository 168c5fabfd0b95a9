-- The turns from i on were taken.
use lib.ListN.{drop}
use Rattle.answering.specs.Marks.{Marked}
use Rattle.answering.proofs.needed.Given as goal

abbrev pub invariant-loop-i : goal.invariant-loop-i
invariant-loop-i l = Marked l.fn.notes l.fn.x l.i (drop 1 l.marks)

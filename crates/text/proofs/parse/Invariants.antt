-- The bytes passed are digits, and say x.
use Rattle.text.proofs.Numbers.{Passed}
use Rattle.text.proofs.parse.Given as goal

abbrev pub invariant-loop-b : goal.invariant-loop-b
invariant-loop-b l = Passed l.bytes l.x l.b-index

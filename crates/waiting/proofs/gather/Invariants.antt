use Rattle.waiting.proofs.Gathering.{Walked}
use Rattle.waiting.proofs.gather.Given as goal

abbrev pub invariant-loop-at : goal.invariant-loop-at
invariant-loop-at l = Walked l.store.keys l.done l.o l.start l.waiting l.q.count l.at

abbrev pub decreases-loop-at : goal.decreases-loop-at
decreases-loop-at l = l.at

-- What was put, with what is still to come, is the whole line.
use Rattle.sentences.proofs.Progress.{Progress}
use Rattle.sentences.proofs.put_filled.Given as goal

abbrev pub invariant-loop-c : goal.invariant-loop-c
invariant-loop-c l = Progress l.fn.start l.s l.words l.out l.c-index

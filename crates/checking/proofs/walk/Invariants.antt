-- The steps before i keep the rules, and what they show is in the lists.
use Rattle.policy.specs.Policy.{credentials_of}
use Rattle.asking.specs.Asking.{step_lists}
use Rattle.checking.specs.Walks.{Walking}
use Rattle.checking.proofs.walk.Given as goal

abbrev pub invariant-loop-i : goal.invariant-loop-i
invariant-loop-i l = Walking (credentials_of l.fn.policy l.fn.n) l.fn.minute (step_lists l.fn.credential l.fn.first l.fn.second l.fn.sets) l.roles l.levels l.i

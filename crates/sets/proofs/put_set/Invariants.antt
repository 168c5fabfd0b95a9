-- The entities below e were put, and a comma is due if there were any.
use Rattle.sets.proofs.Listing.{Below}
use Rattle.sets.proofs.put_set.Given as goal

abbrev pub invariant-loop-e : goal.invariant-loop-e
invariant-loop-e g l = Below l.set l.e l.initial.out l.out l.later

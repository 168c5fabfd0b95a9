-- The uses of the credentials before i are listed.
use Rattle.loading.specs.Steps.{Part}
use Rattle.loading.proofs.load_uses.Given as goal

abbrev pub invariant-loop-i : goal.invariant-loop-i
invariant-loop-i l = Part l.policy l.ends l.count l.i l.uses.codes l.uses.valid l.uses.lists

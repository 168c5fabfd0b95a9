-- On the way down the later entries, the level so far and that of the entry that is next make up the level of entry x.
use Rattle.finding.proofs.Levels.{Down}
use Rattle.finding.proofs.level_of.Given as goal

abbrev pub invariant-loop-at : goal.invariant-loop-at
invariant-loop-at l = Down l.fn.notes l.fn.x l.level l.at

abbrev pub decreases-loop-at : goal.decreases-loop-at
decreases-loop-at l = l.at

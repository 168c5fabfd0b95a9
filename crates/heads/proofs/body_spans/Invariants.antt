use Rattle.heads.proofs.Heads.{AllCover}
use Rattle.heads.proofs.body_spans.Given as goal

abbrev pub invariant-loop-at : goal.invariant-loop-at
invariant-loop-at l = AllCover l.uses.valid l.uses.lists l.body l.at l.all

abbrev pub decreases-loop-at : goal.decreases-loop-at
decreases-loop-at l = l.at

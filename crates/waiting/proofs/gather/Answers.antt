-- What each entry of the list gives is united with what waits.
use Rattle.waiting.specs.Waiting.{United}
use Rattle.waiting.proofs.Uniting.{united-none}
use Rattle.waiting.proofs.Gathering.{walked-full, walked_next}
use Rattle.waiting.proofs.gather.Goals as goal
use Rattle.waiting.proofs.gather.Goals.{then-x-ne0+else-q-eq24, else-x-ne0}

pub returns-then-q-eq24 : goal.returns-then-q-eq24
returns-then-q-eq24 c = walked-full c.loop-at.invariant c.loop-at-test.true c.if-q-eq24.true

-- exactly what the entry at the place gives was added in the turn
turned : (c : goal.After-wide-at) → United c.loop-at.waiting c.loop-at.q c.pair_at-x.result c.if-x-ne0.waiting c.if-x-ne0.q
turned c = elim c.if-x-ne0.branch [
  | then-x-ne0+else-q-eq24 w ↦ rw (w.waiting-is, w.q-is) w.unite-q.ensures
  | else-x-ne0 w ↦ rw (w.waiting-is, w.q-is) (united-none c.loop-at.invariant.waiting w.if-x-ne0.false)
]

pub loop-at-preserved : goal.loop-at-preserved
loop-at-preserved c =
    walked_next c.args.store.now.links c.requires.2 c.requires.0 c.loop-at.invariant c.loop-at-test.true c.wide-at.ensures.0 c.pair_at-x.ensures.pair (turned c)

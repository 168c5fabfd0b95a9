-- The place in the list falls, and the spans of the heads passed are in `all`.
use Rattle.rules.specs.Uses.{body_of_head, heads_in}
use Rattle.heads.proofs.Walks.{lower}
use Rattle.heads.proofs.Heads.{heads-next, covers-start, covers-next}
use Rattle.heads.proofs.body_spans.Goals as goal

pub loop-at-init : goal.loop-at-init
loop-at-init c = covers-start c.first_head-at.result c.requires.low c.first_head-at.ensures

pub loop-at-smaller : goal.loop-at-smaller
loop-at-smaller c =
    let l = c.requires.listed in
    let u = c.args.uses.now in
    lower (body_of_head l.0) c.args.body (heads_in u.lists) c.loop-at.at c.next_head-at.result c.loop-at-test.true
    (heads-next l.1 c.args.body c.loop-at.at c.next_head-at.result c.loop-at-test.true (c.loop-at.invariant l.0 l.1).on c.next_head-at.ensures)

pub loop-at-preserved : goal.loop-at-preserved
loop-at-preserved c = covers-next c.loop-at.at c.next_head-at.result c.loop-at.all c.loop-at.invariant c.loop-at-test.true c.next_head-at.ensures

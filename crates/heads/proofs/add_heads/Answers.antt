-- What the heads of a body give is added, along their list.
use Rattle.std.proofs.Common.{arith, ◌≡◌, ◌-◌}
use Rattle.store.specs.Entries.{latest}
use Rattle.rules.specs.Uses.{body_of_head, heads_in}
use Rattle.heads.proofs.Walks.{lower, along-start, along-end}
use Rattle.heads.proofs.Heads.{heads-start, heads-next, headed-all, heads-over, heads-turn}
use Rattle.heads.proofs.Stores.{adds-full}
use Rattle.heads.proofs.add_heads.Goals as goal

-- the place before
next : (c : goal.After-next_head-at) → c.next_head-at.result ≡ latest (body_of_head c.args.uses.now.codes) c.args.g.body (c.loop-at.at - 1)
next c = heads-next c.requires.ready.listed c.args.g.body c.loop-at.at c.next_head-at.result c.loop-at-test.true c.loop-at.invariant.on c.next_head-at.ensures

pub loop-at-init : goal.loop-at-init
loop-at-init c =
    let p = c.requires.ready in
    along-start p.kept p.few.0 (heads-start p.listed c.args.g.body c.first_head-at.result (omega (arith, p.low, p.listed.few)) c.first_head-at.ensures)

pub returns-in_err-add_head : goal.returns-in_err-add_head
returns-in_err-add_head c =
    let g = c.args.g in
    let k = c.in_err-add_head.ensures in
    adds-full c.from_residual.ensures.0 k.within (heads-over c.args.uses.now.valid g.set g.spans c.loop-at.invariant c.loop-at-test.true k.gains (omega arith))

pub loop-at-smaller : goal.loop-at-smaller
loop-at-smaller c =
    let u = c.args.uses.now in
    lower (body_of_head u.codes) c.args.g.body (heads_in u.lists) c.loop-at.at c.next_head-at.result c.loop-at-test.true (next c)

pub loop-at-preserved : goal.loop-at-preserved
loop-at-preserved c =
    let g = c.args.g in
    let k = c.in_ok-add_head.ensures in
    heads-turn c.args.uses.now.valid g.set g.spans c.loop-at.invariant c.loop-at-test.true k.gains k.within (next c)

pub returns : goal.returns
returns c =
    let g = c.args.g in
    record { gains = headed-all g.set g.spans (along-end c.loop-at.invariant c.loop-at-test.false); within = c.loop-at.invariant.few }

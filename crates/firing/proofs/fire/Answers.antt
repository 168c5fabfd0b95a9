-- `firing::fire` adds what the bodies of a family give, along their list.
use Rattle.std.proofs.Common.{◌≡◌, ◌-◌, arith}
use Rattle.store.specs.Entries.{latest}
use Rattle.rules.specs.Uses.{family_of, bodies_in}
use Rattle.heads.proofs.Walks.{lower, along-start, along-end}
use Rattle.heads.proofs.Stores.{adds-full}
use Rattle.firing.proofs.Firings.{family-low, bodies-start, bodies-next, all-fires, fired-over, fired-next}
use Rattle.firing.proofs.fire.Goals as goal

-- the place before
next : (c : goal.After-next_body-at) → c.next_body-at.result ≡ latest (family_of c.args.uses.now.codes) c.args.family (c.loop-at.at - 1)
next c = bodies-next c.requires.listed.0 c.args.family c.loop-at.at c.next_body-at.result c.loop-at-test.true c.loop-at.invariant.on c.next_body-at.ensures

pub loop-at-init : goal.loop-at-init
loop-at-init c =
    let r = c.requires in
    let e = c.args.t.e in
    along-start r.held.kept r.few.0 (bodies-start r.listed.0 c.args.family c.first_body-at.result (family-low c.args.store.now.keys e c.args.family (r.held.kept.stored.roles e r.firing.low) r.family) c.first_body-at.ensures)

pub returns-in_err-fire_body : goal.returns-in_err-fire_body
returns-in_err-fire_body c =
    let r = c.requires in
    let b = c.in_err-fire_body.ensures in
    adds-full c.from_residual.ensures.0 b.within (all-fires r.listed.0 (fired-over c.args.t.spans r.held.fresh r.firing.low c.loop-at.invariant c.loop-at-test.true b.gains (omega arith)))

pub loop-at-smaller : goal.loop-at-smaller
loop-at-smaller c =
    let u = c.args.uses.now in
    lower (family_of u.codes) c.args.family (bodies_in u.lists) c.loop-at.at c.next_body-at.result c.loop-at-test.true (next c)

pub loop-at-preserved : goal.loop-at-preserved
loop-at-preserved c =
    let r = c.requires in
    let b = c.in_ok-fire_body.ensures in
    fired-next c.args.t.spans r.held.fresh r.firing.low c.loop-at.invariant c.loop-at-test.true b.gains b.within (next c)

pub returns : goal.returns
returns c = record { gains = all-fires c.requires.listed.0 (along-end c.loop-at.invariant c.loop-at-test.false); within = c.loop-at.invariant.few }

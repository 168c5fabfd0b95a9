use native.Mathlib.Omega.{arith}
use Rattle.std.proofs.lemmas.Result.{err_from_is_err_and}
use Rattle.waiting.proofs.Linking.{stored-lists, lists-less}
use Rattle.portions.proofs.Gathering.{portion-over, portion-next}
use Rattle.portions.proofs.with_heads.Goals as goal

pub gather-g-requires : goal.gather-g-requires
gather-g-requires c =
    let p = c.requires in
    let l = c.loop-at in
    let v = l.invariant in
    let m = (v.gains.grown v.few).more in
    let w = v.on c.loop-at-test.true in
    (p.plan.1, omega (arith, p.ready.few, p.plan), lists-less l.store.keys l.store.links l.at (omega (arith, p.plan)) (stored-lists (v.gains.kept v.few).stored))

pub returns-in_err-add_waiting : goal.returns-in_err-add_waiting
returns-in_err-add_waiting c =
    let e = err_from_is_err_and c.from_residual.result c.from_residual.ensures.1 in
    let h = c.in_err-add_waiting.ensures in
    rw e.1
    (record { gains = portion-over c.args.p.offer c.loop-at.invariant c.requires.plan.0 c.loop-at-test.true c.gather-g.ensures h.gains (omega arith); within = h.within })

pub loop-at-preserved : goal.loop-at-preserved
loop-at-preserved c =
    let h = c.in_ok-add_waiting.ensures in
    portion-next c.args.p.offer c.loop-at.invariant c.requires.plan.0 c.loop-at-test.true c.gather-g.ensures h.gains h.within

use mathlib.Core.Path.{◌≡◌}
use native.Mathlib.Omega.{arith}
use Rattle.std.proofs.lemmas.Result.{err_from_is_err_and}
use Rattle.portions.proofs.Adding.{added_next, added-over}
use Rattle.portions.proofs.add_waiting.Goals as goal

pub returns-in_err-add_heads : goal.returns-in_err-add_heads
returns-in_err-add_heads c =
    let e = err_from_is_err_and c.from_residual.result c.from_residual.ensures.1 in
    let v = c.loop-i.invariant in
    let h = rw c.gift_of.ensures at c.in_err-add_heads.ensures in
    rw e.1
    (record { gains = added-over c.args.places.now c.loop-i.i c.loop-i-test.true c.set_of.ensures.0 c.role_of.ensures v.gains v.few h.gains (omega arith); within = h.within })

pub loop-i-preserved : goal.loop-i-preserved
loop-i-preserved c =
    let v = c.loop-i.invariant in
    let h = rw c.gift_of.ensures at c.in_ok-add_heads.ensures in
    record { few = h.within; gains = added_next c.args.places.now c.loop-i.i c.loop-i-test.true c.set_of.ensures.0 c.role_of.ensures v.gains v.few h.gains }

pub returns : goal.returns
returns c =
    let v = c.loop-i.invariant in
    let e : c.loop-i.i ≡ c.args.count = omega arith in
    record { gains = rw e at v.gains; within = v.few }

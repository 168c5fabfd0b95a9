-- There was no room, one more entry gave, or all have.
use native.Mathlib.Omega.{arith}
use Rattle.std.proofs.lemmas.Result.{err_from_is_err_and}
use Rattle.levels.proofs.Passing.{passed_start, passed-end, passed_over, passed-next}
use Rattle.levels.proofs.fire_all.Goals as goal

pub returns-in_err-give : goal.returns-in_err-give
returns-in_err-give c =
    let e = err_from_is_err_and c.from_residual.result c.from_residual.ensures.1 in
    let g = c.in_err-give.ensures in
    rw e.1 (record { fired = passed_over c.loop-e.invariant c.loop-e-test.true g.gave (omega arith); within = g.within })

pub loop-e-init : goal.loop-e-init
loop-e-init c = passed_start c.requires.start c.requires.few.0

pub loop-e-preserved : goal.loop-e-preserved
loop-e-preserved c = let g = c.in_ok-give.ensures in passed-next c.loop-e.invariant c.loop-e-test.true g.gave g.within

pub returns : goal.returns
returns c = let p = c.loop-e.invariant in record { fired = passed-end p c.loop-e-test.false; within = p.few }

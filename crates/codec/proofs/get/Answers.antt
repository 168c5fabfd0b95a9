-- The byte before makes the number one byte more, which still fits.
use native.Mathlib.Omega.{arith}
use Rattle.codec.proofs.Entries.{read_more, eight-fit}
use Rattle.codec.proofs.get.Goals as goal

pub overflow_mul-number : goal.overflow_mul-number
overflow_mul-number c =
    let more = read_more c.args.src.now c.loop-i.i c.loop-i.number c.loop-i.invariant c.loop-i-test.true c.wide8.ensures.0 (omega (arith, c.wide8.ensures)) in
    record { fits = omega (arith, eight-fit _ _ _ more c.requires) }

pub overflow_add-number : goal.overflow_add-number
overflow_add-number c =
    let more = read_more c.args.src.now c.loop-i.i c.loop-i.number c.loop-i.invariant c.loop-i-test.true c.wide8.ensures.0 (omega (arith, c.wide8.ensures)) in
    record { fits = omega (arith, eight-fit _ _ _ more c.requires) }

pub loop-i-preserved : goal.loop-i-preserved
loop-i-preserved c = read_more c.args.src.now c.loop-i.i c.loop-i.number c.loop-i.invariant c.loop-i-test.true c.wide8.ensures.0 (omega (arith, c.wide8.ensures))

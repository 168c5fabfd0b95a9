-- The two words are marked one after the other.
use mathlib.Core.Path.{refl}
use Rattle.answering.proofs.Marking.{spread-taken, spread-left}
use Rattle.answering.proofs.spread.Goals as goal

pub returns-then-marks-i-ne0 : goal.returns-then-marks-i-ne0
returns-then-marks-i-ne0 c = spread-taken c.args.notes.now c.args.i c.args.marks.now _ _ c.wide.result c.wide-then-marks-i-ne0.result c.if-marks-i-ne0.true c.wide.ensures.0 refl c.wide-then-marks-i-ne0.ensures.0 refl

pub returns-else-marks-i-ne0 : goal.returns-else-marks-i-ne0
returns-else-marks-i-ne0 c = spread-left c.args.notes.now c.args.i c.args.marks.now c.if-marks-i-ne0.false

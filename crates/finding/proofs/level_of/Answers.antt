-- On the way down the later entries, levels fall by one.
use native.Mathlib.Omega.{arith}
use Rattle.finding.proofs.Levels.{down-start, down-less, down-next}
use Rattle.finding.proofs.level_of.Goals as goal

pub loop-at-init : goal.loop-at-init
loop-at-init c = down-start c.args.notes.now c.args.x

pub loop-at-smaller : goal.loop-at-smaller
loop-at-smaller c =
    let r = c.requires in
    down-less c.args.notes.now c.args.x r.rising.0 r.rising.1 r.rising.2 r.leveled c.loop-at.level c.loop-at.at c.loop-at.invariant c.loop-at-test.true (omega arith)

pub loop-at-preserved : goal.loop-at-preserved
loop-at-preserved c =
    let r = c.requires in
    down-next c.args.notes.now c.args.x r.rising.0 r.rising.1 r.rising.2 r.leveled c.loop-at.level c.loop-at.at c.loop-at.invariant c.loop-at-test.true (omega arith)

use mathlib.Core.Path.{refl}
use native.Mathlib.Omega.{arith}
use lib.ListN.{drop}
use Rattle.answering.proofs.Marking.{one-marked, marked_turn}
use Rattle.answering.proofs.needed.Goals as goal

pub loop-i-init : goal.loop-i-init
loop-i-init c = one-marked 1024 c.args.notes.now c.args.x refl c.requires.0

pub loop-i-preserved : goal.loop-i-preserved
loop-i-preserved c = marked_turn c.args.notes.now c.args.x c.loop-i.i (drop 1 c.loop-i.marks) (drop 1 c.spread.new.marks) c.requires.1 c.requires.0 (omega arith) (omega arith) c.loop-i.invariant c.spread.ensures

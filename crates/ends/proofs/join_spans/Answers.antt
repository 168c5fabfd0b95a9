-- A span that is not of the number, one that touches the last interval, and one that begins another.
use Prim.Native.Nat.{◌+◌}
use native.Mathlib.Omega.{arith}
use Rattle.meaning.proofs.Intervals.{intervals-few}
use Rattle.ends.proofs.Joining.{turn-none, turn-wider, turn-further}
use Rattle.ends.proofs.join_spans.Goals as goal
use Rattle.ends.proofs.join_spans.Goals.{then-n-gt0+else-last-from, else-n-gt0}

pub loop-i-preserved-then-spans-i-eq0 : goal.loop-i-preserved-then-spans-i-eq0
loop-i-preserved-then-spans-i-eq0 c = let l = c.loop-i in (omega arith, turn-none c.args.ends.now c.args.spans l.i l.intervals l.n l.invariant.1 c.if-spans-i-eq0.true)

pub loop-i-preserved-then-last-from : goal.loop-i-preserved-then-last-from
loop-i-preserved-then-last-from c =
    let l = c.loop-i in
    (omega arith, turn-wider c.args.ends.now c.args.spans l.i l.intervals l.n l.invariant.1 c.if-spans-i-eq0.false (omega arith) c.if-last-from.true)

pub loop-i-preserved : goal.loop-i-preserved
loop-i-preserved c =
    let a = c.args in
    let l = c.loop-i in
    let p = turn-further a.ends.now a.spans l.i l.intervals l.n l.invariant.1 c.if-spans-i-eq0.false (omega arith)
    (λ z. elim c.if-n-gt0.branch [ then-n-gt0+else-last-from w ↦ w.if-last-from.false | else-n-gt0 w ↦ λ e. absurd (omega (arith, w.if-n-gt0.false)) ]) in
    ((let f = intervals-few a.ends.now a.spans (l.i + 1) in omega (arith, p.count)), p)

-- There is room for what a byte puts.
use Rattle.std.proofs.Common.{arith}
use Rattle.sentences.proofs.Progress.{fits, further}
use Rattle.sentences.proofs.put_filled.Goals as goal

pub put_piece-requires : goal.put_piece-requires
put_piece-requires c = omega (arith, fits c.loop-c.invariant c.loop-c-test.true c.if-c-eq10.false)

pub loop-c-preserved : goal.loop-c-preserved
loop-c-preserved c =
    let p = further c.loop-c.invariant c.loop-c-test.true c.if-c-eq10.false c.put_piece.ensures.text c.put_piece.ensures.within in
    rw c.after-s.ensures p

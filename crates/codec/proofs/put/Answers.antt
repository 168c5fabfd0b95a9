use native.Mathlib.Omega.{arith}
use lib.ListN.{length, length-set}
use Rattle.codec.proofs.Entries.{put-more}
use Rattle.codec.proofs.put.Goals as goal

pub loop-i-preserved : goal.loop-i-preserved
loop-i-preserved c =
    let l = c.loop-i in
    (simp length-set l.invariant.0, put-more (length c.args.dst.now) l.i l.rest l.dst _ (omega arith) l.invariant.0 l.invariant.1)

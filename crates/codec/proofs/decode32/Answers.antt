use native.Mathlib.Omega.{arith}
use Rattle.codec.proofs.Entries.{decode-more}
use Rattle.codec.proofs.decode32.Goals as goal

pub loop-i-preserved : goal.loop-i-preserved
loop-i-preserved c = decode-more 4 c.args.n c.args.src.now c.args.dst.now c.loop-i.i c.loop-i.invariant c.loop-i-test.true c.requires.0 (omega arith) c.get.ensures.0

use native.Mathlib.Omega.{arith}
use Rattle.codec.proofs.Entries.{encode-more}
use Rattle.codec.proofs.encode64.Goals as goal

pub loop-i-preserved : goal.loop-i-preserved
loop-i-preserved c = encode-more 8 c.args.n c.args.src.now c.args.dst.now c.loop-i.i c.loop-i.invariant c.loop-i-test.true c.requires.0 (omega arith) c.put.auto.dst c.put.ensures

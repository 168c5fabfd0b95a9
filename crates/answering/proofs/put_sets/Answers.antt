use Prim.Native.Nat.{ℕ}
use native.Mathlib.Omega.{arith}
use lib.ListN.{get_or}
use Rattle.store.specs.Entries.{set_in}
use Rattle.answering.proofs.Writing.{filled_more}
use Rattle.answering.proofs.put_sets.Goals as goal

pub loop-i-preserved : goal.loop-i-preserved
loop-i-preserved c = filled_more (λ (j : ℕ). set_in (get_or c.args.store.now.keys j 0)) _ c.loop-i.list c.loop-i.i _ (omega arith) c.set_of.ensures.0 c.loop-i.invariant

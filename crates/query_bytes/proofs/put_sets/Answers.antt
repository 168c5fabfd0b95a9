use Prim.Native.Nat.{ℕ}
use lib.ListN.{get_or}
use Rattle.store.specs.Entries.{set_in}
use Rattle.query_bytes.proofs.Writing.{column-more, column-bytes}
use Rattle.query_bytes.proofs.put_sets.Goals as goal

pub loop-i-preserved : goal.loop-i-preserved
loop-i-preserved c = let a = c.args in column-more (λ (j : ℕ). set_in (get_or a.store.now.keys j 0)) a.count a.n a.list.now c.loop-i.list c.loop-i.i c.loop-i.invariant c.requires.0 c.requires.1 c.loop-i-test.true c.set_of.ensures.0 c.put.auto.dst c.put.ensures

pub returns : goal.returns
returns c = let a = c.args in column-bytes (λ (j : ℕ). set_in (get_or a.store.now.keys j 0)) a.count a.n a.list.now c.loop-i.list c.loop-i.i c.loop-i.invariant c.requires.0 c.requires.1 c.loop-i-test.false (c.fill.ensures.after (λ y e. e))

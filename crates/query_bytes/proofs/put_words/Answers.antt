use mathlib.Core.Path.{refl}
use Prim.Native.Nat.{ℕ}
use Rattle.store.specs.Notes.{word}
use Rattle.query_bytes.proofs.Writing.{column-more, column-bytes}
use Rattle.query_bytes.proofs.put_words.Goals as goal

pub loop-i-preserved : goal.loop-i-preserved
loop-i-preserved c = let a = c.args in column-more (λ (j : ℕ). word a.store.now.notes j a.column) a.count a.n a.list.now c.loop-i.list c.loop-i.i c.loop-i.invariant c.requires.0 c.requires.1 c.loop-i-test.true refl c.put.auto.dst c.put.ensures

pub returns : goal.returns
returns c = let a = c.args in column-bytes (λ (j : ℕ). word a.store.now.notes j a.column) a.count a.n a.list.now c.loop-i.list c.loop-i.i c.loop-i.invariant c.requires.0 c.requires.1 c.loop-i-test.false (c.fill.ensures.after (λ y e. e))

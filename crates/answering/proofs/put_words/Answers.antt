use mathlib.Core.Path.{refl}
use Prim.Native.Nat.{ℕ}
use native.Mathlib.Omega.{arith}
use Rattle.store.specs.Notes.{word}
use Rattle.answering.proofs.Writing.{filled_more}
use Rattle.answering.proofs.put_words.Goals as goal

pub loop-i-preserved : goal.loop-i-preserved
loop-i-preserved c = filled_more (λ (j : ℕ). word c.args.store.now.notes j c.args.column) _ c.loop-i.list c.loop-i.i _ (omega arith) refl c.loop-i.invariant

-- The first i places have the words.
use Prim.Native.Nat.{ℕ}
use Rattle.store.specs.Notes.{word}
use Rattle.answering.proofs.Writing.{Filled}
use Rattle.answering.proofs.put_words.Given as goal

abbrev pub invariant-loop-i : goal.invariant-loop-i
invariant-loop-i l = Filled (λ (j : ℕ). word l.fn.store.notes j l.fn.column) l.fn.list l.list l.i

-- The first i entries have the words.
use mathlib.Core.List.{map}
use Prim.Native.Nat.{ℕ}
use Rattle.meaning.specs.Lists.{below}
use Rattle.store.specs.Notes.{word}
use Rattle.codec.proofs.Entries.{Encoded}
use Rattle.query_bytes.proofs.put_words.Given as goal

abbrev pub invariant-loop-i : goal.invariant-loop-i
invariant-loop-i l = Encoded 4 l.fn.count (map (λ (j : ℕ). word l.fn.store.notes j l.fn.column) (below l.fn.count)) l.fn.list l.i l.list

-- The first i places have the sets.
use Prim.Native.Nat.{ℕ}
use lib.ListN.{get_or}
use Rattle.store.specs.Entries.{set_in}
use Rattle.answering.proofs.Writing.{Filled}
use Rattle.answering.proofs.put_sets.Given as goal

abbrev pub invariant-loop-i : goal.invariant-loop-i
invariant-loop-i l = Filled (λ (j : ℕ). set_in (get_or l.fn.store.keys j 0)) l.fn.list l.list l.i

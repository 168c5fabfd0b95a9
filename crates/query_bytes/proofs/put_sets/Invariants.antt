-- The first i entries have the sets.
use mathlib.Core.List.{map}
use Prim.Native.Nat.{ℕ}
use lib.ListN.{get_or}
use Rattle.meaning.specs.Lists.{below}
use Rattle.store.specs.Entries.{set_in}
use Rattle.codec.proofs.Entries.{Encoded}
use Rattle.query_bytes.proofs.put_sets.Given as goal

abbrev pub invariant-loop-i : goal.invariant-loop-i
invariant-loop-i l = Encoded 4 l.fn.count (map (λ (j : ℕ). set_in (get_or l.fn.store.keys j 0)) (below l.fn.count)) l.fn.list l.i l.list

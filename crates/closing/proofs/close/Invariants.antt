-- The passes so far closed the entries, and only before the first one is nothing done.
use Rattle.std.proofs.Common.{◌≡◌, true, ℕ, get_or, Ok}
use Rattle.giving.specs.Giving.{lefts}
use Rattle.giving.specs.Stores.{ClosesIn}
use Rattle.closing.proofs.close.Given as goal

abbrev pub invariant-loop-last : goal.invariant-loop-last
invariant-loop-last l = ClosesIn l.limit l.uses l.fn.store l.fn.done l.store l.done (Ok tt) × (l.last ≡ true → (i : ℕ) → get_or l.done i 0 ≡ 0)

abbrev pub decreases-loop-last : goal.decreases-loop-last
decreases-loop-last l = lefts l.store.spans l.done l.limit

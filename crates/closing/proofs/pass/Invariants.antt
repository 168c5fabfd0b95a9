-- The loop has passed the entries below e: what they gave; if none did, all of them are done; and in the first pass nothing from e on is done.
use Rattle.std.proofs.Common.{◌-◌, ◌≡◌, true, false, ℕ, ◌≤◌, get_or, Ok}
use Rattle.closure.specs.Closure.{Finished}
use Rattle.closing.specs.Stores.{GaveAnyIn}
use Rattle.closing.proofs.pass.Given as goal

abbrev pub invariant-loop-e : goal.invariant-loop-e
invariant-loop-e l =
    GaveAnyIn l.limit l.uses l.fn.store l.fn.done false l.store l.done (Ok l.any) × (l.any ≡ false → Finished l.store.spans l.done l.e) × (l.last ≡ true → (i : ℕ) → l.e ≤ i → get_or l.done i 0 ≡ 0)

abbrev pub decreases-loop-e : goal.decreases-loop-e
decreases-loop-e l = l.limit - l.e

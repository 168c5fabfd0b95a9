-- The loop has passed the entries before e: these gave, in list order.
use Rattle.std.proofs.Common.{◌-◌}
use Rattle.levels.proofs.Passing.{Passed}
use Rattle.levels.proofs.fire_all.Given as goal

abbrev pub invariant-loop-e : goal.invariant-loop-e
invariant-loop-e l =
    Passed l.limit l.uses.codes l.uses.valid l.uses.lists l.fn.store.keys l.fn.store.spans l.fn.store.notes l.fn.done l.fn.store.count l.store.keys l.store.spans l.store.slots l.store.links l.store.notes l.done l.store.count l.e

abbrev pub decreases-loop-e : goal.decreases-loop-e
decreases-loop-e l = l.limit - l.e

-- `pairs::with_head` adds what one head gives from each entry of the role's list, where it is not there yet.
use Rattle.portions.proofs.Walks.{Walked}
use Rattle.pairs.proofs.with_head.Given as goal

abbrev pub invariant-loop-at : goal.invariant-loop-at
invariant-loop-at l =
    Walked l.p.limit l.fn.store.keys l.fn.store.spans l.fn.store.notes l.fn.store.count l.uses.codes l.uses.valid l.uses.lists l.p.body l.p.own l.done l.p.start l.p.offer l.store.keys l.store.spans l.store.slots l.store.links l.store.notes l.store.count l.at

abbrev pub decreases-loop-at : goal.decreases-loop-at
decreases-loop-at l = l.at

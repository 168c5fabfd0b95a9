use Rattle.rules.specs.Uses.{body_of_head, heads_in}
use Rattle.heads.specs.Walks.{Along}
use Rattle.heads.specs.Heads.{ByHead, FromHeads, TheOne}
use Rattle.heads.proofs.add_heads.Given as goal

abbrev pub invariant-loop-at : goal.invariant-loop-at
invariant-loop-at l =
    Along l.g.limit l.fn.store.keys l.fn.store.spans l.fn.store.notes l.fn.store.count (body_of_head l.uses.codes) l.g.body (heads_in l.uses.lists) (ByHead l.uses.codes l.uses.valid l.g.set l.g.spans) (FromHeads l.uses.codes l.uses.lists l.g.body l.g.own (TheOne l.g.set l.g.other)) l.store.keys l.store.spans l.store.slots l.store.links l.store.notes l.store.count l.at

abbrev pub decreases-loop-at : goal.decreases-loop-at
decreases-loop-at l = l.at

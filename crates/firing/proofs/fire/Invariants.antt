-- What the bodies passed give was added.
use Rattle.rules.specs.Uses.{family_of, bodies_in}
use Rattle.heads.specs.Walks.{Along}
use Rattle.firing.specs.Firing.{FromFamily}
use Rattle.firing.proofs.Firings.{ByBody}
use Rattle.firing.proofs.fire.Given as goal

abbrev pub invariant-loop-at : goal.invariant-loop-at
invariant-loop-at l =
    let s = l.fn.store in
    let u = l.uses in
    Along l.t.limit s.keys s.spans s.notes s.count (family_of u.codes) l.family (bodies_in u.lists) (ByBody u.codes u.valid u.lists s.keys l.done s.count l.t.e l.t.spans) (FromFamily u.codes u.lists s.keys l.done s.count l.t.e l.family) l.store.keys l.store.spans l.store.slots l.store.links l.store.notes l.store.count l.at

abbrev pub decreases-loop-at : goal.decreases-loop-at
decreases-loop-at l = l.at

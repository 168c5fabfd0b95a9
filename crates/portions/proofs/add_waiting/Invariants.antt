-- `portions::add_waiting` adds what the heads of a body give from the sets that wait, one after the other.
use Prim.Native.Nat.{◌≤◌}
use Rattle.heads.specs.Gaining.{Gains}
use Rattle.heads.specs.Heads.{Headed, FromHeads}
use Rattle.waiting.specs.Waiting.{Waits, Partnered}
use Rattle.portions.proofs.add_waiting.Given as goal

abbrev pub invariant-loop-i : goal.invariant-loop-i
invariant-loop-i l = record {
  few : l.store.count ≤ l.p.limit;
  gains : Gains l.p.limit l.fn.store.keys l.fn.store.spans l.fn.store.notes l.fn.store.count (Headed l.uses.codes l.uses.valid l.uses.lists l.p.body (Waits l.places l.i)) (FromHeads l.uses.codes l.uses.lists l.p.body l.p.own (Partnered l.places l.count)) l.store.keys l.store.spans l.store.slots l.store.links l.store.notes l.store.count;
}

-- Wherever the search comes to from here, it comes to from its start. Places only rise, and stay below 3,072.
use Rattle.std.proofs.Common.{ℕ, ◌-◌, ◌<◌}
use Rattle.store.specs.Entries.{Leads, Comes}
use Rattle.store.proofs.find.Given as goal

abbrev pub invariant-loop-key : goal.invariant-loop-key
invariant-loop-key l = record { within : l.p < 3072; onward : (q : ℕ) → Leads l.keys l.slots l.key l.p l.x q → Comes l.keys l.slots l.key q }

abbrev pub decreases-loop-key : goal.decreases-loop-key
decreases-loop-key l = 3072 - l.p

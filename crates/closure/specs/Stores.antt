-- What is said of a store as one value, with the spans that are done.
use Rattle.std.specs.Prelude.{List, ℕ}
use Rattle.store.specs.declared.Store.{Store}
use Rattle.closure.specs.Closure.{Held}

-- entries with their done spans, of which places from the count on have none
abbrev pub HeldIn : Store → List ℕ → Type 0
HeldIn s done = Held s.keys s.spans s.slots s.links s.notes done s.count

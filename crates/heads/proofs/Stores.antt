-- What is added to a store as one value.
use Rattle.std.proofs.Common.{◌≡◌, ℕ, ◌+◌, Result, Ok, Err}
use Rattle.std.specs.Result.{IsErr}
use Rattle.store.specs.declared.Store.{Store}
use Rattle.store.specs.declared.Full.{Full}
use Rattle.heads.specs.Gaining.{Spanned, Origin, Gains}
use Rattle.heads.specs.Stores.{Adds}

module _ {limit : ℕ} {s t : Store} {New : Spanned} {By : Origin} where
  -- a call had no room
  pub adds-full : {r : Result Unit Full} → IsErr r → t.count ≡ limit → Gains limit s.keys s.spans s.notes s.count New By t.keys t.spans t.slots t.links t.notes (limit + 1) → Adds limit s New By t r
  adds-full {r = Err e} _ f g = record { gains = g; within = f }
  adds-full {r = Ok u} x f g = absurd cc

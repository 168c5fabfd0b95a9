-- What the sentences are shown to name.
use mathlib.Core.Path.{◌≡◌}
use mathlib.Core.List.{List}
use Prim.Native.Nat.{ℕ, ◌^◌, ◌≤◌, ◌<◌}
use Rattle.file.specs.Format.{E, R}
use Rattle.request_sentences.specs.Named.{MemberNamed}
use Rattle.request_sentences.proofs.Naming as Naming

-- A request that is refused by 11 for an entity of its set has the entity that the sentence names at fault.
pub member-named : (f : List ℕ) (A r X : ℕ) → X < 2 ^ 32 → A < E f → r < R f → ¬ (X ≡ 0) → 2 ^ E f ≤ X → MemberNamed f A r X
member-named = Naming.member-named

use Rattle.std.proofs.Common.{◌≤◌, get_or, ℕ, List, arith}
use Prim.Native.Nat.{suc}
use mathlib.Core.Path.{refl, sym, ap, ◌∙◌}
use mathlib.Core.Logic.{inl}
use native.Mathlib.Nat.{zero-add}
use Rattle.rules.specs.Uses.{bodies_in}
use Rattle.listing.specs.Places.{Sought, BodyPlaced}
use Rattle.listing.proofs.body_at.Goals as goal

found : {codes lists : List ℕ} {family code at i : ℕ} → Sought codes 0 at code (suc i) → at ≤ bodies_in lists → BodyPlaced codes lists family code codes lists i
found {codes} {i = i} s l =
    record { placed = inl (omega (arith, s.low), ap (λ (x : ℕ). get_or codes x 0) (sym (zero-add i)) ∙ s.found i refl, refl, refl) }

pub returns-in-Some-clause-placed : goal.returns-in-Some-clause-placed
returns-in-Some-clause-placed c = found c.in-Some.ensures (omega (arith, c.requires.room.2))

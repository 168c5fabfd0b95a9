-- A link: the count of ones tells the sets of one, trailing zeros the entity.
use mathlib.Core.Path.{◌≡◌, refl, ap, ◌∙◌, subst⁻¹}
use mathlib.Core.Bool.{Bool, true, false, ◌&&◌}
use Prim.Native.Nat.{ℕ, ◌+◌, ◌*◌, ◌^◌, ◌<◌}
use lib.Count.{ones, count_trailing_zeros}
use lib.Dec.{T, eqb}
use Rattle.meaning.specs.Credentials.{◌·◌}
use Rattle.meaning.specs.Members.{entity, single}
use Rattle.meaning.proofs.Bits.{ones-single, trailing-entity}

pub linked-is : (X r t : ℕ) → X < 2 ^ 32 → (eqb (ones X) 1 && eqb r (count_trailing_zeros 32 X * 32 + t)) ≡ (single X && eqb r (entity X · t))
linked-is X r t h = ap (λ (b : Bool). b && eqb r (count_trailing_zeros 32 X * 32 + t)) (ones-single X) ∙ go (single X) refl
  where
    go : (b : Bool) → single X ≡ b → (b && eqb r (count_trailing_zeros 32 X * 32 + t)) ≡ (b && eqb r (entity X · t))
    go true e = ap (λ (C : ℕ). eqb r (C * 32 + t)) (trailing-entity X h (subst⁻¹ T e tt))
    go false e = refl

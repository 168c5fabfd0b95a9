-- Sets of one entity, and the word `1 << C`.
use mathlib.Core.Path.{◌≡◌, sym, ap, ◌∙◌, subst, subst⁻¹}
use Prim.Native.Nat.{ℕ, ◌*◌, ◌%◌, ◌^◌, ◌<◌}
use native.Mathlib.Nat.{mod-eq_of_lt}
use native.Mathlib.Omega.{arith}
use borrow.Author.Tests.{eq-eqb}
use lib.Count.{ones, count_trailing_zeros}
use lib.Dec.{T, eqb→eq}
use lib.Pow.{pow-lt}
use Rattle.meaning.specs.Members.{entity, single}
use Rattle.meaning.proofs.Bits.{single-power, ones-single, power_below, trailing-entity}
use Rattle.meaning.proofs.Levels.{entity-power}

module _ (X : ℕ) (low : X < 2 ^ 32) where
  pub sole : ones X ≡ 1 → X ≡ 2 ^ count_trailing_zeros 32 X
  sole e =
      let t : T (single X) = subst (λ b. T b) (ones-single X) (subst⁻¹ (λ b. T b) (eq-eqb (ones X) 1 e) tt) in
      eqb→eq X (2 ^ entity X) t ∙ ap (λ (x : ℕ). 2 ^ x) (sym (trailing-entity X low t))

  pub sole-below : ones X ≡ 1 → count_trailing_zeros 32 X < 32
  sole-below e = power_below 32 (count_trailing_zeros 32 X) (subst (λ (x : ℕ). x < 2 ^ 32) (sole e) low)

  pub power-ones : (C : ℕ) → X ≡ 2 ^ C → ones X ≡ 1
  power-ones C e = ap ones e ∙ eqb→eq (ones (2 ^ C)) 1 (subst⁻¹ (λ b. T b) (ones-single (2 ^ C)) (single-power C))

  pub power-trailing : (C : ℕ) → X ≡ 2 ^ C → count_trailing_zeros 32 X ≡ C
  power-trailing C e = trailing-entity X low (subst⁻¹ (λ (x : ℕ). T (single x)) e (single-power C)) ∙ ap entity e ∙ entity-power C

pub shifted : (C : ℕ) → C < 32 → 1 * 2 ^ C % 2 ^ 64 ≡ 2 ^ C
shifted C l = let f : 2 ^ C < 2 ^ 32 = pow-lt l in let g : 1 * 2 ^ C ≡ 2 ^ C = omega arith in ap (λ (x : ℕ). x % 2 ^ 64) g ∙ mod-eq_of_lt (omega arith)

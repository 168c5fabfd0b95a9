-- 20 from the list's size, and 21 after it.
use mathlib.Core.Path.{◌≡◌, sym, ap, ◌∙◌}
use mathlib.Core.Logic.{◌⊎◌, inl, inr}
use mathlib.Core.Bool.{Bool}
use mathlib.Core.List.{List, [], ◌∷◌}
use Prim.Native.Nat.{ℕ}
use native.Mathlib.Omega.{arith}
use Rattle.file.specs.Refusals.{◌when◌}
use Rattle.file.specs.Values.{first_number}
use Rattle.withdrawals.specs.declared.Size.{Size}
use Rattle.withdrawals.specs.List.{count, unfounded, size_in}
use Rattle.withdrawals.specs.Source.{Source, list_rows}
use Rattle.withdrawals.specs.Conditions.{Shaped, Misshapen}
use Rattle.withdrawals.proofs.Tests.{misshapen-true, misshapen-false, shaped-or-not}
use Rattle.withdrawals.proofs.Sizes.{refused-size, shaped-size}
use Rattle.cutting.specs.Cutting.{Withdraws, CutAll}

module _ (s : Source) (z : Size) (e : z ≡ size_in s.withdrawals) where
  abbrev w : List ℕ
  w = s.withdrawals

  -- the rows by whether the list is misshapen
  abbrev by : Bool → ℕ
  by b = first_number (20 when b ∷ 21 when (unfounded s.file w) ∷ [])

  pub withdraw-refused : {p : List ℕ} {n : ℕ} → (z.number ≡ 0 → ⊥) → Withdraws s p n z.number
  withdraw-refused {p} {n} h = record { number = go (shaped-or-not w); policy = λ q. absurd (h q) }
    where
      go : Shaped w ⊎ Misshapen w → z.number ≡ first_number (list_rows s)
      go (inl a) = absurd (h (ap (λ (x : Size). x.number) (e ∙ shaped-size w a)))
      go (inr m) = ap (λ (x : Size). x.number) (e ∙ refused-size w m) ∙ sym (ap by (misshapen-true w m))

  module _ (o : z.number ≡ 0) where
    pub size-shaped : Shaped w
    size-shaped = go (shaped-or-not w)
      where
        go : Shaped w ⊎ Misshapen w → Shaped w
        go (inl a) = a
        go (inr m) = let k = ap (λ (x : Size). x.number) (e ∙ refused-size w m) in absurd (omega arith)

    pub size-count : z.count ≡ count w
    size-count = ap (λ (x : Size). x.count) (e ∙ shaped-size w size-shaped)

    pub withdraw-cut : {p : List ℕ} {n r : ℕ} → CutAll s p n r → Withdraws s p n r
    withdraw-cut c = record { number = c.number ∙ sym (ap by (misshapen-false w size-shaped)); policy = c.policy }

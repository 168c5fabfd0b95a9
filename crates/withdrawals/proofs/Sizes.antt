-- What reading a list's size answers, by the conditions of 20.
use mathlib.Core.Path.{◌≡◌, sym, ap, ◌∙◌}
use mathlib.Core.Bool.{Bool}
use mathlib.Core.List.{List}
use Prim.Native.Nat.{ℕ}
use Rattle.meaning.specs.Lists.{if}
use Rattle.withdrawals.specs.declared.Size.{Size}
use Rattle.withdrawals.specs.List.{count, size_in}
use Rattle.withdrawals.specs.Conditions.{Shaped, Misshapen}
use Rattle.withdrawals.proofs.Tests.{misshapen-true, misshapen-false}

module _ (w : List ℕ) where
  abbrev by : Bool → Size
  by b = if b (record { number = 20; count = 0 }) (record { number = 0; count = count w })

  pub refused-size : Misshapen w → size_in w ≡ record { number = 20; count = 0 }
  refused-size m = ap by (misshapen-true w m)

  pub shaped-size : Shaped w → size_in w ≡ record { number = 0; count = count w }
  shaped-size s = ap by (misshapen-false w s)

  pub right-size : (n : ℕ) → n ≡ count w → Shaped w → record { number = 0; count = n } ≡ size_in w
  right-size n e s = ap (λ (k : ℕ). record { number = 0; count = k }) e ∙ sym (shaped-size s)

-- Refusal 17's test by the greatest serial so far, and by a search.
use mathlib.Core.Path.{◌≡◌, sym, subst}
use mathlib.Core.Bool.{Bool, true, false, ◌||◌}
use mathlib.Core.Logic.{inl}
use mathlib.Core.List.{List}
use Prim.Native.Nat.{ℕ, ◌<◌}
use native.Mathlib.Omega.{arith}
use lib.Dec.{eqb, eqb→eq}
use borrow.Author.Tests.{ne_eqb}
use Rattle.meaning.specs.Lists.{any, below}
use Rattle.meaning.proofs.Tests.{eq-in, any-in, any_out, is_true, is_false}
use Rattle.meaning.proofs.ListLaws.{below_in, below_out}
use Rattle.file.specs.Format.{serial_of}
use Rattle.file.specs.Reading.{taken}
use Rattle.file.proofs.Serials.{taken_true, taken_false}
use Rattle.serials.specs.Serials.{Greatest}

-- whether one of the first n credentials has the serial x
abbrev pub found : List ℕ → ℕ → ℕ → Bool
found f n x = any (λ j. eqb (serial_of f j) x) (below n)

module _ (f : List ℕ) (n x : ℕ) where
  pub found_here : (j : ℕ) → j < n → serial_of f j ≡ x → true ≡ found f n x
  found_here j l e = sym (is_true _ (any-in (λ k. eqb (serial_of f k) x) (below_in n j l) (eq-in _ _ e)))

  pub found_nowhere : ((j : ℕ) → j < n → serial_of f j ≡ x → ⊥) → false ≡ found f n x
  found_nowhere h = sym (is_false _ (λ t. let (j, m, u) = any_out (λ k. eqb (serial_of f k) x) (below n) t in h j (below_out n m) (eqb→eq _ _ u)))

-- x is the serial of credential i
module _ (f : List ℕ) (i x : ℕ) (e : x ≡ serial_of f i) where
  pub above-fresh : (greatest : ℕ) → Greatest f i greatest → greatest < x → false ≡ taken f i
  above-fresh greatest h l = sym (taken_false f i (record { some = λ z. omega arith; new = λ j m s. let k = h.bound j m in omega arith }))

  pub zero-taken : x ≡ 0 → true ≡ taken f i
  zero-taken z = sym (taken_true f i (inl (omega arith)))

  pub search-decides : (x ≡ 0 → ⊥) → {r : Bool} → r ≡ found f i x → r ≡ taken f i
  search-decides h {r} s =
      let n : eqb x 0 ≡ false = ne_eqb x 0 h in
      let g : r ≡ (eqb x 0 || found f i x) = rw n s in
      subst (λ (y : ℕ). r ≡ (eqb y 0 || found f i y)) e g

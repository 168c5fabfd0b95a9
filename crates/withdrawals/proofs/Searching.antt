-- Whether one of the first withdrawals has a serial, by a search.
use mathlib.Core.Path.{◌≡◌, sym, subst, subst⁻¹}
use mathlib.Core.Bool.{Bool, true, false}
use mathlib.Core.List.{List}
use Prim.Native.Nat.{ℕ, ◌<◌}
use lib.Dec.{T, eqb, eqb→eq}
use Rattle.meaning.specs.Lists.{any, below}
use Rattle.meaning.proofs.Tests.{eq-in, any-in, any_out, is_true, is_false}
use Rattle.meaning.proofs.ListLaws.{below_in, below_out}
use Rattle.withdrawals.specs.List.{serial_at}

module _ (w : List ℕ) (n x : ℕ) where
  abbrev found : Bool
  found = any (λ j. eqb (serial_at w j) x) (below n)

  pub found_here : (j : ℕ) → j < n → serial_at w j ≡ x → true ≡ found
  found_here j l e = sym (is_true _ (any-in (λ k. eqb (serial_at w k) x) (below_in n j l) (eq-in _ _ e)))

  pub found_nowhere : ((j : ℕ) → j < n → serial_at w j ≡ x → ⊥) → false ≡ found
  found_nowhere h = sym (is_false _ (λ t. let (j, m, u) = any_out (λ k. eqb (serial_at w k) x) (below n) t in h j (below_out n m) (eqb→eq _ _ u)))

  -- what the answer says
  pub some-found : true ≡ found → (j : ℕ) × (j < n) × (serial_at w j ≡ x)
  some-found e = let (j, m, u) = any_out (λ k. eqb (serial_at w k) x) (below n) (subst T e tt) in (j, below_out n m, eqb→eq _ _ u)

  pub none_found : false ≡ found → (j : ℕ) → j < n → ¬ (serial_at w j ≡ x)
  none_found e j l h = subst⁻¹ T e (any-in (λ k. eqb (serial_at w k) x) (below_in n j l) (eq-in _ _ h))

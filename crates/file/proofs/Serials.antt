-- Refusal 17's test and its conditions.
use mathlib.Core.Path.{◌≡◌}
use mathlib.Core.Logic.{◌⊎◌, inl, inr}
use mathlib.Core.Bool.{Bool, true, false}
use mathlib.Core.List.{List}
use Prim.Native.Nat.{ℕ}
use lib.Dec.{T, eqb, eqb→eq}
use Rattle.meaning.specs.Lists.{any, below}
use Rattle.meaning.proofs.Tests.{or_left, or_right, or_cases, eq-in, any-in, any_out, is_true, is_false}
use Rattle.meaning.proofs.ListLaws.{below_in, below_out}
use Rattle.file.specs.Format.{serial_of}
use Rattle.file.specs.Reading.{taken}
use Rattle.file.specs.Conditions.{Fresh, Taken}

module _ (f : List ℕ) (i : ℕ) where
  abbrev none : Bool
  none = eqb (serial_of f i) 0

  abbrev same : ℕ → Bool
  same j = eqb (serial_of f j) (serial_of f i)

  pub taken_in : Taken f i → T (taken f i)
  taken_in (inl e) = or_left none (any same (below i)) (eq-in _ _ e)
  taken_in (inr (j, l, e)) = or_right none (any same (below i)) (any-in same (below_in i j l) (eq-in _ _ e))

  taken_out : T (taken f i) → Taken f i
  taken_out t = go (or_cases none (any same (below i)) t)
    where
      go : T none ⊎ T (any same (below i)) → Taken f i
      go (inl u) = inl (eqb→eq _ _ u)
      go (inr u) = let (j, m, v) = any_out same (below i) u in inr (j, below_out i m, eqb→eq _ _ v)

  pub not_taken : Fresh f i → T (taken f i) → ⊥
  not_taken h t = go (taken_out t)
    where
      go : Taken f i → ⊥
      go (inl e) = h.some e
      go (inr (j, l, e)) = h.new j l e

  pub fresh-or-taken : Fresh f i ⊎ Taken f i
  fresh-or-taken = go (taken f i) (λ t. t) (λ t. t)
    where
      go : (b : Bool) → (T b → T (taken f i)) → (T (taken f i) → T b) → Fresh f i ⊎ Taken f i
      go true out into = inr (taken_out (out tt))
      go false out into = inl (record { some = λ e. into (taken_in (inl e)); new = λ j l e. into (taken_in (inr (j, l, e))) })

  pub taken_true : Taken f i → taken f i ≡ true
  taken_true h = is_true _ (taken_in h)

  pub taken_false : Fresh f i → taken f i ≡ false
  taken_false h = is_false _ (not_taken h)

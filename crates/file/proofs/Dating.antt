-- Refusal 7's test and its conditions.
use mathlib.Core.Path.{◌≡◌}
use mathlib.Core.Logic.{◌⊎◌, inl, inr}
use mathlib.Core.Bool.{Bool, true, false, not}
use mathlib.Core.List.{List}
use Prim.Native.Nat.{ℕ}
use native.Mathlib.Omega.{arith}
use lib.Dec.{T, T_not, eqb, ltb, eqb→eq, ltb→lt, lt→ltb, nltb→le, not_T}
use Rattle.meaning.proofs.Tests.{or_left, or_right, or_cases, eq-in, is_true, is_false}
use Rattle.file.specs.Format.{from_of, to_of}
use Rattle.file.specs.Reading.{undated}
use Rattle.file.specs.Conditions.{Dated, Undated}

module _ (f : List ℕ) (i : ℕ) where
  abbrev before : Bool
  before = ltb (to_of f i) (from_of f i)

  abbrev no_minute : Bool
  no_minute = eqb (to_of f i) 4294967295

  pub undated-in : Undated f i → T (undated f i)
  undated-in (inl h) = or_left before no_minute (lt→ltb _ _ h)
  undated-in (inr e) = or_right before no_minute (eq-in _ _ e)

  undated-out : T (undated f i) → Undated f i
  undated-out t = go (or_cases before no_minute t)
    where
      go : T before ⊎ T no_minute → Undated f i
      go (inl t) = inl (ltb→lt _ _ t)
      go (inr t) = inr (eqb→eq _ _ t)

  pub not-both : Dated f i → T (undated f i) → ⊥
  not-both d t = go (undated-out t)
    where
      go : Undated f i → ⊥
      go (inl h) = let o = d.order in omega arith
      go (inr e) = d.minute e

  pub dated-or-not : Dated f i ⊎ Undated f i
  dated-or-not = go (undated f i) (λ t. t) (λ n. n)
    where
      go : (b : Bool) → (T b → T (undated f i)) → (T (undated f i) → T b) → Dated f i ⊎ Undated f i
      go true out into = inr (undated-out (out tt))
      go false out into = inl (record { order = nltb→le (to_of f i) (from_of f i) (not_T before (λ t. into (or_left before no_minute t))); minute = λ e. into (undated-in (inr e)) })

  pub undated-true : Undated f i → undated f i ≡ true
  undated-true u = is_true _ (undated-in u)

  pub undated-false : Dated f i → undated f i ≡ false
  undated-false d = is_false _ (not-both d)

  pub not-undated : T (not (undated f i)) → Dated f i
  not-undated n = go dated-or-not
    where
      go : Dated f i ⊎ Undated f i → Dated f i
      go (inl d) = d
      go (inr u) = absurd (T_not (undated f i) n (undated-in u))

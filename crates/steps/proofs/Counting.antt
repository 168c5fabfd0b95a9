-- Lists made by counting: `map g (below n)`.
use mathlib.Core.Path.{◌≡◌, refl, ap, ap₂, ◌∙◌}
use mathlib.Core.List.{List, [], ◌∷◌, ◌++◌, map}
use Prim.Native.Nat.{ℕ, zero, suc, ◌+◌, ◌<◌, ◌≤◌}
use native.Mathlib.Omega.{arith}
use lib.ListN.{length, get_or, length-map}
use Rattle.meaning.specs.Lists.{up_from, below}
use Rattle.file.proofs.Credentials.{length-below, get_d-below, get_d-map-lt}

module _ {A : Type 0} (g : ℕ → A) where
  pub length-counted : (n : ℕ) → length (map g (below n)) ≡ n
  length-counted n = length-map (below n) g ∙ length-below n

  pub get_d-counted : (n j : ℕ) (d : A) → j < n → get_or (map g (below n)) j d ≡ g j
  get_d-counted n j d h = let l = length-below n in get_d-map-lt g (below n) j 0 d (omega arith) ∙ ap g (get_d-below n j 0 h)

  from-snoc : (n i : ℕ) → map g (up_from i (suc n)) ≡ map g (up_from i n) ++ g (i + n) ∷ []
  from-snoc zero i = ap (λ (k : ℕ). g k ∷ []) (omega arith)
  from-snoc (suc n) i =
      ap (λ (l : List A). g i ∷ l) (from-snoc n (suc i) ∙ ap (λ (k : ℕ). map g (up_from (suc i) n) ++ g k ∷ []) (omega arith))

  -- one more at the end
  pub counted-snoc : (n : ℕ) → map g (below (suc n)) ≡ map g (below n) ++ g n ∷ []
  counted-snoc n = from-snoc n 0 ∙ ap (λ (k : ℕ). map g (below n) ++ g k ∷ []) (omega arith)

module _ {A : Type 0} (g h : ℕ → A) where
  from-same : (n i : ℕ) → ((j : ℕ) → i ≤ j → j < i + n → g j ≡ h j) → map g (up_from i n) ≡ map h (up_from i n)
  from-same zero i e = refl
  from-same (suc n) i e = ap₂ (λ (x : A) (l : List A). x ∷ l) (e i (omega arith) (omega arith)) (from-same n (suc i) (λ j a b. e j (omega arith) (omega arith)))

  -- the first n values decide
  pub counted_same : (n : ℕ) → ((j : ℕ) → j < n → g j ≡ h j) → map g (below n) ≡ map h (below n)
  counted_same n e = from-same n 0 (λ j a b. e j (omega arith))

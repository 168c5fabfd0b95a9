-- Lists that were written as columns, read back by position.
use mathlib.Core.Path.{◌≡◌, refl, ap, ◌∙◌}
use mathlib.Core.List.{List, [], ◌∷◌, ◌++◌, map}
use Prim.Native.Nat.{ℕ, zero, suc, ◌+◌, ◌≤◌, ◌<◌}
use native.Mathlib.Omega.{arith}
use lib.ListN.{length, get_or, replicate, length-map, get_or-append}
use Rattle.meaning.specs.Lists.{up_from, below}
use Rattle.meaning.proofs.ListLaws.{zeros-at}
use Rattle.file.proofs.Credentials.{get_d-map-lt}

module _ {A : Type 0} (d : A) where
  -- a list is its elements by position
  positions-from : (s : ℕ) (xs : List A) (g : ℕ → A) → ((i : ℕ) → i < length xs → g (s + i) ≡ get_or xs i d) → map g (up_from s (length xs)) ≡ xs
  positions-from s [] g h = refl
  positions-from s (x ∷ xs) g h =
      let a : s + 0 ≡ s = omega arith in
      let first : g s ≡ x = ap g (let b : s ≡ s + 0 = omega arith in b) ∙ h 0 (omega arith) in
      let rest : map g (up_from (suc s) (length xs)) ≡ xs =
      positions-from (suc s) xs g (λ i l. ap g (let b : suc s + i ≡ s + suc i = omega arith in b) ∙ h (suc i) (omega arith)) in
      λ j. first j ∷ rest j

  pub positions : (xs : List A) (g : ℕ → A) → ((i : ℕ) → i < length xs → g i ≡ get_or xs i d) → map g (below (length xs)) ≡ xs
  positions xs g h = positions-from 0 xs g (λ i l. ap g (let b : 0 + i ≡ i = omega arith in b) ∙ h i l)

  module _ (field : A → ℕ) (k : ℕ) where
    -- an element of a column with zeros after it
    pub column-at : (xs : List A) (i : ℕ) → i < length xs → get_or (map field xs ++ replicate k 0) i 0 ≡ field (get_or xs i d)
    column-at xs i h = get_or-append (map field xs) (replicate k 0) 0 i (omega (arith, length-map xs field)) ∙ get_d-map-lt field xs i d 0 h

    -- and past them
    pub column-past : (xs : List A) (i : ℕ) → length xs ≤ i → get_or (map field xs ++ replicate k 0) i 0 ≡ 0
    column-past [] i h = zeros-at k i
    column-past (x ∷ xs) zero h = absurd (omega arith)
    column-past (x ∷ xs) (suc i) h = column-past xs i (omega arith)

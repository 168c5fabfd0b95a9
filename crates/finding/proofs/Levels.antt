-- Where levels never fall, an entry is one level above the later of those that it cites.
use mathlib.Core.Path.{◌≡◌, ◌∙◌}
use mathlib.Core.Logic.{◌⊎◌, inl, inr}
use mathlib.Core.List.{List}
use Prim.Native.Nat.{ℕ, suc, ◌+◌, ◌-◌, ◌≤◌, ◌<◌, max}
use native.Mathlib.Omega.{arith}
use lib.ListN.{get_or}
use Rattle.store.specs.Notes.{word, level_of, level_by, Leveled}
use Rattle.store.proofs.Chains.{equal_or_not, below_or_not}
use Rattle.store.proofs.Notes.{level-by-none, level-by-cited}
use Rattle.levels.specs.Levels.{Rising}

module _ (notes : List ℕ) (n : ℕ) (rising : Rising notes n) where
  -- a later word cites no lower level
  by-later : (v w : ℕ) → v ≤ w → w ≤ n → level_by notes v ≤ level_by notes w
  by-later v w l h = go (equal_or_not v 0)
    where
      go : (v ≡ 0) ⊎ (v ≡ 0 → ⊥) → level_by notes v ≤ level_by notes w
      go (inl z) = omega (arith, level-by-none notes v z)
      go (inr nz) = omega (arith, level-by-cited notes v nz, level-by-cited notes w (λ z. omega arith), rising (v - 1) (w - 1) (omega arith) (omega arith))

  pub by-max : (v w : ℕ) → v ≤ n → w ≤ n → level_by notes (max v w) ≡ max (level_by notes v) (level_by notes w)
  by-max v w h k = go (below_or_not v w)
    where
      go : (v < w) ⊎ (w ≤ v) → level_by notes (max v w) ≡ max (level_by notes v) (level_by notes w)
      go (inl l) = let e : max v w ≡ w = omega arith in (λ u. level_by notes (e u)) ∙ omega (arith, by-later v w (omega arith) k)
      go (inr l) = let e : max v w ≡ v = omega arith in (λ u. level_by notes (e u)) ∙ omega (arith, by-later w v l h)

  -- one step down the way from an entry to the first of its line
  pub level-next : (at : ℕ) → (at ≡ 0 → ⊥) → at ≤ n → Leveled notes (at - 1) → level_by notes at ≡ suc (level_by notes (max (word notes (at - 1) 1) (word notes (at - 1) 2)))
  level-next at nz h v =
      omega (arith, level-by-cited notes at nz, v.level, by-max (word notes (at - 1) 1) (word notes (at - 1) 2) (omega (arith, v.first)) (omega (arith, v.second)))

-- ---- the way down the later entries, at the word `at`: the level so far and what is left of it

abbrev pub Down : List ℕ → ℕ → ℕ → ℕ → Type 0
Down notes x level at = (level + at ≤ x + 1) × (level + level_by notes at ≡ level_of notes x)

pub down-start : (notes : List ℕ) (x : ℕ) → Down notes x 0 (x + 1)
down-start notes x =
    let e : x + 1 - 1 ≡ x = omega arith in
    let l : level_by notes (x + 1) ≡ level_of notes x = level-by-cited notes (x + 1) (λ z. omega arith) ∙ (λ u. level_of notes (e u)) in
    (omega arith, omega arith)

module _ (notes : List ℕ) (x n : ℕ) (low : x < n) (rising : Rising notes n) (all : (i : ℕ) → i ≤ x → Leveled notes i) (level at : ℕ) {next : ℕ} (d : Down notes x level at) (nz : at ≡ 0 → ⊥)
    (e : next ≡ max (get_or notes (1023 + at) 0) (get_or notes (2047 + at) 0)) where
  v : Leveled notes (at - 1)
  v = all (at - 1) (omega (arith, d.0))

  is-next : next ≡ max (word notes (at - 1) 1) (word notes (at - 1) 2)
  is-next =
      let p : 1023 + at ≡ 1024 + (at - 1) = omega arith in
      let q : 2047 + at ≡ 2048 + (at - 1) = omega arith in
      e ∙ (λ u. max (get_or notes (p u) 0) (get_or notes (q u) 0))

  pub down-less : next < at
  down-less = omega (arith, is-next, v.first, v.second)

  pub down-next : Down notes x (level + 1) next
  down-next =
      let l : level_by notes next ≡ level_by notes (max (word notes (at - 1) 1) (word notes (at - 1) 2)) = λ u. level_by notes (is-next u) in
      let k = level-next notes n rising at nz (omega (arith, d.0)) v in
      (omega (arith, down-less, d.0), omega (arith, d.1))

-- How entries came about: an entry is one level above those that it cites, what `note` writes, and what a change of later entries leaves as it is.
use mathlib.Core.Path.{◌≡◌, refl, ap, ◌∙◌, subst⁻¹}
use mathlib.Core.Logic.{◌⊎◌, inl, inr}
use mathlib.Core.Bool.{Bool, true, false}
use mathlib.Core.List.{List}
use Prim.Native.Nat.{ℕ, zero, suc, ◌+◌, ◌-◌, ◌*◌, ◌≤◌, ◌<◌, max}
use native.Mathlib.Nat.{not-suc-le-zero}
use native.Mathlib.Omega.{arith}
use borrow.Author.Tests.{ltb-true, lt-ltb, le-ltb}
use lib.Dec.{ltb}
use lib.ListN.{length, get_or, set, length-set}
use lib.Seq.{get_or-set_same, get_or-set_other}
use Rattle.meaning.specs.Lists.{if}
use Rattle.store.specs.Notes.{word, level_to, level_of, level_by, level_above, noted, Leveled, SameWords}
use Rattle.store.proofs.Chains.{last-or-below}

-- ---- what a word cites

pub level-by-none : (notes : List ℕ) (w : ℕ) → w ≡ 0 → level_by notes w ≡ 0
level-by-none notes w e = simp (le-ltb 0 w (omega arith))

pub level-by-cited : (notes : List ℕ) (w : ℕ) → (w ≡ 0 → ⊥) → level_by notes w ≡ level_of notes (w - 1)
level-by-cited notes w nz = simp (lt-ltb 0 w (omega arith))

-- the first n entries cite entries before them
abbrev pub Back : List ℕ → ℕ → Type 0
Back notes n = (i : ℕ) → i < n → (word notes i 1 ≤ i) × (word notes i 2 ≤ i)

pub leveled-back : (notes : List ℕ) (n : ℕ) → ((i : ℕ) → i < n → Leveled notes i) → Back notes n
leveled-back notes n all i l = ((all i l).first, (all i l).second)

-- what a word cites, by two functions that agree below i
by_word : (f g : ℕ → ℕ) (w i : ℕ) → w ≤ i → ((j : ℕ) → j < i → f j ≡ g j) → if (ltb 0 w) (f (w - 1)) 0 ≡ if (ltb 0 w) (g (w - 1)) 0
by_word f g w i o h = go (ltb 0 w) refl
  where
    go : (c : Bool) → ltb 0 w ≡ c → if c (f (w - 1)) 0 ≡ if c (g (w - 1)) 0
    go true q = let z = ltb-true 0 w q in h (w - 1) (omega arith)
    go false q = refl

-- ---- a level does not depend on how far it is followed, once that is far enough

module _ (notes : List ℕ) (n : ℕ) (back : Back notes n) where
  any-depth : (d e i : ℕ) → i < n → i < d → i < e → level_to notes d i ≡ level_to notes e i
  unfolding level_to
  any-depth zero e i l h k = absurd (not-suc-le-zero h)
  any-depth (suc d) zero i l h k = absurd (not-suc-le-zero k)
  any-depth (suc d) (suc e) i l h k =
      let b = back i l in
      let same : (j : ℕ) → j < i → level_to notes d j ≡ level_to notes e j = λ j o. any-depth d e j (omega arith) (omega arith) (omega arith) in
      let first = by_word (level_to notes d) (level_to notes e) (word notes i 1) i b.0 same in
      let second = by_word (level_to notes d) (level_to notes e) (word notes i 2) i b.1 same in
      λ u. suc (max (first u) (second u))

  -- an entry is one level above those that it cites
  pub level-above : (i : ℕ) → i < n → level_of notes i ≡ level_above notes (word notes i 1) (word notes i 2)
  unfolding level_to
  level-above i l =
      let b = back i l in
      let same : (j : ℕ) → j < i → level_to notes i j ≡ level_of notes j = λ j o. any-depth i (suc j) j (omega arith) o (omega arith) in
      let first = by_word (level_to notes i) (level_of notes) (word notes i 1) i b.0 same in
      let second = by_word (level_to notes i) (level_of notes) (word notes i 2) i b.1 same in
      λ u. suc (max (first u) (second u))

  pub leveled : (i : ℕ) → i < n → Leveled notes i
  leveled i l = record { first = (back i l).0; second = (back i l).1; level = level-above i l }

-- ---- a change of entries from n on

module _ (notes notes' : List ℕ) (n : ℕ) (same : SameWords notes n notes') where
  pub back-same : Back notes n → Back notes' n
  back-same back i l = (
    subst⁻¹ (λ (x : ℕ). x ≤ i) (same i 1 l (omega arith)) (back i l).0,
    subst⁻¹ (λ (x : ℕ). x ≤ i) (same i 2 l (omega arith)) (back i l).1,
  )

  module _ (back : Back notes n) where
    depth_same : (d i : ℕ) → i < n → level_to notes' d i ≡ level_to notes d i
    unfolding level_to
    depth_same zero i l = refl
    depth_same (suc d) i l =
        let b = back i l in
        let e = same i 1 l (omega arith) in
        let f = same i 2 l (omega arith) in
        let cited : (j : ℕ) → j < i → level_to notes' d j ≡ level_to notes d j = λ j o. depth_same d j (omega arith) in
        let first = by_word (level_to notes' d) (level_to notes d) (word notes i 1) i b.0 cited in
        let second = by_word (level_to notes' d) (level_to notes d) (word notes i 2) i b.1 cited in
        (λ u. suc (max (if (ltb 0 (e u)) (level_to notes' d (e u - 1)) 0) (if (ltb 0 (f u)) (level_to notes' d (f u - 1)) 0)))
        ∙ (λ u. suc (max (first u) (second u)))

    pub level-same : (i : ℕ) → i < n → level_of notes' i ≡ level_of notes i
    level-same i l = depth_same (suc i) i l

-- ---- the words of entry n

module _ (notes : List ℕ) (n at first second : ℕ) (room : length notes ≡ 3072) (few : n < 1024) where
  abbrev notes' : List ℕ
  notes' = noted notes n at first second

  pub noted-old : SameWords notes n notes'
  noted-old i k l m =
      get_or-set_other (set (set notes n at) (1024 + n) first) (2048 + n) (1024 * k + i) second 0 (λ e. omega arith)
      ∙ get_or-set_other (set notes n at) (1024 + n) (1024 * k + i) first 0 (λ e. omega arith)
      ∙ get_or-set_other notes n (1024 * k + i) at 0 (λ e. omega arith)

  pub noted-second : word notes' n 2 ≡ second
  noted-second = get_or-set_same (set (set notes n at) (1024 + n) first) (2048 + n) second 0 (simp length-set (omega arith))

  pub noted-first : word notes' n 1 ≡ first
  noted-first =
      get_or-set_other (set (set notes n at) (1024 + n) first) (2048 + n) (1024 + n) second 0 (λ e. omega arith)
      ∙ get_or-set_same (set notes n at) (1024 + n) first 0 (simp length-set (omega arith))

  pub noted-at : word notes' n 0 ≡ at
  noted-at =
      let e : 1024 * 0 + n ≡ n = omega arith in
      ap (λ (p : ℕ). get_or notes' p 0) e
      ∙ get_or-set_other (set (set notes n at) (1024 + n) first) (2048 + n) n second 0 (λ e. omega arith)
      ∙ get_or-set_other (set notes n at) (1024 + n) n first 0 (λ e. omega arith)
      ∙ get_or-set_same notes n at 0 (omega arith)

  pub noted-length : length notes' ≡ 3072
  noted-length = simp length-set room

  -- with the entries before it
  pub noted-all : first ≤ n → second ≤ n → ((i : ℕ) → i < n → Leveled notes i) → (i : ℕ) → i < n + 1 → Leveled notes' i
  noted-all h k all = leveled notes' (n + 1) (λ i l. go i (last-or-below (omega arith)))
    where
      go : (i : ℕ) → (i ≡ n) ⊎ (i < n) → (word notes' i 1 ≤ i) × (word notes' i 2 ≤ i)
      go i (inl e) = subst⁻¹ (λ (x : ℕ). (word notes' x 1 ≤ x) × (word notes' x 2 ≤ x)) e (subst⁻¹ (λ (x : ℕ). x ≤ n) noted-first h, subst⁻¹ (λ (x : ℕ). x ≤ n) noted-second k)
      go i (inr o) = back-same notes notes' n noted-old (leveled-back notes n all) i o

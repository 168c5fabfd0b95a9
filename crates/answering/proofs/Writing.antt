-- Writing a column of the steps: the loop at place i, and the list at the end.
use mathlib.Core.Path.{◌≡◌, refl, sym, ap, ◌∙◌}
use mathlib.Core.List.{List, [], ◌∷◌, ◌++◌, map}
use Prim.Native.Nat.{ℕ, ◌+◌, ◌-◌, ◌<◌}
use native.Mathlib.Numerals.{add-one}
use lib.ListN.{length, set, take, replicate, length-set}
use lib.Seq.{take-suc-set}
use Rattle.meaning.specs.Lists.{below}
use Rattle.meaning.specs.Proofs.{Step}
use Rattle.derivation.specs.HandedOut.{words}
use Rattle.derivation.proofs.Positions.{map-below-next, map-below-length}
use Rattle.answering.specs.Steps.{step_at, steps_in}

-- ---- the first i places of a list have the values of f

abbrev pub Filled : (ℕ → ℕ) → List ℕ → List ℕ → ℕ → Type 0
Filled f l₀ l i = (length l ≡ length l₀) × (take i l ≡ map f (below i))

pub filled_none : (f : ℕ → ℕ) (l : List ℕ) → Filled f l l 0
filled_none f l = (refl, refl)

pub filled_more : (f : ℕ → ℕ) (l₀ l : List ℕ) (i v : ℕ) → i < length l → v ≡ f i → Filled f l₀ l i → Filled f l₀ (set l i v) (i + 1)
filled_more f l₀ l i v h e (a, b) = (
  length-set l i v ∙ a,
  ap (λ (n : ℕ). take n (set l i v)) (add-one i) ∙ take-suc-set l i v h ∙ (λ u. b u ++ e u ∷ []) ∙ sym (map-below-next f i) ∙ ap (λ (n : ℕ). map f (below n)) (sym (add-one i)),
)

-- ---- as the words of the steps

map-map : {A : Type 0} (field : A → ℕ) (f : ℕ → A) (l : List ℕ) → map field (map f l) ≡ map (λ (i : ℕ). field (f i)) l
map-map field f [] = refl
map-map field f (x ∷ l) = ap (λ (r : List ℕ). field (f x) ∷ r) (map-map field f l)

pub steps-count : (keys notes : List ℕ) (count : ℕ) → length (steps_in keys notes count) ≡ count
unfolding steps_in
steps-count keys notes count = map-below-length (step_at keys notes) count

pub column-words : (keys notes : List ℕ) (count : ℕ) (field : Step → ℕ) (size : ℕ) {l : List ℕ} → l ≡ map (λ (i : ℕ). field (step_at keys notes i)) (below count) ++ replicate (size - count) 0 → l ≡ words field size (steps_in keys notes count)
unfolding steps_in
column-words keys notes count field size e =
    e ∙ (λ u. sym (map-map field (step_at keys notes) (below count)) u ++ replicate (size - sym (map-below-length (step_at keys notes) count) u) 0)

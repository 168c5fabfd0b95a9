-- The first entity of a set from a number on.
use mathlib.Core.Path.{◌≡◌, ap, ◌∙◌}
use mathlib.Core.Bool.{Bool, true, false}
use mathlib.Core.List.{List, ◌∷◌}
use Prim.Native.Nat.{ℕ, suc, ◌+◌, ◌-◌, ◌/◌, ◌%◌, ◌^◌, ◌≤◌, ◌<◌}
use native.Mathlib.Omega.{arith}
use borrow.Author.Tests.{eq-eqb, ne_eqb}
use Rattle.meaning.specs.Lists.{if, up_from}
use Rattle.sets.specs.Sets.{has}
use Rattle.sentences.specs.Words.{first_of}

-- the numbers from e up to 31
abbrev pub onward : ℕ → List ℕ
onward e = up_from e (32 - e)

onward-more : (e : ℕ) → e < 32 → onward e ≡ e ∷ onward (e + 1)
onward-more e h =
    let n : 32 - e ≡ suc (32 - (e + 1)) = omega arith in
    let s : suc e ≡ e + 1 = omega arith in
    ap (up_from e) n ∙ ap (λ (k : ℕ). e ∷ up_from k (32 - (e + 1))) s

module _ (X e : ℕ) where
  pub past-last : 32 ≤ e → first_of (has X) (onward e) ≡ 0
  past-last h = let n : 32 - e ≡ 0 = omega arith in ap (λ (k : ℕ). first_of (has X) (up_from e k)) n

  module _ (h : e < 32) where
    by : (b : Bool) → has X e ≡ b → first_of (has X) (onward e) ≡ if b e (first_of (has X) (onward (e + 1)))
    by b t = ap (first_of (has X)) (onward-more e h) ∙ ap (λ (c : Bool). if c e (first_of (has X) (onward (e + 1)))) t

    pub here : X / 2 ^ e % 2 ≡ 1 → first_of (has X) (onward e) ≡ e
    here t = by true (eq-eqb _ _ t)

    pub later : (X / 2 ^ e % 2 ≡ 1 → ⊥) → first_of (has X) (onward e) ≡ first_of (has X) (onward (e + 1))
    later t = by false (ne_eqb _ _ t)

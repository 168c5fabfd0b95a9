-- The words from a line on, one byte after the other.
use mathlib.Core.Path.{◌≡◌, refl, sym, ap, ◌∙◌}
use mathlib.Core.Bool.{Bool, true, false}
use mathlib.Core.List.{List, [], ◌∷◌}
use Prim.Native.Nat.{ℕ, zero, suc, ◌+◌, ◌-◌, ◌<◌, ◌≤◌}
use native.Mathlib.Numerals.{add-one}
use native.Mathlib.Omega.{arith}
use borrow.Author.Tests.{eq-eqb, ne_eqb}
use lib.Dec.{eqb}
use lib.ListN.{length, get_or, drop, drop_of_length-le}
use lib.Seq.{drop-cons, drop-length}
use Rattle.meaning.specs.Lists.{if}
use Rattle.sentences.specs.Filling.{line_from}

pub at_place : (w : List ℕ) (i : ℕ) → i < length w → drop i w ≡ get_or w i 0 ∷ drop (i + 1) w
at_place w i h = rw (add-one, drop-cons w i 0)

by : (n c : ℕ) (t : List ℕ) (b : Bool) → (n ≡ 0 → ⊥) → eqb c 10 ≡ b → line_from n (c ∷ t) ≡ if b (line_from (n - 1) t) (line_from n t)
by zero c t b h e = absurd (h refl)
by (suc n) c t b h e =
    let k : n ≡ suc n - 1 = omega arith in
    ap (λ (d : Bool). if d (line_from n t) (line_from (suc n) t)) e ∙ ap (λ (m : ℕ). if b (line_from m t) (line_from (suc n) t)) k

module _ (w : List ℕ) (n i : ℕ) (h : i < length w) (left : n ≡ 0 → ⊥) where
  pub past-newline : get_or w i 0 ≡ 10 → line_from n (drop i w) ≡ line_from (n - 1) (drop (i + 1) w)
  past-newline e = ap (line_from n) (at_place w i h) ∙ by n (get_or w i 0) (drop (i + 1) w) true left (eq-eqb _ _ e)

  pub past-byte : (get_or w i 0 ≡ 10 → ⊥) → line_from n (drop i w) ≡ line_from n (drop (i + 1) w)
  past-byte e = ap (line_from n) (at_place w i h) ∙ by n (get_or w i 0) (drop (i + 1) w) false left (ne_eqb _ _ e)

none : (n : ℕ) → line_from n [] ≡ []
none zero = refl
none (suc n) = refl

-- no line begins after the end
pub past_end : (w : List ℕ) (n i : ℕ) → length w ≤ i → drop (length w) w ≡ line_from n (drop i w)
past_end w n i h = drop-length w ∙ sym (ap (line_from n) (drop_of_length-le w h) ∙ none n)

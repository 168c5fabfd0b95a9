-- Filling a line: what was put, with what is still to come, is the whole line.
use mathlib.Core.Path.{◌≡◌, sym, ap, subst, ◌∙◌}
use mathlib.Core.Bool.{Bool, true}
use mathlib.Core.List.{List, [], ◌∷◌, ◌++◌, append_assoc}
use Prim.Native.Nat.{ℕ, ◌+◌, ◌-◌, ◌<◌, ◌≤◌}
use native.Mathlib.Omega.{arith}
use borrow.Author.Tests.{ne_eqb}
use lib.ListN.{length, get_or, drop}
use Rattle.meaning.specs.Lists.{if}
use Rattle.sentences.specs.declared.Filling.{Filling}
use Rattle.sentences.specs.Filling.{piece, next, filled, most, fitting}
use Rattle.sentences.proofs.Lines.{at_place}
use Rattle.sentences.proofs.Fitting.{taken, rest, more}

pub record Progress (start s : Filling) (w out : List ℕ) (i : ℕ) : Type 0 where
  pub text : out ++ filled s (drop i w) ≡ filled start w
  pub within : length out ≤ 255
  pub room : fitting (255 - length out) (drop i w) ≡ true

-- at a byte that is no newline
module _ {start s : Filling} {w out : List ℕ} {i : ℕ} (p : Progress start s w out i) (h : i < length w) (n : get_or w i 0 ≡ 10 → ⊥) where
  abbrev c : ℕ
  c = get_or w i 0

  here : fitting (255 - length out) (c ∷ drop (i + 1) w) ≡ true
  here = subst (λ (l : List ℕ). fitting (255 - length out) l ≡ true) (at_place w i h) p.room

  pub fits : length out + most (get_or w i 0) ≤ 255
  fits = omega (arith, taken (255 - length out) c (drop (i + 1) w) (ne_eqb _ _ n) here, p.within)

  step : filled s (drop i w) ≡ piece s c ++ filled (next s c) (drop (i + 1) w)
  step =
      ap (filled s) (at_place w i h)
      ∙ ap (λ (b : Bool). if b [] (piece s c ++ filled (next s c) (drop (i + 1) w))) (ne_eqb _ _ n)

  pub further : {new : List ℕ} → new ≡ out ++ piece s (get_or w i 0) → length new ≤ length out + most (get_or w i 0)
      → Progress start (next s (get_or w i 0)) w new (i + 1)
  further {new} e q =
      record {
        text =
            ap (λ (l : List ℕ). l ++ filled (next s c) (drop (i + 1) w)) e
            ∙ append_assoc out (piece s c) (filled (next s c) (drop (i + 1) w))
            ∙ ap (λ (l : List ℕ). out ++ l) (sym step)
            ∙ p.text;
        within = omega (arith, fits);
        room =
            more (255 - length out - most c) (255 - length new) (drop (i + 1) w) (omega arith)
            (rest (255 - length out) c (drop (i + 1) w) (ne_eqb _ _ n) here);
      }

-- What a head that passes 1 to 3 tells.
use mathlib.Core.Path.{◌≡◌, refl, ap, ◌∙◌, sym, subst⁻¹}
use mathlib.Core.Bool.{Bool, true, ◌&&◌, not}
use mathlib.Core.List.{List}
use Prim.Native.Nat.{ℕ}
use native.Mathlib.Decide.{ℕ_discrete}
use mathlib.Core.Logic.{dite}
use Rattle.meaning.specs.Lists.{if}
use lib.Dec.{T, eqb, leb, ltb, leb→le, eqb→eq}
use lib.ListN.{length}
use borrow.Author.Tests.{eq-eqb, ne_eqb}
use Rattle.file.specs.declared.Head.{Head}
use Rattle.file.specs.Format.{E, R, N, length_for}
use Rattle.file.specs.Reading.{between, head_rows}
use Rattle.file.specs.Values.{head_in, no_sizes, first_number, Headed}
use Rattle.meaning.proofs.Tests.{and_left, and_right}
use Rattle.file.proofs.First.{not-not, clear-holds}

pub head-number : (f : List ℕ) → (head_in f).number ≡ first_number (head_rows f)
head-number f = go (first_number (head_rows f))
  where
    go : (n : ℕ) → (if (eqb n 0) (record { number = 0; entities = E f; names = R f; credentials = N f }) (no_sizes n)).number ≡ n
    go n = dite (ℕ_discrete n 0) (λ e. simp (eq-eqb _ _ e) (sym e)) (λ h. simp (ne_eqb _ _ h))

pub head-sizes : (f : List ℕ) → first_number (head_rows f) ≡ 0 → head_in f ≡ record { number = 0; entities = E f; names = R f; credentials = N f }
head-sizes f e = simp (eq-eqb _ _ e)

-- refusal 2 does not hold
abbrev pub fit : List ℕ → Bool
fit f = between 1 32 (E f) && between 1 32 (R f) && between 0 256 (N f)

abbrev long : List ℕ → Bool
long f = eqb (length f) (length_for (N f))

pub headed : (f : List ℕ) → first_number (head_rows f) ≡ 0 → Headed f (head_in f)
headed f e =
    let t : T (not (ltb (length f) 6) && (not (not (fit f)) && (not (not (long f)) && true))) = clear-holds (head_rows f) tt e in
    let u = and_right (not (ltb (length f) 6)) (not (not (fit f)) && (not (not (long f)) && true)) t in
    let s = not-not (fit f) (and_left (not (not (fit f))) (not (not (long f)) && true) u) in
    let l = not-not (long f) (and_left (not (not (long f))) true (and_right (not (not (fit f))) (not (not (long f)) && true) u)) in
    let er = and_left (between 1 32 (E f) && between 1 32 (R f)) (between 0 256 (N f)) s in
    let n = and_right (between 1 32 (E f) && between 1 32 (R f)) (between 0 256 (N f)) s in
    let b = and_left (between 1 32 (E f)) (between 1 32 (R f)) er in
    let c = and_right (between 1 32 (E f)) (between 1 32 (R f)) er in
    subst⁻¹ (Headed f) (head-sizes f e)
    (record {
      entities = refl;
      names = refl;
      credentials = refl;
      few = leb→le (N f) 256 (and_right (leb 0 (N f)) (leb (N f) 256) n);
      narrow = (leb→le (E f) 32 (and_right (leb 1 (E f)) (leb (E f) 32) b), leb→le (R f) 32 (and_right (leb 1 (R f)) (leb (R f) 32) c));
      long = eqb→eq (length f) (length_for (N f)) l;
    })

-- the same of a value that the contract of `read_head` gives
module _ (f : List ℕ) (h : Head) (e : h ≡ head_in f) where
  pub number_read : h.number ≡ first_number (head_rows f)
  number_read = ap (λ (x : Head). x.number) e ∙ head-number f

  pub headed-read : h.number ≡ 0 → Headed f h
  headed-read z = subst⁻¹ (Headed f) e (headed f (sym number_read ∙ z))

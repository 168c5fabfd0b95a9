-- Where a credential stands, and the answers by the refusal of the file.
use mathlib.Core.Path.{◌≡◌, refl, sym, ap, ◌∙◌, subst}
use mathlib.Core.Bool.{Bool, true, false, ◌&&◌}
use mathlib.Core.List.{List}
use Prim.Native.Nat.{ℕ, ◌<◌}
use native.Mathlib.Omega.{arith}
use lib.Dec.{T, eqb, ltb, ltb→lt, eqb→eq}
use borrow.Author.Tests.{eq-eqb, ne_eqb}
use Rattle.meaning.specs.Lists.{if}
use Rattle.meaning.proofs.Tests.{and_left, and_right}
use Rattle.file.specs.Format.{N, body_in}
use Rattle.file.specs.Refusals.{done, refused}
use Rattle.file.specs.Reading.{head_rows, credential_rows, reading, read}
use Rattle.file.specs.Values.{clear, readable, found_in, found_of}
use Rattle.file.specs.declared.Found.{Found}
use Rattle.file.specs.declared.Found.TheVariants.{Credential, End}
use Rattle.file.specs.declared.Credential as D
use Rattle.file.proofs.First.{outcome_of, first-refusal}
use Rattle.file.proofs.Sizes.{headed}
use Rattle.file.proofs.Rows.{reading-numbered}
use Rattle.walker.specs.Walking.{opened, found_at}

-- a credential stands only below N, which is at most 256
pub found_below : (f : List ℕ) (at number : ℕ) (c : D.Credential) → found_at f at number ≡ Credential c → at < 256
found_below f at number c e = by_number (eqb number 0) e
  where
    by-readable : (b : Bool) → readable f at ≡ b → (x : Found) → if b x End ≡ Credential c → at < 256
    by-readable true q x e =
        let t : T (readable f at) = subst T (sym q) tt in
        let h = clear (head_rows f) in
        let l = ltb at (N f) in
        let u = and_left (h && l) (clear (credential_rows f at)) t in
        let k = (headed f (eqb→eq _ 0 (and_left h l u))).few in
        omega (arith, ltb→lt at (N f) (and_right h l u))
    by-readable false q x e = let z : ◌≡◌ {A = ℕ} 0 1 = cc in absurd (omega arith)

    by_number : (b : Bool) → if b (found_in f at) End ≡ Credential c → at < 256
    by_number true e = by-readable (readable f at) refl (found_of f at (body_in f at)) e
    by_number false e = let z : ◌≡◌ {A = ℕ} 0 1 = cc in absurd (omega arith)

module _ (f : List ℕ) (at : ℕ) where
  by-refusal : read f (found_in f at) ≡ outcome_of (opened f) (found_in f at)
  unfolding reading
  by-refusal = first-refusal (reading f) (found_in f at) (reading-numbered f)

  -- a refused file's answer is its refusal
  pub entry-refused : ((opened f).number ≡ 0 → ⊥) → read f (found_in f at) ≡ refused (opened f).number (opened f).place
  entry-refused h = by-refusal ∙ rw (ne_eqb (opened f).number 0 h) refl

  -- another's is what stands at the place
  pub entry_found : (opened f).number ≡ 0 → (x : Found) → found_in f at ≡ x → read f (found_in f at) ≡ done x
  entry_found h x e =
      by-refusal ∙ ap (λ (b : Bool). if b (done (found_in f at)) (refused (opened f).number (opened f).place)) (eq-eqb (opened f).number 0 h) ∙ ap (λ (y : Found). done y) e

-- The first number that a test takes is one that it takes; where there is none, it takes none.
use mathlib.Core.Path.{◌≡◌, refl, sym, ap, subst, ◌∙◌}
use mathlib.Core.Bool.{Bool, true, false}
use mathlib.Core.Logic.{◌⊎◌, inl, inr, ⊎_elim}
use mathlib.Core.List.Memᴰ
use mathlib.Core.List.{List, [], ◌∷◌, Memᴰ as Mem}
use Prim.Native.Nat.{ℕ}
use Rattle.meaning.specs.Lists.{if}
use Rattle.sentences.specs.Words.{first_of}

-- the test takes the first number that was found
pub record Found (p : ℕ → Bool) (l : List ℕ) : Type 0 where
  pub in_list : Mem (first_of p l) l
  pub taken : p (first_of p l) ≡ true

-- the test takes no number
pub record Absent (p : ℕ → Bool) (l : List ℕ) : Type 0 where
  pub none : first_of p l ≡ 0
  pub each : (j : ℕ) → Mem j l → p j ≡ false

module _ (p : ℕ → Bool) (x : ℕ) (l : List ℕ) where
  step : (b : Bool) → p x ≡ b → Found p l ⊎ Absent p l → Found p (x ∷ l) ⊎ Absent p (x ∷ l)
  step true e r =
      let h : first_of p (x ∷ l) ≡ x = ap (λ (b : Bool). if b x (first_of p l)) e in
      inl (record { in_list = Mem.head h; taken = ap p h ∙ e })
  step false e (inl r) =
      let h : first_of p (x ∷ l) ≡ first_of p l = ap (λ (b : Bool). if b x (first_of p l)) e in
      inl (record { in_list = subst (λ (y : ℕ). Mem y (x ∷ l)) (sym h) (Mem.tail r.in_list); taken = ap p h ∙ r.taken })
  step false e (inr r) =
      let h : first_of p (x ∷ l) ≡ first_of p l = ap (λ (b : Bool). if b x (first_of p l)) e in
      inr (record { none = h ∙ r.none; each = λ j m. ⊎_elim (λ q. ap p q ∙ e) (λ n. r.each j n) (Memᴰ.cases_cons m) })

pub found-or : (p : ℕ → Bool) (l : List ℕ) → Found p l ⊎ Absent p l
found-or p [] = inr (record { none = refl; each = λ j m. absurd (Memᴰ.not-nil m) })
found-or p (x ∷ l) = step p x l (p x) refl (found-or p l)

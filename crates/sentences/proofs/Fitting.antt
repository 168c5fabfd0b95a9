-- What fits in more bytes, from a line on, and after a byte.
use mathlib.Core.Path.{◌≡◌, refl, sym, ap, ◌∙◌}
use mathlib.Core.Bool.{Bool, true, false, ◌&&◌}
use mathlib.Core.List.{List, [], ◌∷◌}
use Prim.Native.Nat.{ℕ, zero, suc, ◌-◌, ◌≤◌}
use native.Mathlib.Omega.{arith}
use borrow.Author.Tests.{leb-true, le-leb}
use lib.Dec.{eqb, leb}
use Rattle.meaning.specs.Lists.{if}
use Rattle.sentences.specs.Filling.{most, fitting, line_from}

left : (a b : Bool) → (a && b) ≡ true → a ≡ true
left true b e = refl
left false b e = e

right : (a b : Bool) → (a && b) ≡ true → b ≡ true
right true b e = e
right false b e = let z : ◌≡◌ {A = ℕ} 0 1 = cc in absurd (omega arith)

-- what one byte leaves
module _ (n c : ℕ) (t : List ℕ) (h : eqb c 10 ≡ false) (f : fitting n (c ∷ t) ≡ true) where
  both : (leb (most c) n && fitting (n - most c) t) ≡ true
  unfolding fitting
  both = sym (ap (λ (b : Bool). if b (fitting 255 t) (leb (most c) n && fitting (n - most c) t)) h) ∙ f

  pub taken : most c ≤ n
  taken = leb-true (most c) n (left (leb (most c) n) (fitting (n - most c) t) both)

  pub rest : fitting (n - most c) t ≡ true
  rest = right (leb (most c) n) (fitting (n - most c) t) both

-- more bytes serve as well
module _ where
  more_by : (m n c : ℕ) (t : List ℕ) (b : Bool) → eqb c 10 ≡ b → m ≤ n → (fitting (m - most c) t ≡ true → fitting (n - most c) t ≡ true)
      → fitting m (c ∷ t) ≡ true → fitting n (c ∷ t) ≡ true
  unfolding fitting
  more_by m n c t true e h r f = rw e (rw e at f)
  more_by m n c t false e h r f = rw (e, le-leb (most c) n (omega (arith, taken m c t e f))) (r (rest m c t e f))

  pub more : (m n : ℕ) (t : List ℕ) → m ≤ n → fitting m t ≡ true → fitting n t ≡ true
  unfolding fitting
  more m n [] h f = refl
  more m n (c ∷ t) h f = more_by m n c t (eqb c 10) refl h (more (m - most c) (n - most c) t (omega arith)) f

-- from a later line on, by its number and the rest of the words
module _ (m c : ℕ) (t : List ℕ) where
  later-by : (n : ℕ) (b : Bool) → eqb c 10 ≡ b → (fitting 255 t ≡ true → fitting 255 (line_from n t) ≡ true)
      → (fitting (m - most c) t ≡ true → fitting 255 (line_from (suc n) t) ≡ true) → fitting m (c ∷ t) ≡ true
      → fitting 255 (line_from (suc n) (c ∷ t)) ≡ true
  unfolding fitting
  later-by n true e g h f = rw e (g (rw e at f))
  later-by n false e g h f = rw e (h (rest m c t e f))

later : (m n : ℕ) (t : List ℕ) → fitting m t ≡ true → fitting 255 (line_from (suc n) t) ≡ true
unfolding fitting
later m n [] f = refl
later m zero (c ∷ t) f = later-by m c t zero (eqb c 10) refl (λ g. g) (later (m - most c) zero t) f
later m (suc n) (c ∷ t) f = later-by m c t (suc n) (eqb c 10) refl (later 255 n t) (later (m - most c) (suc n) t) f

pub from-line : (n : ℕ) (t : List ℕ) → fitting 255 t ≡ true → fitting 255 (line_from n t) ≡ true
from-line zero t f = f
from-line (suc n) t f = later 255 n t f

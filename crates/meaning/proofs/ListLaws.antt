-- What is in the lists that `only`, `each`, `map`, `below` and `replicate` build.
use mathlib.Core.Path.{◌≡◌, refl, sym, ap, ap₂, ◌∙◌, subst}
use mathlib.Core.Logic.{◌⊎◌, inl, inr}
use mathlib.Core.Bool.{Bool, true, false}
use mathlib.Core.List.Memᴰ.{append_cases}
use mathlib.Core.List.Memᴰ.{append_left}
use mathlib.Core.List.Memᴰ.{append_right}
use mathlib.Core.List.Memᴰ.{head}
use mathlib.Core.List.Memᴰ.{tail}
use mathlib.Core.List.{List, [], ◌∷◌, ◌++◌, map, Memᴰ as Mem}
use Prim.Native.Nat.{ℕ, zero, suc, ◌+◌, ◌<◌, ◌≤◌, zero-le, suc-le-suc}
use native.Mathlib.Nat.{le_of_suc-le-suc, not-suc-le-zero, eq-or-lt_of_le}
use native.Mathlib.Omega.{arith}
use lib.Dec.{T}
use lib.ListN.{length, get_or, replicate}
use Rattle.meaning.specs.Lists.{only, each, up_from, below}

module _ {A B : Type 0} where
  pub each_in : (f : A → List B) {x : A} {y : B} {l : List A} → Mem x l → Mem y (f x) → Mem y (each f l)
  each_in f {y = y} (head {xs = l} e) m = append_left (each f l) (subst (λ z. Mem y (f z)) e m)
  each_in f (tail {x = z} h) m = append_right (f z) (each_in f h m)

  pub each-out : (f : A → List B) {y : B} (l : List A) → Mem y (each f l) → (x : A) × Mem x l × Mem y (f x)
  each-out f [] m = elim m [ ]
  each-out f {y} (z ∷ l) m = go (each-out f l) (append_cases (f z) m)
    where
      go : (Mem y (each f l) → (x : A) × Mem x l × Mem y (f x)) → Mem y (f z) ⊎ Mem y (each f l) → (x : A) × Mem x (z ∷ l) × Mem y (f x)
      go rec (inl h) = (z, head refl, h)
      go rec (inr h) = let r = rec h in (r.0, tail r.1, r.2)

  pub map-in : (f : A → B) {x : A} {l : List A} → Mem x l → Mem (f x) (map f l)
  map-in f (head e) = head (ap f e)
  map-in f (tail h) = tail (map-in f h)

  pub map-out : (f : A → B) {y : B} (l : List A) → Mem y (map f l) → (x : A) × Mem x l × (y ≡ f x)
  map-out f {y = y} [] x' = elim x' [ ]
  map-out f (z ∷ l) (head e) = (z, head refl, e)
  map-out f (z ∷ l) (tail h) = let r = map-out f l h in (r.0, tail r.1, r.2)

  pub each_same : {f g : A → List B} (l : List A) → ((x : A) → Mem x l → f x ≡ g x) → each f l ≡ each g l
  each_same [] h = refl
  each_same (x ∷ l) h = ap₂ {C = List B} (λ a b. a ++ b) (h x (head refl)) (each_same l (λ y i. h y (tail i)))

module _ {A : Type 0} where
  pub only-in : (b : Bool) {x : A} {l : List A} → T b → Mem x l → Mem x (only b l)
  only-in true t m = m
  only-in false t m = absurd t

  pub only_out : (b : Bool) {x : A} {l : List A} → Mem x (only b l) → T b × Mem x l
  only_out true m = (tt, m)
  only_out false m = elim m [ ]

  pub sole : {x y : A} → Mem x (y ∷ []) → x ≡ y
  sole (head e) = e
  sole {y = y} (tail x5) = elim x5 [ ]

  pub cast : {x y : A} {l : List A} → x ≡ y → Mem y l → Mem x l
  cast e (head p) = head (e ∙ p)
  cast e (tail h) = tail (cast e h)

  -- members by their place
  pub place-in : (d : A) (l : List A) (i : ℕ) → i < length l → Mem (get_or l i d) l
  place-in d [] i h = absurd (not-suc-le-zero h)
  place-in d (x ∷ l) zero h = head refl
  place-in d (x ∷ l) (suc i) h = tail (place-in d l i (le_of_suc-le-suc h))

  pub place_out : (d : A) {x : A} {l : List A} → Mem x l → (i : ℕ) × (i < length l) × (get_or l i d ≡ x)
  place_out d (head e) = (zero, suc-le-suc zero-le, sym e)
  place_out d (tail h) = let r = place_out d h in (suc r.0, suc-le-suc r.1, r.2)

-- the numbers below n
up_in : (n i k : ℕ) → i ≤ k → k < i + n → Mem k (up_from i n)
up_in zero i k h l = absurd (omega arith)
up_in (suc n) i k h l = go (eq-or-lt_of_le h) (λ g. up_in n (suc i) k g (omega arith))
  where
    go : (i ≡ k) ⊎ (i < k) → (suc i ≤ k → Mem k (up_from (suc i) n)) → Mem k (up_from i (suc n))
    go (inl e) rec = head (sym e)
    go (inr g) rec = tail (rec g)

up-out : (n i : ℕ) {k : ℕ} → Mem k (up_from i n) → (i ≤ k) × (k < i + n)
up-out zero i m = elim m [ ]
up-out (suc n) i (head e) = omega (arith, e)
up-out (suc n) i (tail h) = let r = up-out n (suc i) h in omega arith

pub below_in : (n k : ℕ) → k < n → Mem k (below n)
below_in n k h = up_in n 0 k zero-le (omega arith)

pub below_out : (n : ℕ) {k : ℕ} → Mem k (below n) → k < n
below_out n m = let r = up-out n 0 m in omega arith

-- a list of zeros has 0 at every place
pub zeros-at : (n i : ℕ) → ◌≡◌ {A = ℕ} (get_or (replicate n 0) i 0) 0
zeros-at zero i = refl
zeros-at (suc n) zero = refl
zeros-at (suc n) (suc i) = zeros-at n i

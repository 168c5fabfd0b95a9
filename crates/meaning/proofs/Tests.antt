-- Tests joined by && and ||, and what they say.
use mathlib.Core.Path.{◌≡◌, refl, subst, subst⁻¹}
use mathlib.Core.Logic.{◌⊎◌, inl, inr}
use mathlib.Core.Bool.{Bool, true, false, ◌&&◌, ◌||◌}
use mathlib.Core.List.Memᴰ.{head}
use mathlib.Core.List.Memᴰ.{tail}
use mathlib.Core.List.{List, [], ◌∷◌, Memᴰ as Mem}
use Prim.Native.Nat.{ℕ}
use lib.Dec.{T, eqb, eqb_refl}
use Rattle.meaning.specs.Lists.{all, any}

pub and_in : (a b : Bool) → T a → T b → T (a && b)
and_in true b s t = t
and_in false b s t = absurd s

pub and_left : (a b : Bool) → T (a && b) → T a
and_left true b t = tt
and_left false b t = t

pub and_right : (a b : Bool) → T (a && b) → T b
and_right true b t = t
and_right false b t = absurd t

pub or_left : (a b : Bool) → T a → T (a || b)
or_left true b t = tt
or_left false b t = absurd t

pub or_right : (a b : Bool) → T b → T (a || b)
or_right true b t = tt
or_right false b t = t

pub or_cases : (a b : Bool) → T (a || b) → T a ⊎ T b
or_cases true b t = inl tt
or_cases false b t = inr t

pub eq-in : (a b : ℕ) → a ≡ b → T (eqb a b)
eq-in a b e = subst (λ (x : ℕ). T (eqb a x)) e (eqb_refl a)

-- tests that say the same are equal
pub same_test : (a b : Bool) → (T a → T b) → (T b → T a) → a ≡ b
same_test true true f g = refl
same_test true false f g = absurd (f tt)
same_test false true f g = absurd (g tt)
same_test false false f g = refl

pub is_true : (b : Bool) → T b → b ≡ true
is_true true t = refl
is_true false t = absurd t

pub is_false : (b : Bool) → (T b → ⊥) → b ≡ false
is_false true f = absurd (f tt)
is_false false f = refl

module _ {A : Type 0} (p : A → Bool) where
  pub all-out : {x : A} (l : List A) → T (all p l) → Mem x l → T (p x)
  all-out [] t x3 = elim x3 [ ]
  all-out (y ∷ l) t (head e) = subst⁻¹ (λ z. T (p z)) e (and_left (p y) (all p l) t)
  all-out (y ∷ l) t (tail h) = all-out l (and_right (p y) (all p l) t) h

  pub any-in : {x : A} {l : List A} → Mem x l → T (p x) → T (any p l)
  any-in (head {x = y} {xs = l} e) t = or_left (p y) (any p l) (subst (λ z. T (p z)) e t)
  any-in (tail {x = y} {xs = l} h) t = or_right (p y) (any p l) (any-in h t)

  pub any_out : (l : List A) → T (any p l) → (x : A) × Mem x l × T (p x)
  any_out [] t = absurd t
  any_out (y ∷ l) t = go (or_cases (p y) (any p l) t) (any_out l)
    where
      go : T (p y) ⊎ T (any p l) → (T (any p l) → (x : A) × Mem x l × T (p x)) → (x : A) × Mem x (y ∷ l) × T (p x)
      go (inl u) rec = (y, head refl, u)
      go (inr u) rec = let r = rec u in (r.0, tail r.1, r.2)

-- The spans that a period covers: those from one place up to another, where the ends ascend.
use mathlib.Core.Path.{◌≡◌, sym, ap, ◌∙◌, subst}
use mathlib.Core.Bool.{Bool}
use mathlib.Core.Logic.{◌⊎◌, inl, inr}
use mathlib.Core.List.Memᴰ.{head}
use mathlib.Core.List.Memᴰ.{tail}
use mathlib.Core.List.{List, [], ◌∷◌, Memᴰ as Mem}
use Prim.Native.Nat.{ℕ, zero, suc, ◌-◌, ◌*◌, ◌/◌, ◌%◌, ◌^◌, ◌≤◌, ◌<◌, zero-le, suc-le-suc}
use native.Mathlib.Nat.{mod-eq_of_lt, pow-suc}
use native.Mathlib.Omega.{arith}
use lib.Dec.{T}
use lib.ListN.{get_or, take}
use lib.Pow.{pow_pos, pow-lt, pow_mono}
use Rattle.meaning.specs.Credentials.{Period, covers}
use Rattle.meaning.specs.Table.{bit, digit}
use Rattle.meaning.proofs.Bits.{bit-zero, bit-suc, bit-of-zero}
use Rattle.meaning.proofs.Rows.{digit-below-two, digit-out, digit-in}
use Rattle.meaning.proofs.Spans.{covers-in, covers_out}
use Rattle.survey.specs.Surveying.{Rising, FirstAt}
use Rattle.survey.proofs.Insertion.{below-mid}
use Rattle.store.proofs.Chains.{below_or_not}
use Rattle.masks.specs.Masks.{Spans, During, Masked}

-- ---- a number with the bits from p up to q

-- none up to 0
up-to-none : (p s : ℕ) → bit (2 ^ 0 - 2 ^ p) s ≡ 0
up-to-none p s = let e : 2 ^ 0 - 2 ^ p ≡ 0 = omega (arith, pow_pos p) in ap (λ (x : ℕ). bit x s) e ∙ bit-of-zero s

from-none : (q s : ℕ) → bit (2 ^ suc q - 2 ^ 0) (suc s) ≡ bit (2 ^ q - 2 ^ 0) s
from-none q s =
    let e : (2 ^ suc q - 2 ^ 0) / 2 ≡ 2 ^ q - 2 ^ 0 = omega (arith, pow-suc 2 q, pow_pos q) in
    bit-suc (2 ^ suc q - 2 ^ 0) s ∙ ap (λ (x : ℕ). bit x s) e

from_first : (q : ℕ) → bit (2 ^ suc q - 2 ^ 0) 0 ≡ 1
from_first q = bit-zero (2 ^ suc q - 2 ^ 0) ∙ omega (arith, pow-suc 2 q, pow_pos q)

both-more : (p q s : ℕ) → bit (2 ^ suc q - 2 ^ suc p) (suc s) ≡ bit (2 ^ q - 2 ^ p) s
both-more p q s =
    let e : (2 ^ suc q - 2 ^ suc p) / 2 ≡ 2 ^ q - 2 ^ p = omega (arith, pow-suc 2 q, pow-suc 2 p) in
    bit-suc (2 ^ suc q - 2 ^ suc p) s ∙ ap (λ (x : ℕ). bit x s) e

both_first : (p q : ℕ) → bit (2 ^ suc q - 2 ^ suc p) 0 ≡ 0
both_first p q = bit-zero (2 ^ suc q - 2 ^ suc p) ∙ omega (arith, pow-suc 2 q, pow-suc 2 p)

between-out : (p q s : ℕ) → bit (2 ^ q - 2 ^ p) s ≡ 1 → (p ≤ s) × (s < q)
between-out p zero s b = absurd (omega (arith, up-to-none p s))
between-out zero (suc q) zero b = (zero-le, suc-le-suc zero-le)
between-out zero (suc q) (suc s) b = let w = between-out zero q s (sym (from-none q s) ∙ b) in (zero-le, suc-le-suc w.1)
between-out (suc p) (suc q) zero b = absurd (omega (arith, both_first p q))
between-out (suc p) (suc q) (suc s) b = let w = between-out p q s (sym (both-more p q s) ∙ b) in (suc-le-suc w.0, suc-le-suc w.1)

between_in : (p q s : ℕ) → p ≤ s → s < q → bit (2 ^ q - 2 ^ p) s ≡ 1
between_in p zero s l m = absurd (omega arith)
between_in zero (suc q) zero l m = from_first q
between_in zero (suc q) (suc s) l m = from-none q s ∙ between_in zero q s zero-le (omega arith)
between_in (suc p) (suc q) zero l m = absurd (omega arith)
between_in (suc p) (suc q) (suc s) l m = both-more p q s ∙ between_in p q s (omega arith) (omega arith)

-- by shifts
shifted : (i : ℕ) → i < 64 → 1 * 2 ^ i % 2 ^ 64 ≡ 2 ^ i
shifted i l = let e : 1 * 2 ^ i ≡ 2 ^ i = omega arith in ap (λ (x : ℕ). x % 2 ^ 64) e ∙ mod-eq_of_lt (pow-lt l)

pub no-spans : (p q : ℕ) → q ≤ p → 0 ≡ 2 ^ q - 2 ^ p
no-spans p q l = omega (arith, pow_mono l)

pub some-spans : (p q : ℕ) → p < 64 → q < 64 → 1 * 2 ^ q % 2 ^ 64 - 1 * 2 ^ p % 2 ^ 64 ≡ 2 ^ q - 2 ^ p
some-spans p q l m = omega (arith, shifted p l, shifted q m)

pub shifts-ordered : (p q : ℕ) → p < 64 → q < 64 → p ≤ q → 1 * 2 ^ p % 2 ^ 64 ≤ 1 * 2 ^ q % 2 ^ 64
shifts-ordered p q l m h = omega (arith, shifted p l, shifted q m, pow_mono h)

-- ---- a period

module _ {es : List ℕ} {n : ℕ} (w : Spans es n) where
  -- from the first place not below x on, none is
  not-below : (x p s : ℕ) → FirstAt es n x p → p ≤ s → s < n → x ≤ get_or es s 0
  not-below x p s f l m = go (below_or_not (get_or es s 0) x)
    where
      go : (get_or es s 0 < x) ⊎ (x ≤ get_or es s 0) → x ≤ get_or es s 0
      go (inr k) = k
      go (inl k) = absurd (let b = below-mid es n x s w.room w.rising m k p (omega arith) in let a = f.above (omega arith) in omega arith)

  -- where some place is not below x, the first comes no later
  no-later : (x p s : ℕ) → FirstAt es n x p → x ≤ get_or es s 0 → p ≤ s
  no-later x p s f l = go (below_or_not s p)
    where
      go : (s < p) ⊎ (p ≤ s) → p ≤ s
      go (inr k) = k
      go (inl k) = absurd (let b = f.below s k in omega arith)

  pub masked : (v : Period) (p q r : ℕ) → FirstAt es n v.from p → FirstAt es n v.until q → r ≡ 2 ^ q - 2 ^ p → Masked es n v r
  masked v p q r f g e s = (λ b. out (sym (ap (λ (x : ℕ). bit x s) e) ∙ b), λ d. ap (λ (x : ℕ). bit x s) e ∙ put d)
    where
      out : bit (2 ^ q - 2 ^ p) s ≡ 1 → During es n v s
      out b =
          let i = between-out p q s b in
          let l : s < n = omega (arith, g.within) in
          (l, not-below v.from p s f i.0 l, g.below s i.1)

      before : During es n v s → (s < q) ⊎ (q ≤ s) → s < q
      before d (inl k) = k
      before d (inr k) = absurd (let a = not-below v.until q s g k d.0 in omega (arith, d.2))

      put : During es n v s → bit (2 ^ q - 2 ^ p) s ≡ 1
      put d = between_in p q s (no-later v.from p s f d.1) (before d (below_or_not s q))

-- ---- one span

module _ (es : List ℕ) (v : Period) where
  pub first_out : (s : ℕ) → During es 1 v s → (s ≡ 0) × T (covers v (get_or es 0 0))
  first_out s d = let e : s ≡ 0 = omega (arith, d.0) in (e, subst (λ (x : ℕ). T (covers v (get_or es x 0))) e (covers-in v (get_or es s 0) d.1 d.2))

  pub first-in : T (covers v (get_or es 0 0)) → During es 1 v 0
  first-in t = let w = covers_out v (get_or es 0 0) t in (omega arith, w.0, w.1)

  pub first-masked : (r : ℕ) → r ≡ digit (covers v (get_or es 0 0)) → Masked es 1 v r
  first-masked r e s = (out s, put s)
    where
      b : Bool
      b = covers v (get_or es 0 0)

      zero_bit : bit r 0 ≡ digit b
      zero_bit = ap (λ (x : ℕ). bit x 0) e ∙ bit-zero (digit b) ∙ mod-eq_of_lt (digit-below-two b)

      above : (s : ℕ) → bit r (suc s) ≡ 0
      above s = let z : r / 2 ≡ 0 = omega (arith, e, digit-below-two b) in bit-suc r s ∙ ap (λ (x : ℕ). bit x s) z ∙ bit-of-zero s

      out : (s : ℕ) → bit r s ≡ 1 → During es 1 v s
      out zero h = first-in (digit-out b (sym zero_bit ∙ h))
      out (suc s) h = absurd (omega (arith, above s))

      put : (s : ℕ) → During es 1 v s → bit r s ≡ 1
      put zero d = zero_bit ∙ digit-in b (first_out 0 d).1
      put (suc s) d = absurd (omega (arith, d.0))

-- ---- the first ends of some that ascend

take_out : {y : ℕ} (n : ℕ) (l : List ℕ) → Mem y (take n l) → Mem y l
take_out {y = y} zero l x' = elim x' [ ]
take_out {y = y} (suc n) [] x3 = elim x3 [ ]
take_out (suc n) (x ∷ l) (head e) = head e
take_out (suc n) (x ∷ l) (tail i) = tail (take_out n l i)

pub rising-take : (n : ℕ) (l : List ℕ) → Rising l → Rising (take n l)
rising-take zero l a = tt
rising-take (suc n) [] a = tt
rising-take (suc n) (x ∷ l) a = (λ y i. a.0 y (take_out n l i), rising-take n l a.1)

-- Which bytes of a statement its kind uses, as the tests of refusals 5 and 6 in the order of the code.
use mathlib.Core.Path.{◌≡◌, refl, ap, ap₂, sym, ◌∙◌}
use mathlib.Core.Bool.{Bool, true, false, ◌&&◌, ◌||◌, not, and_assoc, and-true}
use mathlib.Core.List.{List, [], ◌∷◌}
use Prim.Native.Nat.{ℕ, zero, suc, ◌≤◌, ◌<◌}
use native.Mathlib.Omega.{arith}
use native.Mathlib.Nat.{add-zero}
use lib.Dec.{eqb, ltb}
use Rattle.meaning.specs.Lists.{all}
use Rattle.file.specs.Format.{byte, E, R, statement_at, field}
use Rattle.file.specs.Reading.{uses, in_range, zeros}
use Rattle.file.specs.Values.{used_by}

-- what holds of each of the six kinds
pub by_kind : (P : ℕ → Type 0) → P 0 → P 1 → P 2 → P 3 → P 4 → P 5 → (k : ℕ) → k ≤ 5 → P k
by_kind P a b c d e f zero h = a
by_kind P a b c d e f (suc zero) h = b
by_kind P a b c d e f (suc (suc zero)) h = c
by_kind P a b c d e f (suc (suc (suc zero))) h = d
by_kind P a b c d e f (suc (suc (suc (suc zero)))) h = e
by_kind P a b c d e f (suc (suc (suc (suc (suc zero))))) h = f
by_kind P a b c d e f (suc (suc (suc (suc (suc (suc k)))))) h = absurd (omega arith)

-- Bytes 1 to 7 of a statement: issuer A, name r, b, s, c, t, and one that is always zero. Used are A, r and b always, s, c and t by kind.
abbrev pub ranged : ℕ → (ℕ → Bool) → (ℕ → Bool) → Bool
ranged k p q = (p 1 && p 3 && (not (used_by k).c || p 5)) && (q 2 && (not (used_by k).s || q 4) && (not (used_by k).t || q 6))

abbrev pub blank : ℕ → (ℕ → Bool) → Bool
blank k z = ((used_by k).s || z 4) && ((used_by k).c || z 5) && ((used_by k).t || z 6) && z 7

pub ranged-kind : (k : ℕ) → k ≤ 5 → (p q : ℕ → Bool) → all p (uses k).entities && all q (uses k).names ≡ ranged k p q
ranged-kind k h p q =
    let both : (all p (1 ∷ 3 ∷ 5 ∷ []) && all q (2 ∷ 4 ∷ 6 ∷ []) ≡ ranged 3 p q) = simp (and_assoc, and-true) in
    by_kind (λ (n : ℕ). all p (uses n).entities && all q (uses n).names ≡ ranged n p q)
    (simp (and_assoc, and-true)) (simp (and_assoc, and-true)) (simp (and_assoc, and-true)) both both both k h

pub blank-kind : (k : ℕ) → k ≤ 5 → (z : ℕ → Bool) → all z (uses k).unused ≡ blank k z
blank-kind k h z =
    let one : (all z (7 ∷ []) ≡ z 7) = and-true (z 7) in
    by_kind (λ (n : ℕ). all z (uses n).unused ≡ blank n z)
    (simp (and_assoc, and-true)) (simp (and_assoc, and-true)) (simp (and_assoc, and-true)) one one one k h

-- the two-role kinds use all three
pub used-joined : (k : ℕ) → k ≤ 5 → 3 ≤ k → record { s = true; c = true; t = true } ≡ used_by k
used-joined =
    by_kind (λ k. 3 ≤ k → record { s = true; c = true; t = true } ≡ used_by k) (λ h. absurd (omega arith)) (λ h. absurd (omega arith)) (λ h. absurd (omega arith)) (λ h. refl) (λ h. refl) (λ h. refl)

pub used-none : (k : ℕ) → 5 < k → record { s = false; c = false; t = false } ≡ used_by k
used-none (suc (suc (suc (suc (suc (suc k)))))) h = refl
used-none (suc (suc (suc (suc (suc zero))))) h = absurd (omega arith)
used-none (suc (suc (suc (suc zero)))) h = absurd (omega arith)
used-none (suc (suc (suc zero))) h = absurd (omega arith)
used-none (suc (suc zero)) h = absurd (omega arith)
used-none (suc zero) h = absurd (omega arith)
used-none zero h = absurd (omega arith)

pub kind_at : (f : List ℕ) (i : ℕ) → field f i 0 ≡ byte f (statement_at i)
kind_at f i = ap (byte f) (add-zero (statement_at i))

-- refusals 5 and 6 of statement i
pub in-range-kind : (f : List ℕ) (i e r : ℕ) → field f i 0 ≤ 5 → e ≡ E f → r ≡ R f
    → in_range f i ≡ ranged (byte f (statement_at i)) (λ j. ltb (field f i j) e) (λ j. ltb (field f i j) r)
in-range-kind f i e r h p q =
    ranged-kind (field f i 0) h (λ j. ltb (field f i j) (E f)) (λ j. ltb (field f i j) (R f))
    ∙ ap (λ (k : ℕ). ranged k (λ j. ltb (field f i j) (E f)) (λ j. ltb (field f i j) (R f))) (kind_at f i)
    ∙ ap₂ (λ (x y : ℕ). ranged (byte f (statement_at i)) (λ j. ltb (field f i j) x) (λ j. ltb (field f i j) y)) (sym p) (sym q)

pub zeros-kind : (f : List ℕ) (i : ℕ) → field f i 0 ≤ 5 → zeros f i ≡ blank (byte f (statement_at i)) (λ j. eqb (field f i j) 0)
zeros-kind f i h =
    blank-kind (field f i 0) h (λ j. eqb (field f i j) 0) ∙ ap (λ (k : ℕ). blank k (λ j. eqb (field f i j) 0)) (kind_at f i)

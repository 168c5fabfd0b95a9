-- The bit i of a number: under and, or, shift and doubling; the bits determine the number. And the sets of one, by counting bits.
use mathlib.Core.Path.{◌≡◌, refl, sym, ap, ap₂, ◌∙◌, subst, subst⁻¹}
use mathlib.Core.Logic.{◌⊎◌, inl, inr}
use Prim.Native.Nat.{ℕ, zero, suc, ◌+◌, ◌*◌, ◌/◌, ◌%◌, ◌^◌, ◌<◌, ◌≤◌, zero-le, suc-le-suc, min, max}
use native.Mathlib.Nat.{mod-lt, div-one, div-eq_of_lt, zero-div, zero-mod, pow-suc, lt_of_not-le, le_of_suc-le-suc, not-suc-le-zero, eq-or-lt_of_le}
use native.Mathlib.Omega.{arith}
use lib.Arith.{bin_ind, digits_div, digits_mod}
use lib.Bits.{bit_and, bit_or, and_step, or_step, and_shr, or_shr}
use lib.Count.{ones, ones_step, ones_cat, count_trailing_zeros, under}
use lib.Dec.{T, eqb, eqb→eq}
use lib.Pow.{shr-shr, pow_pos, pow_mono}
use Rattle.meaning.specs.Members.{entity, single}
use Rattle.meaning.specs.Table.{bit}
use Rattle.meaning.proofs.Tests.{same_test, eq-in}
use Rattle.meaning.proofs.Levels.{entity-power}

-- ---- one bit

pub bit-below-two : (n i : ℕ) → bit n i < 2
unfolding bit
bit-below-two n i = mod-lt (n / 2 ^ i) (suc-le-suc zero-le)

pub bit-zero : (n : ℕ) → bit n 0 ≡ n % 2
unfolding bit
bit-zero n = ap (λ (x : ℕ). x % 2) (div-one n)

pub bit-suc : (n i : ℕ) → bit n (suc i) ≡ bit (n / 2) i
unfolding bit
bit-suc n i = ap (λ (x : ℕ). x % 2) (ap (λ (x : ℕ). n / 2 ^ x) (omega arith) ∙ sym (shr-shr n 1 i))

pub bit-and : (a b i : ℕ) → bit (bit_and a b) i ≡ min (bit a i) (bit b i)
unfolding bit
bit-and a b i =
    ap (λ (x : ℕ). x % 2) (and_shr a b i ∙ and_step (a / 2 ^ i) (b / 2 ^ i))
    ∙ digits_mod (bit_and (a / 2 ^ i / 2) (b / 2 ^ i / 2)) (omega arith)

pub bit-or : (a b i : ℕ) → bit (bit_or a b) i ≡ max (bit a i) (bit b i)
unfolding bit
bit-or a b i =
    ap (λ (x : ℕ). x % 2) (or_shr a b i ∙ or_step (a / 2 ^ i) (b / 2 ^ i))
    ∙ digits_mod (bit_or (a / 2 ^ i / 2) (b / 2 ^ i / 2)) (omega arith)

-- a bit of a union is a bit of one of the two
pub union_left : (a b i : ℕ) → bit a i ≡ 1 → bit (bit_or a b) i ≡ 1
union_left a b i e = omega (arith, bit-or a b i, bit-below-two b i)

pub union_right : (a b i : ℕ) → bit b i ≡ 1 → bit (bit_or a b) i ≡ 1
union_right a b i e = omega (arith, bit-or a b i, bit-below-two a i)

pub union-cases : (a b i : ℕ) → bit (bit_or a b) i ≡ 1 → (bit a i ≡ 1) ⊎ (bit b i ≡ 1)
union-cases a b i e = go (eq-or-lt_of_le (le_of_suc-le-suc (bit-below-two a i)))
  where
    go : (bit a i ≡ 1) ⊎ (bit a i < 1) → (bit a i ≡ 1) ⊎ (bit b i ≡ 1)
    go (inl f) = inl f
    go (inr l) = inr (omega (arith, bit-or a b i))

pub bit-of-zero : (i : ℕ) → bit 0 i ≡ 0
unfolding bit
bit-of-zero i = ap (λ (x : ℕ). x % 2) (zero-div (2 ^ i)) ∙ zero-mod 2

-- one digit more at the low end
pub bit-digit-zero : (n d : ℕ) → d < 2 → bit (n * 2 + d) 0 ≡ d
bit-digit-zero n d h = bit-zero (n * 2 + d) ∙ digits_mod n h

pub bit-digit-suc : (n d i : ℕ) → d < 2 → bit (n * 2 + d) (suc i) ≡ bit n i
bit-digit-suc n d i h = bit-suc (n * 2 + d) i ∙ ap (λ (x : ℕ). bit x i) (digits_div n h)

-- a number below 2 ^ k has no bit from k on
pub bit-above : (n k i : ℕ) → n < 2 ^ k → k ≤ i → bit n i ≡ 0
unfolding bit
bit-above n k i h l = ap (λ (x : ℕ). x % 2) (div-eq_of_lt (omega (arith, pow_mono l))) ∙ zero-mod 2

-- ---- all bits

no_bits : (n : ℕ) → ((i : ℕ) → bit n i ≡ 0) → n ≡ 0
no_bits =
    bin_ind (λ (n : ℕ). ((i : ℕ) → bit n i ≡ 0) → n ≡ 0) (λ h. refl)
    (λ n rec h. let e : n / 2 ≡ 0 = rec (λ i. sym (bit-suc n i) ∙ h (suc i)) in let z : n % 2 ≡ 0 = sym (bit-zero n) ∙ h 0 in omega arith)

-- equal bits, equal numbers
pub bit-ext : (a b : ℕ) → ((i : ℕ) → bit a i ≡ bit b i) → a ≡ b
bit-ext =
    bin_ind (λ (n : ℕ). (b : ℕ) → ((i : ℕ) → bit n i ≡ bit b i) → n ≡ b)
    (λ b h. sym (no_bits b (λ i. sym (h i) ∙ bit-of-zero i)))
    (λ n rec b h.
    let e : n / 2 ≡ b / 2 = rec (b / 2) (λ i. sym (bit-suc n i) ∙ h (suc i) ∙ bit-suc b i) in
    let z : n % 2 ≡ b % 2 = sym (bit-zero n) ∙ h 0 ∙ bit-zero b in
    omega arith)

-- no bit from k on: the number is below 2 ^ k
pub bits_below : (k n : ℕ) → ((i : ℕ) → k ≤ i → bit n i ≡ 0) → n < 2 ^ k
bits_below zero n h = let e = no_bits n (λ i. h i zero-le) in omega arith
bits_below (suc k) n h = let r = bits_below k (n / 2) (λ i l. sym (bit-suc n i) ∙ h (suc i) (suc-le-suc l)) in omega (arith, pow-suc 2 k)

-- ---- sets of one

half : (i : ℕ) → 2 ^ suc i / 2 ≡ 2 ^ i
half i = omega (arith, pow-suc 2 i)

even : (i : ℕ) → 2 ^ suc i % 2 ≡ 0
even i = omega (arith, pow-suc 2 i)

pub bit-power : (i : ℕ) → bit (2 ^ i) i ≡ 1
bit-power zero = bit-zero 1
bit-power (suc i) = bit-suc (2 ^ suc i) i ∙ ap (λ (x : ℕ). bit x i) (half i) ∙ bit-power i

pub bit-power-other : (k i : ℕ) → (i ≡ k → ⊥) → bit (2 ^ k) i ≡ 0
bit-power-other zero zero h = absurd (h refl)
bit-power-other zero (suc i) h = bit-suc 1 i ∙ bit-of-zero i
bit-power-other (suc k) zero h = bit-zero (2 ^ suc k) ∙ even k
bit-power-other (suc k) (suc i) h = bit-suc (2 ^ suc k) i ∙ ap (λ (x : ℕ). bit x i) (half k) ∙ bit-power-other k i (λ e. h (ap suc e))

ones_power : (i : ℕ) → ones (2 ^ i) ≡ 1
unfolding ones
ones_power i = let e : 2 ^ i ≡ 1 * 2 ^ i + 0 = omega arith in ap ones e ∙ ones_cat i 1 0 (pow_pos i)

no_ones : (n : ℕ) → ones n ≡ 0 → n ≡ 0
no_ones =
    bin_ind (λ (n : ℕ). ones n ≡ 0 → n ≡ 0) (λ h. refl)
    (λ n rec h. let s = ones_step n in let e : n / 2 ≡ 0 = rec (omega arith) in omega arith)

one-of-zero : ones 0 ≡ 1 → ⊥
unfolding ones
one-of-zero e = omega arith

one_bit : (n : ℕ) → ones n ≡ 1 → (C : ℕ) × (n ≡ 2 ^ C)
one_bit = bin_ind (λ (n : ℕ). ones n ≡ 1 → (C : ℕ) × (n ≡ 2 ^ C)) (λ e. absurd (one-of-zero e)) (λ n rec e. go n rec e (n % 2) refl)
  where
    go : (n : ℕ) → (ones (n / 2) ≡ 1 → (C : ℕ) × (n / 2 ≡ 2 ^ C)) → ones n ≡ 1 → (d : ℕ) → n % 2 ≡ d → (C : ℕ) × (n ≡ 2 ^ C)
    go n rec e zero q = let s = ones_step n in let r = rec (omega arith) in (suc r.0, (let p = pow-suc 2 r.0 in let h = r.1 in omega arith))
    go n rec e (suc d) q = let s = ones_step n in let z = no_ones (n / 2) (omega arith) in (0, omega arith)

pub single-power : (C : ℕ) → T (single (2 ^ C))
single-power C = eq-in (2 ^ C) (2 ^ entity (2 ^ C)) (ap (λ (x : ℕ). 2 ^ x) (sym (entity-power C)))

-- `count_ones(X) == 1`
pub ones-single : (X : ℕ) → eqb (ones X) 1 ≡ single X
ones-single X =
    same_test (eqb (ones X) 1) (single X)
    (λ t. let r = one_bit X (eqb→eq _ _ t) in subst⁻¹ (λ (x : ℕ). T (single x)) r.1 (single-power r.0))
    (λ t. eq-in (ones X) 1 (ap ones (eqb→eq X (2 ^ entity X) t) ∙ ones_power (entity X)))

trailing-power : (k C : ℕ) → C < k → count_trailing_zeros k (2 ^ C) ≡ C
unfolding count_trailing_zeros
trailing-power zero C h = absurd (not-suc-le-zero h)
trailing-power (suc k) zero h = refl
trailing-power (suc k) (suc C) h =
    ap₂ (λ (x y : ℕ). under x (count_trailing_zeros k y)) (even C) (half C) ∙ ap suc (trailing-power k C (le_of_suc-le-suc h))

pub power_below : (k C : ℕ) → 2 ^ C < 2 ^ k → C < k
power_below k C h = lt_of_not-le (λ l. omega (arith, pow_mono l))

-- `trailing_zeros(X)`
pub trailing-entity : (X : ℕ) → X < 2 ^ 32 → T (single X) → count_trailing_zeros 32 X ≡ entity X
trailing-entity X h t =
    let e = eqb→eq X (2 ^ entity X) t in
    ap (count_trailing_zeros 32) e ∙ trailing-power 32 (entity X) (power_below 32 (entity X) (subst (λ (x : ℕ). x < 2 ^ 32) e h))

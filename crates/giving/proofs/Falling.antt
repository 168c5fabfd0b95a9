-- Bits of an exclusive or; numbers that grow by bits; and what is left to do falls when an entry gives.
use mathlib.Core.Path.{◌≡◌, refl, sym, ap, ◌∙◌}
use mathlib.Core.Logic.{◌⊎◌, inl, inr}
use mathlib.Core.List.{List}
use Prim.Native.Nat.{ℕ, zero, suc, ◌-◌, ◌/◌, ◌%◌, ◌^◌, ◌≤◌, ◌<◌, zero-le}
use native.Mathlib.Nat.{not-suc-le-zero}
use native.Mathlib.Omega.{arith}
use borrow.Author.Tests.{le-leb, lt-leb}
use lib.Arith.{bin_ind, digits_mod}
use lib.Bits.{bit_xor, differ, xor_step, xor_shr}
use lib.ListN.{length, get_or, set}
use lib.Seq.{get_or-set_same, get_or-set_other}
use Rattle.meaning.specs.Table.{bit}
use Rattle.meaning.proofs.Bits.{bit-zero, bit-suc, bit-below-two}
use Rattle.store.specs.Entries.{Grown}
use Rattle.store.proofs.Chains.{equal_or_not}
use Rattle.heads.proofs.Gaining.{below_or_not}
use Rattle.giving.specs.Giving.{left, sum, lefts}

-- ---- bits

differ-below : (x y : ℕ) → x < 2 → y < 2 → differ x y < 2
differ-below zero y h k = k
differ-below (suc x) zero h k = h
differ-below (suc x) (suc y) h k = differ-below x y (omega arith) (omega arith)

pub bit-xor : (a b i : ℕ) → bit (bit_xor a b) i ≡ differ (bit a i) (bit b i)
unfolding bit
bit-xor a b i =
    ap (λ (x : ℕ). x % 2) (xor_shr a b i ∙ xor_step (a / 2 ^ i) (b / 2 ^ i))
    ∙ digits_mod (bit_xor (a / 2 ^ i / 2) (b / 2 ^ i / 2)) (differ-below (a / 2 ^ i % 2) (b / 2 ^ i % 2) (omega arith) (omega arith))

bit-cases : (n i : ℕ) → (bit n i ≡ 0) ⊎ (bit n i ≡ 1)
bit-cases n i = go (bit n i) refl
  where
    go : (x : ℕ) → bit n i ≡ x → (bit n i ≡ 0) ⊎ (bit n i ≡ 1)
    go zero e = inl e
    go (suc x) e = inr (omega (arith, bit-below-two n i))

-- a bit of a is one of b, or one in which they differ
pub xor-or : (a b s : ℕ) → bit a s ≡ 1 → (bit b s ≡ 1) ⊎ (bit (bit_xor a b) s ≡ 1)
xor-or a b s e = go (bit-cases b s)
  where
    go : (bit b s ≡ 0) ⊎ (bit b s ≡ 1) → (bit b s ≡ 1) ⊎ (bit (bit_xor a b) s ≡ 1)
    go (inl f) = inr (bit-xor a b s ∙ rw (e, f))
    go (inr f) = inl f

-- where b is within a, they differ in bits of a
pub xor-within : (a b s : ℕ) → (bit b s ≡ 1 → bit a s ≡ 1) → bit (bit_xor a b) s ≡ 1 → bit a s ≡ 1
xor-within a b s h e = go (bit-cases a s)
  where
    go : (bit a s ≡ 0) ⊎ (bit a s ≡ 1) → bit a s ≡ 1
    go (inl f) = h (sym (rw f at (bit-xor a b s)) ∙ e)
    go (inr f) = f

pub bits-le : (a b : ℕ) → ((s : ℕ) → bit a s ≡ 1 → bit b s ≡ 1) → a ≤ b
bits-le =
    bin_ind (λ (a : ℕ). (b : ℕ) → ((s : ℕ) → bit a s ≡ 1 → bit b s ≡ 1) → a ≤ b) (λ b h. zero-le)
    (λ a rec b h.
    let l : a / 2 ≤ b / 2 = rec (b / 2) (λ s e. sym (bit-suc b s) ∙ h (suc s) (bit-suc a s ∙ e)) in
    let p : a % 2 ≤ b % 2 = low a b (h 0) (bit-cases a 0) in
    omega arith)
  where
    low : (a b : ℕ) → (bit a 0 ≡ 1 → bit b 0 ≡ 1) → (bit a 0 ≡ 0) ⊎ (bit a 0 ≡ 1) → a % 2 ≤ b % 2
    low a b h (inl e) = omega (arith, bit-zero a)
    low a b h (inr e) = omega (arith, bit-zero a, bit-zero b, h e)

-- ---- sums

sum-le : (f g : ℕ → ℕ) (n : ℕ) → ((i : ℕ) → i < n → f i ≤ g i) → sum f n ≤ sum g n
sum-le f g zero h = zero-le
sum-le f g (suc n) h = let a = sum-le f g n (λ i l. h i (omega arith)) in omega (arith, h n (omega arith))

sum_lt : (f g : ℕ → ℕ) (n i : ℕ) → ((j : ℕ) → j < n → f j ≤ g j) → i < n → f i < g i → sum f n < sum g n
sum_lt f g zero i h l k = absurd (not-suc-le-zero l)
sum_lt f g (suc n) i h l k = go (equal_or_not i n) (λ m. sum_lt f g n i below m k)
  where
    below : (j : ℕ) → j < n → f j ≤ g j
    below j m = h j (omega arith)

    go : (i ≡ n) ⊎ (i ≡ n → ⊥) → (i < n → sum f n < sum g n) → sum f (suc n) < sum g (suc n)
    go (inl e) rec = let a = sum-le f g n below in let p = rw e at k in omega arith
    go (inr ne) rec = let a = rec (omega arith) in omega (arith, h n (omega arith))

-- ---- what is left

module _ (m x : ℕ) where
  left-within : x ≤ m → left m x ≡ 18446744073709551616 - x
  unfolding left
  left-within l = simp (le-leb x m l)

  left_other : m < x → left m x ≡ 36893488147419103232
  unfolding left
  left_other l = simp (lt-leb x m l)

left-zero : (m m' : ℕ) → left m' 0 ≡ left m 0
left-zero m m' = left-within m' 0 zero-le ∙ sym (left-within m 0 zero-le)

-- more spans leave no more
left-more : (m m' x : ℕ) → m ≤ m' → left m' x ≤ left m x
left-more m m' x l = go (below_or_not m x) (below_or_not m' x)
  where
    go : (m < x) ⊎ (x ≤ m) → (m' < x) ⊎ (x ≤ m') → left m' x ≤ left m x
    go (inl a) (inl b) = omega (arith, left_other m x a, left_other m' x b)
    go (inl a) (inr b) = omega (arith, left_other m x a, left-within m' x b)
    go (inr a) b = omega (arith, left-within m x a, left-within m' x (omega arith))

left-given : (m m' x : ℕ) → (x ≡ m → ⊥) → m ≤ m' → m < 18446744073709551616 → left m' m < left m x
left-given m m' x ne l k = go (below_or_not m x)
  where
    go : (m < x) ⊎ (x ≤ m) → left m' m < left m x
    go (inl a) = omega (arith, left_other m x a, left-within m' m l)
    go (inr a) = omega (arith, left-within m x a, left-within m' m l)

-- entry i gave: its spans are done, and no entry has lost any
module _ {keys spans keys' spans' : List ℕ} {n r : ℕ} (g : Grown keys spans n keys' spans' r) (done : List ℕ) (fresh : (j : ℕ) → n ≤ j → get_or done j 0 ≡ 0) (i limit : ℕ) (low : i < n) (few : n ≤ limit) (room : i < length done) (other : get_or done i 0 ≡ get_or spans i 0 → ⊥) (small : get_or spans i 0 < 18446744073709551616) where
  more : (j : ℕ) → j < n → get_or spans j 0 ≤ get_or spans' j 0
  more j l = bits-le (get_or spans j 0) (get_or spans' j 0) (λ s. g.kept j s l)

  set_here : get_or (set done i (get_or spans i 0)) i 0 ≡ get_or spans i 0
  set_here = get_or-set_same done i (get_or spans i 0) 0 room

  here : left (get_or spans' i 0) (get_or (set done i (get_or spans i 0)) i 0) < left (get_or spans i 0) (get_or done i 0)
  here = rw set_here (left-given (get_or spans i 0) (get_or spans' i 0) (get_or done i 0) other (more i low) small)

  each : (j : ℕ) → left (get_or spans' j 0) (get_or (set done i (get_or spans i 0)) j 0) ≤ left (get_or spans j 0) (get_or done j 0)
  each j = go (equal_or_not j i) (below_or_not j n)
    where
      go : (j ≡ i) ⊎ (j ≡ i → ⊥) → (j < n) ⊎ (n ≤ j) → left (get_or spans' j 0) (get_or (set done i (get_or spans i 0)) j 0) ≤ left (get_or spans j 0) (get_or done j 0)
      go (inl e) w = rw e (let h = here in omega arith)
      go (inr ne) (inl l) = rw (get_or-set_other done i j (get_or spans i 0) 0 ne) (left-more (get_or spans j 0) (get_or spans' j 0) (get_or done j 0) (more j l))
      go (inr ne) (inr l) = rw (get_or-set_other done i j (get_or spans i 0) 0 ne, fresh j l) (let e = left-zero (get_or spans j 0) (get_or spans' j 0) in omega arith)

  pub lefts-fall : lefts spans' (set done i (get_or spans i 0)) limit < lefts spans done limit
  unfolding lefts
  lefts-fall = sum_lt (λ j. left (get_or spans' j 0) (get_or (set done i (get_or spans i 0)) j 0)) (λ j. left (get_or spans j 0) (get_or done j 0)) limit i (λ j l. each j) (omega arith) here

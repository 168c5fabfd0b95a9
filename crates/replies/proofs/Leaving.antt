-- What a call leaves in a list, as bytes.
use mathlib.Core.Path.{◌≡◌, refl, sym, ap, ap₂, ◌∙◌, subst⁻¹}
use mathlib.Core.Bool.{Bool, true, false}
use mathlib.Core.List.{List, ◌++◌, append-nil}
use Prim.Native.Nat.{ℕ, ◌*◌, ◌≤◌}
use native.Mathlib.Nat.{mul-zero}
use native.Mathlib.Omega.{arith}
use lib.Dec.{T}
use lib.ListN.{length, take, drop, replicate}
use lib.Seq.{take-length, drop-length, length-take-le, length_front, take_at}
use Rattle.meaning.specs.Lists.{if}
use Rattle.file.specs.Refusals.{Outcome, done, refused, left, writes}
use Rattle.codec.specs.Bytes.{bytes_of}
use Rattle.codec.proofs.Entries.{bytes_of-zeros}

-- entries that were written or cleared, as bytes
pub left-written : {A : Type 0} (k : ℕ) (o : Outcome A) (before list written : List ℕ) → writes o ≡ true → length before ≡ k * length list
    → bytes_of k (left o list written) ≡ left o before (bytes_of k written)
left-written k (done a) before list written w e = refl
left-written k (refused n p) before list written w e = rw w (bytes_of-zeros k (length list) ∙ ap (λ (m : ℕ). replicate m 0) (sym e))

-- bytes that were not touched
pub left-kept : {A : Type 0} (o : Outcome A) (before written : List ℕ) → writes o ≡ false → left o before written ≡ before
left-kept (done a) before written w = absurd (subst⁻¹ T (sym w) tt)
left-kept (refused n p) before written w = rw w refl

-- n entries written over bytes of n entries
pub all-bytes : (k n : ℕ) (xs before : List ℕ) → length xs ≡ n → length before ≡ k * n → bytes_of k (take n xs) ++ drop (k * n) before ≡ bytes_of k xs
all-bytes k n xs before e size =
    ap₂ (λ (i j : ℕ). bytes_of k (take i xs) ++ drop j before) (sym e) (sym size)
    ∙ ap₂ (λ (x y : List ℕ). bytes_of k x ++ y) (take-length xs) (drop-length before) ∙ append-nil (bytes_of k xs)

-- the first n places of a list of 1,024, lent to a call and come back as u
module _ (n : ℕ) (room : List ℕ) (long : length room ≡ 1024) (few : n ≤ 1024) where
  pub room-part : length (take n room) ≡ n
  room-part = length-take-le n room (omega arith)

  module _ (u : List ℕ) (same : length u ≡ length (take n room)) where
    pub room_back : length (u ++ drop n room) ≡ 1024
    room_back = length_front room u n same ∙ long

    -- all n entries or none of them, as k bytes each
    module _ {A : Type 0} (k : ℕ) (o : Outcome A) {m : ℕ} (count : m ≡ if (writes o) n 0) (before : List ℕ) (size : length before ≡ k * n) where
      pub count_fits : (m ≤ length (u ++ drop n room)) × (k * m ≤ length before)
      count_fits = subst⁻¹ (λ (i : ℕ). (i ≤ length (u ++ drop n room)) × (k * i ≤ length before)) count (go (writes o))
        where
          go : (w : Bool) → (if w n 0 ≤ length (u ++ drop n room)) × (k * if w n 0 ≤ length before)
          go true = (omega (arith, room_back), omega arith)
          go false = (omega arith, omega (arith, mul-zero k))

      pub left-bytes : (written : List ℕ) → u ≡ left o (take n room) written → bytes_of k (take m (u ++ drop n room)) ++ drop (k * m) before ≡ left o before (bytes_of k written)
      left-bytes written e = ap (λ (i : ℕ). bytes_of k (take i (u ++ drop n room)) ++ drop (k * i) before) count ∙ go (writes o) refl
        where
          go : (w : Bool) → writes o ≡ w → bytes_of k (take (if w n 0) (u ++ drop n room)) ++ drop (k * if w n 0) before ≡ left o before (bytes_of k written)
          go true w =
              ap (λ (x : List ℕ). bytes_of k x ++ drop (k * n) before) (take_at u (drop n room) n (same ∙ room-part))
              ∙ ap (λ (i : ℕ). bytes_of k u ++ drop i before) (sym size) ∙ ap (λ (x : List ℕ). bytes_of k u ++ x) (drop-length before) ∙ append-nil (bytes_of k u)
              ∙ ap (bytes_of k) e ∙ left-written k o before (take n room) written w (size ∙ ap (λ (i : ℕ). k * i) (sym room-part))
          go false w = ap (λ (i : ℕ). drop i before) (mul-zero k) ∙ sym (left-kept o before (bytes_of k written) w)

-- Entries read back from bytes, and what a refusal's number says of a reply.
use mathlib.Core.Path.{◌≡◌, refl, sym, ap, ◌∙◌}
use mathlib.Core.Bool.{Bool, true, false, ◌||◌, not}
use mathlib.Core.List.Memᴰ.{head}
use mathlib.Core.List.Memᴰ.{tail}
use mathlib.Core.List.{List, [], ◌∷◌, Memᴰ as Mem}
use Prim.Native.Nat.{ℕ, zero, suc, ◌+◌, ◌*◌, ◌/◌, ◌^◌, ◌<◌}
use native.Mathlib.Omega.{arith}
use lib.Dec.{T, eqb, T_not}
use lib.ListN.{length, get_or, replicate, length-replicate}
use Rattle.meaning.specs.Lists.{if}
use Rattle.meaning.proofs.Tests.{and_left, and_right, eq-in}
use Rattle.file.specs.Refusals.{RefusalRow, Outcome, done, refused, first, left}
use Rattle.file.proofs.First.{numbered}
use Rattle.codec.specs.Bytes.{entry, bytes_of, first_entries, entries}
use Rattle.codec.proofs.Entries.{length-bytes_of, first-bytes_of, bytes_of-zeros}
use Rattle.replies.specs.Interface.{word}

-- ---- bytes and entries

-- entries of k bytes
module _ (k : ℕ) (whole : (n : ℕ) → k * n / k ≡ n) (some : 0 < 256 ^ k) where
  pub entries-bytes_of : (xs : List ℕ) → ((x : ℕ) → Mem x xs → x < 256 ^ k) → entries k (bytes_of k xs) ≡ xs
  entries-bytes_of xs h =
      ap (λ (n : ℕ). first_entries k n (bytes_of k xs)) (ap (λ (n : ℕ). n / k) (length-bytes_of k xs) ∙ whole (length xs)) ∙ first-bytes_of k xs h

  zeros-low : (n x : ℕ) → Mem x (replicate n 0) → x < 256 ^ k
  zeros-low zero x m = elim m [ ]
  zeros-low (suc n) x (head e) = omega (arith, some)
  zeros-low (suc n) x (tail m) = zeros-low n x m

  -- what a call leaves in bytes, read as entries, is what it leaves in entries
  module _ {A : Type 0} (n : ℕ) (before written : List ℕ) (long : length before ≡ k * n) (same : length (entries k before) ≡ n) where
    pub entries-left : (o : Outcome A) → ((a : A) → o ≡ done a → (x : ℕ) → Mem x written → x < 256 ^ k)
        → entries k (left o before (bytes_of k written)) ≡ left o (entries k before) written
    entries-left (done a) h = entries-bytes_of written (h a refl)
    entries-left (refused i p) h = go (eqb i 10 || eqb i 13)
      where
        go : (c : Bool) → entries k (if c (replicate (length before) 0) before) ≡ if c (replicate (length (entries k before)) 0) (entries k before)
        go true =
            ap (λ (m : ℕ). entries k (replicate m 0)) long ∙ ap (entries k) (sym (bytes_of-zeros k n)) ∙ entries-bytes_of (replicate n 0) (zeros-low n)
            ∙ ap (λ (m : ℕ). replicate m 0) (sym same)
        go false = refl

-- the list keeps its length
pub left-length : {A : Type 0} (o : Outcome A) (before written : List ℕ) → ((a : A) → o ≡ done a → length written ≡ length before)
    → length (left o before written) ≡ length before
left-length (done a) before written h = h a refl
left-length (refused i p) before written h = go (eqb i 10 || eqb i 13)
  where
    go : (c : Bool) → length (if c (replicate (length before) 0) before) ≡ length before
    go true = length-replicate (length before) 0
    go false = refl

-- the bytes of an entry determine it
entry-none : (k : ℕ) → entry k [] ≡ 0
entry-none zero = refl
entry-none (suc k) = refl

pub entry-same : (k : ℕ) (xs ys : List ℕ) → ((i : ℕ) → i < k → get_or xs i 0 ≡ get_or ys i 0) → entry k xs ≡ entry k ys
entry-same zero xs ys h = refl
entry-same (suc k) [] [] h = refl
entry-same (suc k) [] (y ∷ ys) h =
    let e = entry-same k [] ys (λ i l. h (suc i) (omega arith)) in
    let a : 0 ≡ y = h 0 (omega arith) in
    omega (arith, entry-none k)
entry-same (suc k) (x ∷ xs) [] h =
    let e = entry-same k xs [] (λ i l. h (suc i) (omega arith)) in
    let a : x ≡ 0 = h 0 (omega arith) in
    omega (arith, entry-none k)
entry-same (suc k) (x ∷ xs) (y ∷ ys) h =
    let e = entry-same k xs ys (λ i l. h (suc i) (omega arith)) in
    let a : x ≡ y = h 0 (omega arith) in
    omega arith

-- ---- a reply below every refusal's is a value

pub word-done : {A : Type 0} (value : A → ℕ) (rows : List RefusalRow) (a : A) → T (numbered rows) → word value (first rows a) < 4294967296 → first rows a ≡ done a
word-done value [] a t l = refl
word-done {A} value (x ∷ rows) a t l =
    go x.holds l (word-done value rows a (and_right (not (eqb x.number 0)) (numbered rows) t))
  where
    some : x.number ≡ 0 → ⊥
    some e = T_not (eqb x.number 0) (and_left (not (eqb x.number 0)) (numbered rows) t) (eq-in x.number 0 e)

    large : x.number * 4294967296 + x.place < 4294967296 → x.number ≡ 0
    large h = omega arith

    go : (h : Bool) → word {A = A} value (elim h [ true ↦ refused x.number x.place | false ↦ first rows a ]) < 4294967296
        → (word value (first rows a) < 4294967296 → first rows a ≡ done a)
        → ◌≡◌ {A = Outcome A} (elim h [ true ↦ refused x.number x.place | false ↦ first rows a ]) (done a)
    go true l f = absurd (some (large l))
    go false l f = f l

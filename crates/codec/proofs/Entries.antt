-- Laws of entries and their bytes, for every width k.
use mathlib.Core.Path.{◌≡◌, refl, sym, ap, ap₂, ◌∙◌}
use mathlib.Core.List.Memᴰ.{head}
use mathlib.Core.List.Memᴰ.{tail}
use mathlib.Core.List.{List, [], ◌∷◌, ◌++◌, append_assoc, append-nil, Memᴰ as Mem}
use Prim.Native.Nat.{ℕ, zero, suc, ◌+◌, ◌-◌, ◌*◌, ◌/◌, ◌%◌, ◌^◌, ◌≤◌, ◌<◌}
use native.Mathlib.Nat.{mul-suc, mul-zero, pow-zero, pow-suc, pow-le-pow_right, div-lt_iff_lt-mul}
use native.Mathlib.Numerals.{add-one}
use native.Mathlib.Omega.{arith}
use lib.ListN.{length, take, drop, get_or, set, replicate, length-append, length-set, replicate-append-replicate}
use lib.Seq.{drop-cons, take_at, drop_at, take-suc, drop-append-add, drop-drop, length-take-le, set_at, append_snoc, take-suc-set, take_all}
use borrow.Rule.Slice.PartMut.{mid_of, put_mid, Post-is, mid_len, same_len_mid}
use Rattle.codec.specs.Bytes.{bytes, entry, bytes_of, first_entries, entries}

-- ---- lengths

pub length-bytes : (k x : ℕ) → length (bytes k x) ≡ k
length-bytes zero x = refl
length-bytes (suc k) x = ap suc (length-bytes k (x / 256))

pub length-bytes_of : (k : ℕ) (xs : List ℕ) → length (bytes_of k xs) ≡ k * length xs
length-bytes_of k [] = sym (mul-zero k)
length-bytes_of k (x ∷ xs) =
    length-append (bytes k x) (bytes_of k xs) ∙ ap₂ (λ (m n : ℕ). m + n) (length-bytes k x) (length-bytes_of k xs)
    ∙ omega (arith, mul-suc k (length xs))

pub length-first : (k n : ℕ) (bs : List ℕ) → length (first_entries k n bs) ≡ n
length-first k zero bs = refl
length-first k (suc n) bs = ap suc (length-first k n (drop k bs))

pub length-entries : (k : ℕ) (bs : List ℕ) → length (entries k bs) ≡ length bs / k
length-entries k bs = length-first k (length bs / k) bs

-- ---- one entry

-- an entry reads no byte past its own
pub entry-take : (k : ℕ) (bs : List ℕ) → entry k (take k bs) ≡ entry k bs
entry-take zero bs = refl
entry-take (suc k) [] = refl
entry-take (suc k) (b ∷ bs) = ap (λ (x : ℕ). b + 256 * x) (entry-take k bs)

-- the bytes of a number of k bytes are read back as that number
pub entry-bytes : (k x : ℕ) (rest : List ℕ) → x < 256 ^ k → entry k (bytes k x ++ rest) ≡ x
entry-bytes zero x rest h = omega (arith, pow-zero 256)
entry-bytes (suc k) x rest h =
    let low : x / 256 < 256 ^ k = (div-lt_iff_lt-mul {k = 256} {x = x} {y = 256 ^ k} (omega arith)).1 (omega (arith, pow-suc 256 k)) in
    ap (λ (y : ℕ). x % 256 + 256 * y) (entry-bytes k (x / 256) rest low) ∙ omega arith

-- ---- reading an entry from its last byte, and writing it from its first

-- the number is the entry that the bytes from i on are
pub record Read (bs : List ℕ) (i number : ℕ) : Type 0 where
  pub within : i ≤ length bs
  pub same : number ≡ entry (length bs - i) (drop i bs)
  pub below : number < 256 ^ (length bs - i)

pub read_none : (bs : List ℕ) → Read bs (length bs) 0
read_none bs =
    let e : length bs - length bs ≡ 0 = omega arith in
    record { within = omega arith; same = rw e refl; below = rw e (omega arith) }

-- the byte before makes it one byte more
pub read_more : (bs : List ℕ) (i number : ℕ) → Read bs i number → 0 < i → {b : ℕ} → b ≡ get_or bs (i - 1) 0 → b < 256 → Read bs (i - 1) (b + 256 * number)
read_more bs i number r some {b} e l =
    let s : suc (i - 1) ≡ i = omega arith in
    let longer : length bs - (i - 1) ≡ suc (length bs - i) = omega (arith, r.within) in
    record {
      within = omega (arith, r.within);
      same = rw (longer, drop-cons bs (i - 1) 0 (omega (arith, r.within)), s) (ap₂ (λ (x y : ℕ). x + 256 * y) e r.same);
      below = rw (longer, pow-suc 256 (length bs - i)) (omega (arith, r.below));
    }

pub read_all : (bs : List ℕ) (i number : ℕ) → Read bs i number → i ≤ 0 → (number ≡ entry (length bs) bs) × (number < 256 ^ length bs)
read_all bs i number r h =
    let e : i ≡ 0 = omega arith in
    let n : length bs - i ≡ length bs = omega arith in
    (r.same ∙ ap₂ (λ (k j : ℕ). entry k (drop j bs)) n e, rw n at r.below)

-- at most 8 bytes fit 64 bits
pub eight-fit : (bs : List ℕ) (i number : ℕ) → Read bs i number → length bs ≤ 8 → number < 2 ^ 64
eight-fit bs i number r h =
    let few : length bs - i ≤ 8 = omega arith in
    omega (arith, r.below, pow-le-pow_right {n = 256} (omega arith) few)

-- with i bytes of n written, the next makes it one more
pub put-more : (n i y : ℕ) (l b : List ℕ) → i < n → length l ≡ n → take i l ++ bytes (n - i) y ≡ b → take (i + 1) (set l i (y % 256)) ++ bytes (n - (i + 1)) (y / 256) ≡ b
put-more n i y l b h s e =
    let m : n - i ≡ suc (n - suc i) = omega arith in
    rw (add-one, take-suc-set l i (y % 256) (omega arith)) (append_snoc (take i l) (y % 256) (bytes (n - suc i) (y / 256)) ∙ (rw m at e))

pub put_all : (n i y : ℕ) (l b : List ℕ) → n ≤ i → length l ≡ n → take i l ++ bytes (n - i) y ≡ b → l ≡ b
put_all n i y l b h s e =
    let m : n - i ≡ 0 = omega arith in
    let t : take i l ≡ l = take_all i l (omega arith) in
    sym (append-nil l) ∙ (rw (t, m) at e)

-- ---- lists of entries

pub bytes_of-append : (k : ℕ) (xs ys : List ℕ) → bytes_of k (xs ++ ys) ≡ bytes_of k xs ++ bytes_of k ys
bytes_of-append k [] ys = refl
bytes_of-append k (x ∷ xs) ys =
    ap (λ (l : List ℕ). bytes k x ++ l) (bytes_of-append k xs ys) ∙ sym (append_assoc (bytes k x) (bytes_of k xs) (bytes_of k ys))

-- the bytes of numbers of k bytes are read back as those numbers
pub first-bytes_of : (k : ℕ) (xs : List ℕ) → ((x : ℕ) → Mem x xs → x < 256 ^ k) → first_entries k (length xs) (bytes_of k xs) ≡ xs
first-bytes_of k [] h = refl
first-bytes_of k (x ∷ xs) h =
    ap₂ (λ (y : ℕ) (ys : List ℕ). y ∷ ys) (entry-bytes k x (bytes_of k xs) (h x (head refl)))
    (ap (λ (bs : List ℕ). first_entries k (length xs) bs) (drop_at (bytes k x) (bytes_of k xs) k (length-bytes k x)) ∙ first-bytes_of k xs (λ y m. h y (tail m)))

-- entries of zero are bytes of zero
bytes-zero : (k : ℕ) → bytes k 0 ≡ replicate k 0
bytes-zero zero = refl
bytes-zero (suc k) = ap (λ (l : List ℕ). 0 ∷ l) (bytes-zero k)

pub bytes_of-zeros : (k n : ℕ) → bytes_of k (replicate n 0) ≡ replicate (k * n) 0
bytes_of-zeros k zero = ap (λ (m : ℕ). replicate m 0) (sym (mul-zero k))
bytes_of-zeros k (suc n) =
    let size : k + k * n ≡ k * suc n = omega (arith, mul-suc k n) in
    ap₂ (λ (a b : List ℕ). a ++ b) (bytes-zero k) (bytes_of-zeros k n) ∙ replicate-append-replicate k (k * n) 0
    ∙ ap (λ (m : ℕ). replicate m 0) size

-- the entry at j
pub get_d-first : (k n : ℕ) (bs : List ℕ) (j : ℕ) → j < n → get_or (first_entries k n bs) j 0 ≡ entry k (drop (k * j) bs)
get_d-first k zero bs j h = elim h [ ]
get_d-first k (suc n) bs zero h = ap (λ (m : ℕ). entry k (drop m bs)) (sym (mul-zero k))
get_d-first k (suc n) bs (suc j) h =
    let m : k + k * j ≡ k * suc j = omega (arith, mul-suc k j) in
    get_d-first k n (drop k bs) j (omega arith) ∙ ap (entry k) (drop-drop (k * j) k bs ∙ ap (λ (x : ℕ). drop x bs) m)

-- one entry more
first-suc : (k i : ℕ) (bs : List ℕ) → first_entries k (suc i) bs ≡ first_entries k i bs ++ (entry k (drop (k * i) bs) ∷ [])
first-suc k zero bs = ap (λ (m : ℕ). entry k (drop m bs) ∷ []) (sym (mul-zero k))
first-suc k (suc i) bs =
    let m : k + k * i ≡ k * suc i = omega (arith, mul-suc k i) in
    ap (λ (l : List ℕ). entry k bs ∷ l)
    (first-suc k i (drop k bs) ∙ ap (λ (x : List ℕ). first_entries k i (drop k bs) ++ (entry k x ∷ [])) (drop-drop (k * i) k bs ∙ ap (λ (x : ℕ). drop x bs) m))

-- ---- the loops: with i entries read or written, the next makes it one more

module _ (k i : ℕ) where
  next : k * i + k ≡ k * (i + 1)
  next = omega (arith, mul-suc k i, ap (λ (n : ℕ). k * n) (add-one i))

  size : k * i + k - k * i ≡ k
  size = omega arith

  -- entry i as a part of the bytes
  abbrev part : List ℕ → List ℕ
  part bs = mid_of (k * i) (k * i + k - k * i) bs

  pub part_length : (bs : List ℕ) → k * i + k ≤ length bs → length (part bs) ≡ k
  part_length bs h = mid_len (k * i) (k * i + k) bs h ∙ size

  part-entry : (bs : List ℕ) → k * i + k ≤ length bs → entry (length (part bs)) (part bs) ≡ entry k (drop (k * i) bs)
  part-entry bs h = ap₂ (λ (j n : ℕ). entry j (take n (drop (k * i) bs))) (part_length bs h) size ∙ entry-take k (drop (k * i) bs)

-- i of n entries of the bytes in the list d
pub record Decoded (k n : ℕ) (bs d : List ℕ) (i : ℕ) (l : List ℕ) : Type 0 where
  pub within : i ≤ n
  pub long : length l ≡ length d
  pub same : l ≡ first_entries k i bs ++ drop i d

module _ (k n : ℕ) (bs d : List ℕ) where
  pub decode-more : (i : ℕ) {l : List ℕ} → Decoded k n bs d i l → i < n → n ≤ length d → k * i + k ≤ length bs → {x : ℕ} → x ≡ entry (length (part k i bs)) (part k i bs) → Decoded k n bs d (i + 1) (set l i x)
  decode-more i {l} r low room h {x} v =
      let e : set l i x ≡ first_entries k (i + 1) bs ++ drop (i + 1) d =
      ap₂ (λ (y : List ℕ) (z : ℕ). set y i z) (r.same ∙ ap (λ (y : List ℕ). first_entries k i bs ++ y) (drop-cons d i 0 (omega arith))) (v ∙ part-entry k i bs h)
      ∙ set_at (first_entries k i bs) (get_or d i 0) (drop (suc i) d) (entry k (drop (k * i) bs)) i (length-first k i bs)
      ∙ sym (append_snoc (first_entries k i bs) (entry k (drop (k * i) bs)) (drop (suc i) d))
      ∙ ap₂ (λ (y : List ℕ) (m : ℕ). y ++ drop m d) (sym (first-suc k i bs) ∙ ap (λ (m : ℕ). first_entries k m bs) (sym (add-one i))) (sym (add-one i)) in
      record { within = omega arith; long = length-set l i x ∙ r.long; same = e }

-- the bytes of i of n entries of s in the list d
pub record Encoded (k n : ℕ) (s d : List ℕ) (i : ℕ) (l : List ℕ) : Type 0 where
  pub within : i ≤ n
  pub long : length l ≡ length d
  pub same : l ≡ bytes_of k (take i s) ++ drop (k * i) d

module _ (k n : ℕ) (s d : List ℕ) where
  pub encode-more : (i : ℕ) {l : List ℕ} → Encoded k n s d i l → i < n → n ≤ length s → k * i + k ≤ length d → {t : List ℕ} → length t ≡ length (part k i l) → t ≡ bytes (length (part k i l)) (get_or s i 0) → Encoded k n s d (i + 1) (put_mid (k * i) (k * i + k - k * i) l t)
  encode-more i {l} r low few h {t} z v =
      let p = bytes_of k (take i s) in
      let q : length p ≡ k * i = length-bytes_of k (take i s) ∙ ap (λ (x : ℕ). k * x) (length-take-le i s (omega arith)) in
      let w : t ≡ bytes k (get_or s i 0) = v ∙ ap (λ (m : ℕ). bytes m (get_or s i 0)) (part_length k i l (omega (arith, r.long))) in
      let before : take (k * i) l ≡ p = ap (take (k * i)) r.same ∙ take_at p (drop (k * i) d) (k * i) q in
      let after : drop (k * i + k) l ≡ drop (k * (i + 1)) d =
      ap (drop (k * i + k)) r.same ∙ ap (λ (x : ℕ). drop (x + k) (p ++ drop (k * i) d)) (sym q) ∙ drop-append-add p (drop (k * i) d) k
      ∙ drop-drop k (k * i) d ∙ ap (λ (x : ℕ). drop x d) (next k i) in
      let more : p ++ bytes k (get_or s i 0) ≡ bytes_of k (take (i + 1) s) =
      ap (λ (y : List ℕ). p ++ y) (sym (append-nil (bytes k (get_or s i 0)))) ∙ sym (bytes_of-append k (take i s) (get_or s i 0 ∷ []))
      ∙ ap (bytes_of k) (sym (take-suc s i 0 (omega arith)) ∙ ap (λ (x : ℕ). take x s) (sym (add-one i))) in
      let e : put_mid (k * i) (k * i + k - k * i) l t ≡ bytes_of k (take (i + 1) s) ++ drop (k * (i + 1)) d =
      ap₂ (λ (x y : List ℕ). x ++ (t ++ y)) before (Post-is (k * i) (k * i + k) l (omega arith) ∙ after)
      ∙ ap (λ (x : List ℕ). p ++ (x ++ drop (k * (i + 1)) d)) w
      ∙ sym (append_assoc p (bytes k (get_or s i 0)) (drop (k * (i + 1)) d)) ∙ ap (λ (x : List ℕ). x ++ drop (k * (i + 1)) d) more in
      record { within = omega arith; long = same_len_mid (k * i) (k * i + k - k * i) l t z ∙ r.long; same = e }

  pub encode-all : (i : ℕ) {l : List ℕ} → Encoded k n s d i l → n ≤ i → l ≡ bytes_of k (take n s) ++ drop (k * n) d
  encode-all i r h = let e : i ≡ n = omega (arith, r.within) in r.same ∙ ap (λ (m : ℕ). bytes_of k (take m s) ++ drop (k * m) d) e

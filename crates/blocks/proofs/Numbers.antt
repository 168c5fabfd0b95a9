-- A number of four bytes: as an entry, and from the bytes that are written for it.
use mathlib.Core.Path.{◌≡◌, refl, sym, ap, ap₂, ◌∙◌}
use mathlib.Core.List.{List, [], ◌∷◌}
use Prim.Native.Nat.{ℕ, zero, suc, ◌+◌, ◌-◌, ◌*◌, ◌/◌, ◌%◌, ◌≤◌, ◌<◌}
use native.Mathlib.Omega.{arith}
use lib.ListN.{length, take, drop, get_or}
use lib.Seq.{get_or-drop, ext_get_or, get_or-take}
use borrow.Rule.Slice.PartMut.{mid_of, mid_len}
use Rattle.file.specs.Format.{byte, four}
use Rattle.codec.specs.Bytes.{bytes, entry}
use Rattle.codec.proofs.Entries.{entry-take}

-- the first four bytes
entry-start : (bs : List ℕ) → entry 4 bs ≡ four bs 0
entry-start [] = refl
entry-start (a ∷ []) = omega arith
entry-start (a ∷ b ∷ []) = omega arith
entry-start (a ∷ b ∷ c ∷ []) = omega arith
entry-start (a ∷ b ∷ c ∷ d ∷ bs) = omega arith

-- the number at p of the bytes from p on
four-drop : (s : List ℕ) (p : ℕ) → four (drop p s) 0 ≡ four s p
four-drop s p =
    let a : get_or (drop p s) 0 0 ≡ get_or s (p + 0) 0 = get_or-drop p s 0 0 in
    let b : get_or (drop p s) 1 0 ≡ get_or s (p + 1) 0 = get_or-drop p s 1 0 in
    let c : get_or (drop p s) 2 0 ≡ get_or s (p + 2) 0 = get_or-drop p s 2 0 in
    let d : get_or (drop p s) 3 0 ≡ get_or s (p + 3) 0 = get_or-drop p s 3 0 in
    let z : p + 0 ≡ p = omega arith in
    let t : p + 3 ≡ p + 2 + 1 = omega arith in
    let a' : get_or (drop p s) 0 0 ≡ get_or s p 0 = a ∙ ap (λ (n : ℕ). get_or s n 0) z in
    let d' : get_or (drop p s) 3 0 ≡ get_or s (p + 2 + 1) 0 = d ∙ ap (λ (n : ℕ). get_or s n 0) t in
    λ i. a' i + 256 * b i + 65536 * (c i + 256 * d' i)

pub entry-four : (s : List ℕ) (p : ℕ) → entry 4 (drop p s) ≡ four s p
entry-four s p = entry-start (drop p s) ∙ four-drop s p

-- a part of four bytes as a number
pub part-four : (s : List ℕ) (p : ℕ) → p + 4 ≤ length s → entry (length (mid_of p (p + 4 - p) s)) (mid_of p (p + 4 - p) s) ≡ four s p
part-four s p h =
    let k : p + 4 - p ≡ 4 = omega arith in
    let l : length (mid_of p (p + 4 - p) s) ≡ 4 = mid_len p (p + 4) s h ∙ k in
    ap₂ (λ (m n : ℕ). entry m (take n (drop p s))) l k ∙ entry-take 4 (drop p s) ∙ entry-four s p

mod-more : (y k : ℕ) → (y + 256 * k) % 256 ≡ y % 256
mod-more y k = omega arith

-- of four bytes only the lowest 32 bits are written
pub bytes-wrap : (x : ℕ) → bytes 4 (x + 4294967296) ≡ bytes 4 x
bytes-wrap x =
    let p : (x + 4294967296) / 256 ≡ x / 256 + 16777216 = omega arith in
    let q : (x / 256 + 16777216) / 256 ≡ x / 256 / 256 + 65536 = omega arith in
    let r : (x / 256 / 256 + 65536) / 256 ≡ x / 256 / 256 / 256 + 256 = omega arith in
    let q' : (x + 4294967296) / 256 / 256 ≡ x / 256 / 256 + 65536 = ap (λ (n : ℕ). n / 256) p ∙ q in
    let r' : (x + 4294967296) / 256 / 256 / 256 ≡ x / 256 / 256 / 256 + 256 = ap (λ (n : ℕ). n / 256) q' ∙ r in
    let a : (x + 4294967296) % 256 ≡ x % 256 = omega arith in
    let b : (x + 4294967296) / 256 % 256 ≡ x / 256 % 256 = ap (λ (n : ℕ). n % 256) p ∙ mod-more (x / 256) 65536 in
    let c : (x + 4294967296) / 256 / 256 % 256 ≡ x / 256 / 256 % 256 = ap (λ (n : ℕ). n % 256) q' ∙ mod-more (x / 256 / 256) 256 in
    let d : (x + 4294967296) / 256 / 256 / 256 % 256 ≡ x / 256 / 256 / 256 % 256 = ap (λ (n : ℕ). n % 256) r' ∙ mod-more (x / 256 / 256 / 256) 1 in
    λ i. a i ∷ b i ∷ c i ∷ d i ∷ []

-- a number of 32 bits from its bytes
pub four_bytes : (g : List ℕ) (p x : ℕ) → x < 4294967296
    → byte g p ≡ x % 256 → byte g (p + 1) ≡ x / 256 % 256 → byte g (p + 2) ≡ x / 256 / 256 % 256 → byte g (p + 2 + 1) ≡ x / 256 / 256 / 256 % 256
    → four g p ≡ x
four_bytes g p x h a b c d = omega arith

-- the bytes of a number are the bytes that it was read from
pub bytes-four : (s : List ℕ) (p : ℕ) → p + 4 ≤ length s → ((i : ℕ) → get_or s i 0 < 256) → bytes 4 (four s p) ≡ take 4 (drop p s)
bytes-four s p h small =
    let l : length (take 4 (drop p s)) ≡ 4 = let k : p + 4 - p ≡ 4 = omega arith in sym (ap (λ (n : ℕ). length (take n (drop p s))) k) ∙ mid_len p (p + 4) s h ∙ k in
    let a = small p in
    let b = small (p + 1) in
    let c = small (p + 2) in
    let d = small (p + 2 + 1) in
    let x : ℕ = four s p in
    let t : p + 3 ≡ p + 2 + 1 = omega arith in
    let z : p + 0 ≡ p = omega arith in
    let e0 : four s p % 256 ≡ get_or (take 4 (drop p s)) 0 0 = omega (arith, get_or-take 4 (drop p s) 0 0 (omega arith), get_or-drop p s 0 0, ap (λ (n : ℕ). get_or s n 0) z) in
    let e1 : four s p / 256 % 256 ≡ get_or (take 4 (drop p s)) 1 0 = omega (arith, get_or-take 4 (drop p s) 1 0 (omega arith), get_or-drop p s 1 0) in
    let e2 : four s p / 256 / 256 % 256 ≡ get_or (take 4 (drop p s)) 2 0 = omega (arith, get_or-take 4 (drop p s) 2 0 (omega arith), get_or-drop p s 2 0) in
    let e3 : four s p / 256 / 256 / 256 % 256 ≡ get_or (take 4 (drop p s)) 3 0 = omega (arith, get_or-take 4 (drop p s) 3 0 (omega arith), get_or-drop p s 3 0, ap (λ (n : ℕ). get_or s n 0) t) in
    ext_get_or 0 (bytes 4 (four s p)) (take 4 (drop p s)) (sym l) (at e0 e1 e2 e3)
  where
    at : four s p % 256 ≡ get_or (take 4 (drop p s)) 0 0 → four s p / 256 % 256 ≡ get_or (take 4 (drop p s)) 1 0
        → four s p / 256 / 256 % 256 ≡ get_or (take 4 (drop p s)) 2 0 → four s p / 256 / 256 / 256 % 256 ≡ get_or (take 4 (drop p s)) 3 0
        → (i : ℕ) → i < 4 → get_or (bytes 4 (four s p)) i 0 ≡ get_or (take 4 (drop p s)) i 0
    at a b c d zero h = a
    at a b c d (suc zero) h = b
    at a b c d (suc (suc zero)) h = c
    at a b c d (suc (suc (suc zero))) h = d
    at a b c d (suc (suc (suc (suc i)))) h = absurd (omega arith)

-- The bytes of a list that has six bytes, then n blocks of k bytes, then n blocks of 8 bytes.
use mathlib.Core.Path.{◌≡◌, refl, sym, ap, ◌∙◌}
use mathlib.Core.List.Memᴰ.{head}
use mathlib.Core.List.Memᴰ.{tail}
use mathlib.Core.List.{List, ◌++◌, Memᴰ as Mem}
use Prim.Native.Nat.{ℕ, zero, suc, ◌+◌, ◌*◌, ◌<◌}
use native.Mathlib.Nat.{mul-suc, mul-zero, add-zero}
use native.Mathlib.Omega.{arith}
use lib.ListN.{length, take, drop, get_or, length-append, get_or-append}
use lib.Seq.{take_at, get_or-append-add, drop-drop, take-add}
use Rattle.meaning.specs.Lists.{each, up_from, below}
use Rattle.meaning.proofs.ListLaws.{below_out}

-- ---- blocks of one length

module _ (g : ℕ → List ℕ) (k : ℕ) where
  blocks-length : (s n : ℕ) → ((m : ℕ) → Mem m (up_from s n) → length (g m) ≡ k) → length (each g (up_from s n)) ≡ k * n
  blocks-length s zero h = sym (mul-zero k)
  blocks-length s (suc n) h =
      let a = h s (head refl) in
      let b = blocks-length (suc s) n (λ m i. h m (tail i)) in
      length-append (g s) (each g (up_from (suc s) n)) ∙ omega (arith, a, b, mul-suc k n)

  block_at : (s n i j : ℕ) → ((m : ℕ) → Mem m (up_from s n) → length (g m) ≡ k) → i < n → j < k → get_or (each g (up_from s n)) (k * i + j) 0 ≡ get_or (g (s + i)) j 0
  block_at s zero i j h l low = absurd (omega arith)
  block_at s (suc n) zero j h l low =
      let a = h s (head refl) in
      let p : k * 0 + j ≡ j = omega (arith, mul-zero k) in
      ap (λ (x : ℕ). get_or (g s ++ each g (up_from (suc s) n)) x 0) p
      ∙ get_or-append (g s) (each g (up_from (suc s) n)) 0 j (omega arith)
      ∙ ap (λ (x : ℕ). get_or (g x) j 0) (sym (add-zero s))
  block_at s (suc n) (suc i) j h l low =
      let a = h s (head refl) in
      let p : k * suc i + j ≡ length (g s) + (k * i + j) = omega (arith, mul-suc k i) in
      let q : suc s + i ≡ s + suc i = omega arith in
      ap (λ (x : ℕ). get_or (g s ++ each g (up_from (suc s) n)) x 0) p
      ∙ get_or-append-add (g s) (each g (up_from (suc s) n)) (k * i + j) 0
      ∙ block_at (suc s) n i j (λ m x. h m (tail x)) (omega arith) low
      ∙ ap (λ (x : ℕ). get_or (g x) j 0) q

-- ---- the whole list

module _ (h : List ℕ) (s p : ℕ → List ℕ) (k n : ℕ) (six : length h ≡ 6) (sized : (m : ℕ) → m < n → length (s m) ≡ k) (paired : (m : ℕ) → m < n → length (p m) ≡ 8) where
  abbrev statements : List ℕ
  statements = each s (below n)

  abbrev periods : List ℕ
  periods = each p (below n)

  abbrev all : List ℕ
  all = h ++ (statements ++ periods)

  pub statements-length : length statements ≡ k * n
  statements-length = blocks-length s k 0 n (λ m i. sized m (below_out n i))

  pub periods-length : length periods ≡ 8 * n
  periods-length = blocks-length p 8 0 n (λ m i. paired m (below_out n i))

  pub all-length : length all ≡ 6 + k * n + 8 * n
  all-length =
      length-append h (statements ++ periods)
      ∙ omega (arith, length-append statements periods, statements-length, periods-length)

  pub head_byte : (j : ℕ) → j < 6 → get_or all j 0 ≡ get_or h j 0
  head_byte j l = get_or-append h (statements ++ periods) 0 j (omega arith)

  pub head-part : take 6 all ≡ h
  head-part = take_at h (statements ++ periods) 6 six

  pub statement-byte : (i j : ℕ) → i < n → j < k → k * i + j < k * n → get_or all (6 + k * i + j) 0 ≡ get_or (s i) j 0
  statement-byte i j l low inside =
      let e : 6 + k * i + j ≡ length h + (k * i + j) = omega arith in
      let z : 0 + i ≡ i = omega arith in
      ap (λ (x : ℕ). get_or all x 0) e ∙ get_or-append-add h (statements ++ periods) (k * i + j) 0
      ∙ get_or-append statements periods 0 (k * i + j) (omega (arith, statements-length))
      ∙ block_at s k 0 n i j (λ m x. sized m (below_out n x)) l low ∙ ap (λ (x : ℕ). get_or (s x) j 0) z

  pub period-byte : (i j : ℕ) → i < n → j < 8 → get_or all (6 + k * n + 8 * i + j) 0 ≡ get_or (p i) j 0
  period-byte i j l low =
      let e : 6 + k * n + 8 * i + j ≡ length h + (length statements + (8 * i + j)) = omega (arith, statements-length) in
      let z : 0 + i ≡ i = omega arith in
      ap (λ (x : ℕ). get_or all x 0) e ∙ get_or-append-add h (statements ++ periods) (length statements + (8 * i + j)) 0
      ∙ get_or-append-add statements periods (8 * i + j) 0
      ∙ block_at p 8 0 n i j (λ m x. paired m (below_out n x)) l low ∙ ap (λ (x : ℕ). get_or (p x) j 0) z

-- ---- a list cut into blocks is the list

cut-from : (f : List ℕ) (a k s n : ℕ) → each (λ i. take k (drop (a + k * i) f)) (up_from s n) ≡ take (k * n) (drop (a + k * s) f)
cut-from f a k s zero = ap (λ (m : ℕ). take m (drop (a + k * s) f)) (sym (mul-zero k))
cut-from f a k s (suc n) =
    let e : a + k * s + k ≡ a + k * suc s = omega (arith, mul-suc k s) in
    let m : k + k * n ≡ k * suc n = omega (arith, mul-suc k n) in
    ap (λ (l : List ℕ). take k (drop (a + k * s) f) ++ l) (cut-from f a k (suc s) n ∙ ap (λ (x : ℕ). take (k * n) (drop x f)) (sym e) ∙ ap (take (k * n)) (sym (drop-drop k (a + k * s) f)))
    ∙ sym (take-add k (k * n) (drop (a + k * s) f)) ∙ ap (λ (x : ℕ). take x (drop (a + k * s) f)) m

pub cut-blocks : (f : List ℕ) (a k n : ℕ) → each (λ i. take k (drop (a + k * i) f)) (below n) ≡ take (k * n) (drop a f)
cut-blocks f a k n =
    let z : a + k * 0 ≡ a = omega (arith, mul-zero k) in
    cut-from f a k 0 n ∙ ap (λ (x : ℕ). take (k * n) (drop x f)) z

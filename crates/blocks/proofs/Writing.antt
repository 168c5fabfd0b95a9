-- Laws of `written`: one part after the other is both together, and a loop that writes blocks of k bytes.
use mathlib.Core.Path.{◌≡◌, sym, ap, ap₂, ◌∙◌}
use mathlib.Core.List.{List, [], ◌++◌, append_assoc, append-nil}
use Prim.Native.Nat.{ℕ, zero, suc, ◌+◌, ◌-◌, ◌*◌, ◌≤◌, ◌<◌}
use native.Mathlib.Nat.{mul-suc, add-zero}
use native.Mathlib.Numerals.{add-one}
use native.Mathlib.Omega.{arith}
use lib.ListN.{length, take, drop, length-append, length-drop, take-append-drop}
use lib.Seq.{take_at, drop-append-add, drop-drop, length-take-le, drop-length}
use borrow.Rule.Slice.PartMut.{mid_of, mid_len}
use Rattle.meaning.specs.Lists.{each, up_from, below}
use Rattle.codec.specs.Bytes.{bytes}
use Rattle.codec.proofs.Entries.{length-bytes}
use Rattle.blocks.specs.Blocks.{written}

-- ---- one part

pub written_none : (d : List ℕ) (at : ℕ) → d ≡ written d at []
written_none d at =
    let z : at ≡ at + 0 = omega arith in
    sym (take-append-drop at d) ∙ ap₂ (λ (l : List ℕ) (n : ℕ). l ++ drop n d) (sym (append-nil (take at d))) z

module _ (d : List ℕ) (at : ℕ) (t : List ℕ) (room : at + length t ≤ length d) where
  front_length : length (take at d ++ t) ≡ at + length t
  front_length = length-append (take at d) t ∙ ap (λ (n : ℕ). n + length t) (length-take-le at d (omega arith))

  pub written-length : length (written d at t) ≡ length d
  written-length =
      length-append (take at d ++ t) (drop (at + length t) d)
      ∙ omega (arith, front_length, length-drop (at + length t) d)

-- a part behind another one
pub written_next : (d : List ℕ) (at : ℕ) (s t : List ℕ) (p : ℕ) → p ≡ at + length s → p ≤ length d → written (written d at s) p t ≡ written d at (s ++ t)
written_next d at s t p e h =
    let q : List ℕ = take at d ++ s in
    let l : length q ≡ p = front_length d at s (omega arith) ∙ sym e in
    let before : take p (written d at s) ≡ q = take_at q (drop (at + length s) d) p l in
    let n : p + length t ≡ length q + length t = ap (λ (k : ℕ). k + length t) (sym l) in
    let m : at + length s + length t ≡ at + length (s ++ t) = omega (arith, length-append s t) in
    let after : drop (p + length t) (written d at s) ≡ drop (at + length (s ++ t)) d =
    ap (λ (k : ℕ). drop k (written d at s)) n ∙ drop-append-add q (drop (at + length s) d) (length t)
    ∙ drop-drop (length t) (at + length s) d ∙ ap (λ (k : ℕ). drop k d) m in
    ap₂ (λ (x y : List ℕ). x ++ t ++ y) before after ∙ ap (λ (x : List ℕ). x ++ drop (at + length (s ++ t)) d) (append_assoc (take at d) s t)

-- a part that fills the list from its start
pub written-whole : (d t : List ℕ) → length t ≡ length d → written d 0 t ≡ t
written-whole d t e =
    let z : 0 + length t ≡ length d = omega arith in
    ap (λ (n : ℕ). t ++ drop n d) z ∙ ap (λ (l : List ℕ). t ++ l) (drop-length d) ∙ append-nil t

-- the part that it starts with
pub written_start : (d t : List ℕ) (n : ℕ) → length t ≡ n → take n (written d 0 t) ≡ t
written_start d t n e = take_at t (drop (0 + length t) d) n e

-- ---- blocks

each_snoc : (g : ℕ → List ℕ) (s n : ℕ) → each g (up_from s (suc n)) ≡ each g (up_from s n) ++ g (s + n)
each_snoc g s zero = append-nil (g s) ∙ ap g (sym (add-zero s))
each_snoc g s (suc n) =
    let e : suc s + n ≡ s + suc n = omega arith in
    ap (λ (l : List ℕ). g s ++ l) (each_snoc g (suc s) n ∙ ap (λ (m : ℕ). each g (up_from (suc s) n) ++ g m) e)
    ∙ sym (append_assoc (g s) (each g (up_from (suc s) n)) (g (s + suc n)))

pub each_next : (g : ℕ → List ℕ) (n : ℕ) → each g (below (n + 1)) ≡ each g (below n) ++ g n
each_next g n =
    let z : 0 + n ≡ n = omega arith in
    ap (λ (m : ℕ). each g (below m)) (add-one n) ∙ each_snoc g 0 n ∙ ap (λ (m : ℕ). each g (below n) ++ g m) z

-- i of n blocks of k bytes written from `at` on
pub record Blocks (d : List ℕ) (at k n : ℕ) (g : ℕ → List ℕ) (i : ℕ) (l : List ℕ) : Type 0 where
  pub within : i ≤ n
  pub size : length (each g (below i)) ≡ k * i
  pub long : length l ≡ length d
  pub same : l ≡ written d at (each g (below i))

module _ (d : List ℕ) (at k n : ℕ) (g : ℕ → List ℕ) where
  pub blocks_more : (i : ℕ) {l : List ℕ} → Blocks d at k n g i l → i < n → length (g i) ≡ k → at + k * i + k ≤ length d → {m : List ℕ} → m ≡ written l (at + k * i) (g i) → Blocks d at k n g (i + 1) m
  blocks_more i {l} r low few room {m} e =
      let b : List ℕ = each g (below i) in
      let next : k * i + k ≡ k * (i + 1) = omega (arith, mul-suc k i, ap (λ (x : ℕ). k * x) (add-one i)) in
      let p : at + k * i ≡ at + length b = ap (λ (x : ℕ). at + x) (sym r.size) in
      let all : m ≡ written d at (b ++ g i) =
      e ∙ ap (λ (x : List ℕ). written x (at + k * i) (g i)) r.same ∙ written_next d at b (g i) (at + k * i) p (omega arith) in
      let size : length (b ++ g i) ≡ k * (i + 1) = length-append b (g i) ∙ omega (arith, r.size) in
      record {
        within = omega arith;
        size = ap length (each_next g i) ∙ size;
        long = ap length all ∙ written-length d at (b ++ g i) (omega arith);
        same = all ∙ ap (written d at) (sym (each_next g i));
      }

-- ---- the blocks

module _ (s : List ℕ) (p k : ℕ) (h : p + k ≤ length s) where
  pub part-size : p + k - p ≡ k
  part-size = omega arith

  pub part_length : length (mid_of p (p + k - p) s) ≡ k
  part_length = mid_len p (p + k) s h ∙ part-size

  pub whole_length : length (take k (drop p s)) ≡ k
  whole_length = ap (λ (n : ℕ). length (take n (drop p s))) (sym part-size) ∙ part_length

  -- a part with a number's bytes behind it
  pub with-length : (x : ℕ) → length (take k (drop p s) ++ bytes 4 x) ≡ k + 4
  with-length x = length-append (take k (drop p s)) (bytes 4 x) ∙ omega (arith, whole_length, length-bytes 4 x)

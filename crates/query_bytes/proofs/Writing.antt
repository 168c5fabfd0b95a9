-- Writing a column of the steps as bytes: one entry more, and the list at the end.
use mathlib.Core.Path.{◌≡◌, sym, ap, ◌∙◌}
use mathlib.Core.List.{List, ◌++◌, map, append-nil}
use Prim.Native.Nat.{ℕ, ◌+◌, ◌-◌, ◌*◌, ◌≤◌, ◌<◌}
use native.Mathlib.Nat.{le_refl}
use native.Mathlib.Omega.{arith}
use lib.ListN.{length, take, drop, replicate}
use lib.Seq.{take-length, take_at, drop-length}
use borrow.Rule.Slice.PartMut.{mid_of, put_mid, Post-is, mid_len}
use Rattle.meaning.specs.Lists.{below}
use Rattle.derivation.proofs.Positions.{map-below-length, map-below-at}
use Rattle.codec.specs.Bytes.{bytes, bytes_of}
use Rattle.codec.proofs.Entries.{Encoded, encode-more, encode-all, length-bytes_of, bytes_of-append, bytes_of-zeros}

-- the values of f as entries
module _ (f : ℕ → ℕ) (count n : ℕ) (d l : List ℕ) (i : ℕ) (r : Encoded 4 count (map f (below count)) d i l) (size : length d ≡ 4 * n) (few : count ≤ n) where
  abbrev values : List ℕ
  values = map f (below count)

  pub column-more : i < count → {t : List ℕ} {v : ℕ} → v ≡ f i → length t ≡ length (mid_of (4 * i) (4 * i + 4 - 4 * i) l) → t ≡ bytes (length (mid_of (4 * i) (4 * i + 4 - 4 * i) l)) v
      → Encoded 4 count values d (i + 1) (put_mid (4 * i) (4 * i + 4 - 4 * i) l t)
  column-more low e long h =
      let v = e ∙ sym (map-below-at f count i 0 low) in
      encode-more 4 count values d i r low (omega (arith, map-below-length f count)) (omega arith) long (h ∙ ap (bytes (length (mid_of (4 * i) (4 * i + 4 - 4 * i) l))) v)

  -- the bytes of the entries, then zeros
  pub column-bytes : count ≤ i → {t : List ℕ} → t ≡ replicate (length (mid_of (4 * count) (length l - 4 * count) l)) 0 → put_mid (4 * count) (length l - 4 * count) l t ≡ bytes_of 4 (values ++ replicate (n - count) 0)
  column-bytes h {t} e =
      let low : 4 * count ≤ length l = omega (arith, r.long) in
      let whole : take count values ≡ values = ap (λ (k : ℕ). take k values) (sym (map-below-length f count)) ∙ take-length values in
      let q : length (bytes_of 4 values) ≡ 4 * count = length-bytes_of 4 values ∙ ap (λ (k : ℕ). 4 * k) (map-below-length f count) in
      let same = encode-all 4 count values d i r h ∙ ap (λ (x : List ℕ). bytes_of 4 x ++ drop (4 * count) d) whole in
      let first : take (4 * count) l ≡ bytes_of 4 values = ap (take (4 * count)) same ∙ take_at (bytes_of 4 values) (drop (4 * count) d) (4 * count) q in
      let rest : t ≡ replicate (4 * (n - count)) 0 = e ∙ ap (λ (k : ℕ). replicate k 0) (mid_len (4 * count) (length l) l (le_refl (length l)) ∙ omega (arith, r.long)) in
      ap (λ (x : List ℕ). take (4 * count) l ++ x) (ap (λ (x : List ℕ). t ++ x) (Post-is (4 * count) (length l) l low ∙ drop-length l) ∙ append-nil t)
      ∙ (λ u. first u ++ rest u) ∙ ap (λ (x : List ℕ). bytes_of 4 values ++ x) (sym (bytes_of-zeros 4 (n - count))) ∙ sym (bytes_of-append 4 values (replicate (n - count) 0))

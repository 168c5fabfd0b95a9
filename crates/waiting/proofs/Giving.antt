-- The set that a pair gives, in its spans.
use mathlib.Core.Path.{◌≡◌, sym, ap, ◌∙◌}
use mathlib.Core.Logic.{◌⊎◌, inl, inr}
use Prim.Native.Nat.{ℕ, ◌<◌}
use native.Mathlib.Omega.{arith}
use borrow.Author.Tests.{eq-eqb, ne_eqb}
use lib.Bits.{bit_and, bit_or, or_lt}
use Rattle.meaning.specs.Table.{bit}
use Rattle.meaning.proofs.Bits.{bit-of-zero}
use Rattle.store.proofs.Chains.{equal_or_not}
use Rattle.waiting.specs.Pairs.{Paired, WithPair, pair_set, pair_spans}

-- a number with a bit is not 0
some-bit : (m s : ℕ) → bit m s ≡ 1 → m ≡ 0 → ⊥
some-bit m s b z = let e : bit m s ≡ 0 = ap (λ (x : ℕ). bit x s) z ∙ bit-of-zero s in omega arith

module _ (kind x y : ℕ) where
  pub set-second : kind ≡ 2 → pair_set kind x y ≡ y
  set-second e = simp (eq-eqb kind 2 e)

  pub set-joined : (kind ≡ 2 → ⊥) → pair_set kind x y ≡ bit_or x y
  set-joined ne = simp (ne_eqb kind 2 ne)

  pub set-low : {set : ℕ} → set ≡ pair_set kind x y → x < 4294967296 → y < 4294967296 → set < 4294967296
  set-low {set} q a b = go (equal_or_not kind 2)
    where
      go : (kind ≡ 2) ⊎ (kind ≡ 2 → ⊥) → set < 4294967296
      go (inl e) = omega (arith, q, set-second e)
      go (inr ne) = omega (arith, q, set-joined ne, or_lt 32 x y a b)

  module _ (m : ℕ) where
    pub spans-other : (kind ≡ 5 → ⊥) → pair_spans kind x y m ≡ m
    spans-other ne = simp (ne_eqb kind 5 ne)

    pub spans_apart : kind ≡ 5 → bit_and x y ≡ 0 → pair_spans kind x y m ≡ m
    spans_apart e z = simp (eq-eqb kind 5 e, eq-eqb (bit_and x y) 0 z)

    pub spans-meet : kind ≡ 5 → (bit_and x y ≡ 0 → ⊥) → pair_spans kind x y m ≡ 0
    spans-meet e nz = simp (eq-eqb kind 5 e, ne_eqb (bit_and x y) 0 nz)

    spans-given : (kind ≡ 5 → bit_and x y ≡ 0) → pair_spans kind x y m ≡ m
    spans-given z = go (equal_or_not kind 5)
      where
        go : (kind ≡ 5) ⊎ (kind ≡ 5 → ⊥) → pair_spans kind x y m ≡ m
        go (inl e) = spans_apart e (z e)
        go (inr ne) = spans-other ne

    -- where some spans are left, the sets are paired, in all of m
    pub spans-paired : (pair_spans kind x y m ≡ 0 → ⊥) → Paired kind x y (pair_set kind x y)
    spans-paired some = record { second = set-second; joined = set-joined; apart = λ e. go e (equal_or_not (bit_and x y) 0) }
      where
        go : kind ≡ 5 → (bit_and x y ≡ 0) ⊎ (bit_and x y ≡ 0 → ⊥) → bit_and x y ≡ 0
        go e (inl z) = z
        go e (inr nz) = absurd (some (spans-meet e nz))

    pub spans_all : (pair_spans kind x y m ≡ 0 → ⊥) → pair_spans kind x y m ≡ m
    spans_all some = spans-given (spans-paired some).apart

    -- a pair gives its one set in its spans, and nothing else
    pub pair_one : (X s : ℕ) → WithPair kind x y m X s → (X ≡ pair_set kind x y) × (bit (pair_spans kind x y m) s ≡ 1)
    pair_one X s (p, b) = (go (equal_or_not kind 2), ap (λ (w : ℕ). bit w s) (spans-given p.apart) ∙ b)
      where
        go : (kind ≡ 2) ⊎ (kind ≡ 2 → ⊥) → X ≡ pair_set kind x y
        go (inl e) = p.second e ∙ sym (set-second e)
        go (inr ne) = p.joined ne ∙ sym (set-joined ne)

    pub one-pair : (X s : ℕ) → (X ≡ pair_set kind x y) × (bit (pair_spans kind x y m) s ≡ 1) → WithPair kind x y m X s
    one-pair X s (q, b) =
        let some : pair_spans kind x y m ≡ 0 → ⊥ = some-bit (pair_spans kind x y m) s b in
        (rw q (spans-paired some), sym (ap (λ (w : ℕ). bit w s) (spans_all some)) ∙ b)

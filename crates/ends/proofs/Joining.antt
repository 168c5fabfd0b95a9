-- The intervals of a span number, as they are built span by span in 32 places.
use mathlib.Core.Path.{◌≡◌, refl, sym, ap, ◌∙◌}
use mathlib.Core.List.{List, [], ◌∷◌, ◌++◌, map, map-append, append_assoc}
use Prim.Native.Nat.{ℕ, zero, suc, ◌+◌, ◌-◌, ◌/◌, ◌^◌, ◌<◌}
use native.Mathlib.Numerals.{add-one}
use native.Mathlib.Omega.{arith}
use borrow.Author.Tests.{eq-eqb, ne_eqb}
use lib.Bits.{bit_and, and_mask}
use lib.Dec.{eqb}
use lib.ListN.{length, get_or, set, replicate, length-append, length-map}
use lib.Seq.{set_at, get_or_at}
use Rattle.meaning.specs.Lists.{if}
use Rattle.meaning.specs.Credentials.{Period}
use Rattle.meaning.specs.Table.{bit, extended, intervals_to}
use Rattle.ends.specs.declared.Interval.{Interval}
use Rattle.ends.specs.Intervals.{pair, no_pair, pairs}

abbrev span : ℕ → ℕ → Period
span e f = record { from = e; until = f }

-- ---- a further span

-- after the periods, where the last of them does not touch it; otherwise the last of them ends later
extended-last : (us : List Period) (v : Period) (e f : ℕ)
    → extended (us ++ (v ∷ [])) e f ≡ us ++ if (eqb v.until e) (span v.from f ∷ []) (v ∷ span e f ∷ [])
extended-last [] v e f = refl
extended-last (u ∷ []) v e f = refl
extended-last (u ∷ w ∷ us) v e f = ap (λ (vs : List Period). u ∷ vs) (extended-last (w ∷ us) v e f)

touching : (us : List Period) (v : Period) (e f : ℕ) → v.until ≡ e → extended (us ++ (v ∷ [])) e f ≡ us ++ (span v.from f ∷ [])
touching us v e f h = extended-last us v e f ∙ (rw (eq-eqb v.until e h) refl)

apart : (us : List Period) (v : Period) (e f : ℕ) → (v.until ≡ e → ⊥) → extended (us ++ (v ∷ [])) e f ≡ us ++ (v ∷ span e f ∷ [])
apart us v e f h = extended-last us v e f ∙ (rw (ne_eqb v.until e h) refl)

-- every list is empty or has a last entry
data Parted : List Period → Type 0 where
  empty : Parted []
  last : (us : List Period) (v : Period) → Parted (us ++ (v ∷ []))

parted : (vs : List Period) → Parted vs
parted [] = empty
parted (v ∷ vs) = go (parted vs)
  where
    go : {ws : List Period} → Parted ws → Parted (v ∷ ws)
    go empty = last [] v
    go (last us w) = last (v ∷ us) w

-- ---- in 32 places

seam : (us : List Period) (v : Period) (t : List Interval) → map pair (us ++ (v ∷ [])) ++ t ≡ map pair us ++ (pair v ∷ t)
seam us v t = ap (λ (l : List Interval). l ++ t) (map-append pair us (v ∷ [])) ∙ append_assoc (map pair us) (pair v ∷ []) t

snoc-length : (us : List Period) (v : Period) → length (us ++ (v ∷ [])) ≡ length us + 1
snoc-length us v = length-append us (v ∷ [])

-- pairs, with the last one apart
pairs-last : (us : List Period) (v : Period) → pairs (us ++ (v ∷ [])) ≡ map pair us ++ (pair v ∷ replicate (32 - (length us + 1)) no_pair)
pairs-last us v =
    seam us v (replicate (32 - length (us ++ (v ∷ []))) no_pair) ∙ ap (λ (k : ℕ). map pair us ++ (pair v ∷ replicate (32 - k) no_pair)) (snoc-length us v)

pairs-add : (vs : List Period) (v : Period) → length vs < 32 → set (pairs vs) (length vs) (pair v) ≡ pairs (vs ++ (v ∷ []))
pairs-add vs v h =
    let e : 32 - length vs ≡ suc (32 - (length vs + 1)) = omega arith in
    ap (λ (k : ℕ). set (map pair vs ++ replicate k no_pair) (length vs) (pair v)) e
    ∙ set_at (map pair vs) no_pair (replicate (32 - (length vs + 1)) no_pair) (pair v) (length vs) (length-map vs pair) ∙ sym (pairs-last vs v)

pairs-get : (us : List Period) (v : Period) (d : Interval) → get_or (pairs (us ++ (v ∷ []))) (length us) d ≡ pair v
pairs-get us v d =
    ap (λ (l : List Interval). get_or l (length us) d) (pairs-last us v)
    ∙ get_or_at (map pair us) (pair v) (replicate (32 - (length us + 1)) no_pair) d (length us) (length-map us pair)

pairs-change : (us : List Period) (v w : Period) → set (pairs (us ++ (v ∷ []))) (length us) (pair w) ≡ pairs (us ++ (w ∷ []))
pairs-change us v w =
    ap (λ (l : List Interval). set l (length us) (pair w)) (pairs-last us v)
    ∙ set_at (map pair us) (pair v) (replicate (32 - (length us + 1)) no_pair) (pair w) (length us) (length-map us pair) ∙ sym (pairs-last us w)

-- n intervals stand in the places
pub record Placed (vs : List Period) (at : List Interval) (n : ℕ) : Type 0 where
  pub count : n ≡ length vs
  pub places : at ≡ pairs vs

module _ (e f : ℕ) where
  abbrev last_of : List Period → Interval
  last_of vs = get_or (pairs vs) (length vs - 1) no_pair

  last-is : (us : List Period) (v : Period) → last_of (us ++ (v ∷ [])) ≡ pair v
  last-is us v =
      let p : length (us ++ (v ∷ [])) - 1 ≡ length us = omega (arith, snoc-length us v) in
      ap (λ (j : ℕ). get_or (pairs (us ++ (v ∷ []))) j no_pair) p ∙ pairs-get us v no_pair

  wider : (vs : List Period) → 0 < length vs → (last_of vs).to ≡ e
      → Placed (extended vs e f) (set (pairs vs) (length vs - 1) (record { from = (last_of vs).from; to = f })) (length vs)
  wider vs h k = go (parted vs) h k
    where
      go : {ws : List Period} → Parted ws → 0 < length ws → (last_of ws).to ≡ e
          → Placed (extended ws e f) (set (pairs ws) (length ws - 1) (record { from = (last_of ws).from; to = f })) (length ws)
      go empty h k = absurd (omega arith)
      go (last us v) h k =
          let p : length (us ++ (v ∷ [])) - 1 ≡ length us = omega (arith, snoc-length us v) in
          let x = touching us v e f (ap (λ (q : Interval). q.to) (sym (last-is us v)) ∙ k) in
          record {
            count = snoc-length us v ∙ sym (snoc-length us (span v.from f)) ∙ ap length (sym x);
            places = ap (λ (j : ℕ). set (pairs (us ++ (v ∷ []))) j (record { from = (last_of (us ++ (v ∷ []))).from; to = f })) p
                ∙ ap (λ (q : Interval). set (pairs (us ++ (v ∷ []))) (length us) (record { from = q.from; to = f })) (last-is us v)
                ∙ pairs-change us v (span v.from f) ∙ ap pairs (sym x);
          }

  further : (vs : List Period) → length vs < 32 → (0 < length vs → (last_of vs).to ≡ e → ⊥)
      → Placed (extended vs e f) (set (pairs vs) (length vs) (record { from = e; to = f })) (length vs + 1)
  further vs h k =
      let x = new (parted vs) k in
      record { count = sym (snoc-length vs (span e f)) ∙ ap length (sym x); places = pairs-add vs (span e f) h ∙ ap pairs (sym x) }
    where
      new : {ws : List Period} → Parted ws → (0 < length ws → (last_of ws).to ≡ e → ⊥) → extended ws e f ≡ ws ++ (span e f ∷ [])
      new empty k = refl
      new (last us v) k =
          apart us v e f (λ q. k (omega (arith, snoc-length us v)) (ap (λ (w : Interval). w.to) (last-is us v) ∙ q))
          ∙ sym (append_assoc us (v ∷ []) (span e f ∷ []))

-- ---- one turn of the loop

module _ (es : List ℕ) (spans i : ℕ) (at : List Interval) (n : ℕ) (now : Placed (intervals_to es spans i) at n) where
  -- spans >> i & 1
  abbrev set? : ℕ
  set? = bit_and (spans / 2 ^ i) 1

  is-bit : set? ≡ bit spans i
  unfolding bit
  is-bit = and_mask (spans / 2 ^ i) 1

  bit_below : bit spans i < 2
  unfolding bit
  bit_below = omega arith

  turn_on : (set? ≡ 0 → ⊥) → intervals_to es spans (i + 1) ≡ extended (intervals_to es spans i) (get_or es i 0) (get_or es (i + 1) 0)
  turn_on h = let e : bit spans i ≡ 1 = go (bit spans i) refl bit_below in rw (add-one, eq-eqb (bit spans i) 1 e) refl
    where
      go : (b : ℕ) → bit spans i ≡ b → b < 2 → b ≡ 1
      go zero q l = absurd (h (is-bit ∙ q))
      go (suc zero) q l = refl
      go (suc (suc b)) q l = absurd (omega arith)

  pub turn-none : set? ≡ 0 → Placed (intervals_to es spans (i + 1)) at n
  turn-none h = rw (add-one, ne_eqb (bit spans i) 1 (λ e. omega (arith, is-bit))) now

  pub turn-wider : (set? ≡ 0 → ⊥) → 0 < n → (get_or at (n - 1) no_pair).to ≡ get_or es i 0
      → Placed (intervals_to es spans (i + 1)) (set at (n - 1) (record { from = (get_or at (n - 1) no_pair).from; to = get_or es (i + 1) 0 })) n
  turn-wider h z k =
      rw (turn_on h, now.places, now.count)
      (wider (get_or es i 0) (get_or es (i + 1) 0) (intervals_to es spans i) (omega (arith, now.count)) (rw (now.places, now.count) at k))

  pub turn-further : (set? ≡ 0 → ⊥) → n < 32 → (0 < n → (get_or at (n - 1) no_pair).to ≡ get_or es i 0 → ⊥)
      → Placed (intervals_to es spans (i + 1)) (set at n (record { from = get_or es i 0; to = get_or es (i + 1) 0 })) (n + 1)
  turn-further h z k =
      rw (turn_on h, now.places, now.count)
      (further (get_or es i 0) (get_or es (i + 1) 0) (intervals_to es spans i) (omega (arith, now.count)) (rw (now.places, now.count) at k))

-- Refusals 1 to 8 of an old file are given exactly under their conditions: 1 to 3 by their tests, the others as those of the new bytes.
use mathlib.Core.Path.{◌≡◌, refl, sym, ap, ◌∙◌, subst, subst⁻¹, subst₂}
use mathlib.Core.Logic.{◌⊎◌, inl, inr, ◌↔◌}
use mathlib.Core.Bool.{not}
use mathlib.Core.List.{List, [], ◌∷◌, ◌++◌, Memᴰ as Mem}
use Prim.Native.Nat.{ℕ, ◌+◌, ◌≤◌, ◌<◌}
use native.Mathlib.Omega.{arith}
use lib.Dec.{T, not_T, eqb, ltb, eqb→eq, leb→le, le→leb, lt→ltb}
use lib.ListN.{length}
use Rattle.meaning.specs.Lists.{each, below}
use Rattle.meaning.specs.Credentials.{Credential}
use Rattle.meaning.specs.Table.{ends}
use Rattle.meaning.proofs.Tests.{eq-in}
use Rattle.file.specs.Refusals.{RefusalRow, Outcome, done, refused, first, ◌when◌}
use Rattle.file.specs.Format.{E, R, N, length_for, field, from_of, to_of, credentials}
use Rattle.file.specs.Reading.{uses, undated}
use Rattle.file.specs.Conditions.{Limits, Head, Ranges, Zeros, Dated, Undated, Good, GoodBelow, Accepted, Reached, Refused, short, limits, wrong_length, kind, range, unused, period, serial, too_many_ends}
use Rattle.file.proofs.Dating.{undated-in, not-both, dated-or-not, not-undated}
use Rattle.file.proofs.Serials.{taken_in, not_taken}
use Rattle.file.proofs.Claims.{counted-ends}
use Rattle.file.proofs.Refusals.{give, limits_test, limits-out, limits-in, short_row, limits_row, short-passes, limits-pass, accepted-read, refused-read, by-test, less, Verdict, verdict}
use Rattle.codec.specs.ByteLists.{Bytes}
use Rattle.old_file.specs.OldFormat.{old_length, old_field, old_from, old_to, old_credentials}
use Rattle.old_file.specs.OldReading.{old_credential_rows, old_reading, OldPasses}
use Rattle.old_file.specs.OldConditions.{OldHead, OldRanges, OldZeros, OldGood, OldGoodBelow, OldAccepted, OldReached, OldRefused, old_short, old_limits, old_wrong_length, old_kind, old_range, old_unused, old_undated, old_too_many_ends}
use Rattle.carrying.specs.Carrying.{forward_of}
use Rattle.carrying.proofs.OldKinds.{entities-low, names-low, unused-low}
use Rattle.carrying.proofs.Forwarded.{lowered-raised, forward-length, sizes-same, field-same, from-same, to_is}
use Rattle.carrying.proofs.SameReading.{dated-same, fresh, credentials-same, same-reading}

-- ---- the conditions of an old file whose head passes are those of its new bytes

module _ (f : List ℕ) (small : Bytes f) (h : OldHead f) where
  abbrev g : List ℕ
  g = forward_of f

  few : N f ≤ 256
  few = h.limits.credentials

  sizes : (E g ≡ E f) × (R g ≡ R f) × (N g ≡ N f)
  sizes = sizes-same f few h.whole

  new-head : Head g
  new-head =
      let l = forward-length f few h.whole in
      let (e, r, n) = sizes in
      let (e₁, e₂) = h.limits.entities in
      let (r₁, r₂) = h.limits.names in
      record {
        six = omega arith;
        limits = record { entities = (omega arith, omega arith); names = (omega arith, omega arith); credentials = omega (arith, few) };
        whole = l ∙ ap length_for (sym n);
      }

  module _ (i : ℕ) (low : i < N f) where
    kind-same : field g i 0 ≡ old_field f i 0
    kind-same = field-same f few h.whole i low 0 (omega arith)

    -- what is asked of the bytes that a kind lists, against a bound, is asked of the same bytes
    used : (P : ℕ → ℕ → Type 0) (l : ℕ → List ℕ) {b c : ℕ} → b ≡ c → ((j : ℕ) → Mem j (l (old_field f i 0)) → j < 8)
        → ((j : ℕ) → Mem j (l (field g i 0)) → P (field g i j) b) ↔ ((j : ℕ) → Mem j (l (old_field f i 0)) → P (old_field f i j) c)
    used P l q only = (
      (λ a j m. subst₂ P (same j m) q (a j (subst⁻¹ (λ (k : ℕ). Mem j (l k)) kind-same m))),
      λ a j m. let o = subst (λ (k : ℕ). Mem j (l k)) kind-same m in subst₂ P (sym (same j o)) (sym q) (a j o),
    )
      where
        same : (j : ℕ) → Mem j (l (old_field f i 0)) → field g i j ≡ old_field f i j
        same j m = field-same f few h.whole i low j (only j m)

    ranges : Ranges g i ↔ OldRanges f i
    ranges =
        let es = used (λ (v b : ℕ). v < b) (λ k. (uses k).entities) sizes.0 (entities-low (old_field f i 0)) in
        let ns = used (λ (v b : ℕ). v < b) (λ k. (uses k).names) sizes.1 (names-low (old_field f i 0)) in (
          (λ r. record { entities = es.0 r.entities; names = ns.0 r.names }),
          λ r. record { entities = es.1 r.entities; names = ns.1 r.names },
        )

    zeros : Zeros g i ↔ OldZeros f i
    zeros = used (λ (v b : ℕ). v ≡ b) (λ k. (uses k).unused) refl (unused-low (old_field f i 0))

    seven : T (undated g i) ↔ (old_to f i ≤ old_from f i)
    seven =
        let s = dated-same f few h.whole small i low in
        (λ t. leb→le _ _ (subst T s t), λ l. subst⁻¹ T s (le→leb _ _ l))

    dated : Dated g i ↔ (old_from f i < old_to f i)
    dated = (λ d. go d (less (old_from f i) (old_to f i)), λ l. not-undated g i (not_T (undated g i) (λ t. omega (arith, seven.0 t))))
      where
        go : Dated g i → (old_from f i < old_to f i) ⊎ (old_to f i ≤ old_from f i) → old_from f i < old_to f i
        go d (inl l) = l
        go d (inr l) = absurd (not-both g i d (seven.1 l))

    not-dated : Undated g i ↔ (old_to f i ≤ old_from f i)
    not-dated = (λ u. seven.0 (undated-in g i u), λ l. go l (dated-or-not g i))
      where
        go : old_to f i ≤ old_from f i → Dated g i ⊎ Undated g i → Undated g i
        go l (inl d) = absurd (not-both g i d (seven.1 l))
        go l (inr u) = u

    good : Good g i ↔ OldGood f i
    good = (
      (λ c. record { kind = omega (arith, kind-same, c.kind); ranges = ranges.0 c.ranges; zeros = zeros.0 c.zeros; period = dated.0 c.period }),
      λ c. record {
        kind = omega (arith, kind-same, c.kind);
        ranges = ranges.1 c.ranges;
        zeros = zeros.1 c.zeros;
        period = dated.1 c.period;
        serial = fresh f few h.whole small i low;
      },
    )

  good-below : (n : ℕ) → n ≤ N f → GoodBelow g n ↔ OldGoodBelow f n
  good-below n m = ((λ a i l. (good i (omega arith)).0 (a i l)), λ a i l. (good i (omega arith)).1 (a i l))

  good-all : GoodBelow g (N g) ↔ OldGoodBelow f (N f)
  good-all = subst⁻¹ (λ (n : ℕ). GoodBelow g n ↔ OldGoodBelow f (N f)) sizes.2 (good-below (N f) (omega arith))

  reached : (i : ℕ) → Reached g i ↔ OldReached f i
  reached i =
      let n = sizes.2 in (
        (λ r. let b = r.below in record { head = h; below = omega arith; good = (good-below i (omega arith)).0 r.good }),
        λ r. let b = r.below in record { head = new-head; below = omega arith; good = (good-below i (omega arith)).1 r.good },
      )

  same_ends : OldGoodBelow f (N f) → length (ends (credentials g)) ≡ length (ends (old_credentials f))
  same_ends a = ap (λ (cs : List Credential). length (ends cs)) (credentials-same f few h.whole small (λ i l. (a i l).period))

  -- the ends that 8 counts are the from values and the to values
  pub ends-counted : OldGoodBelow f (N f) → (x : ℕ) → Mem x (ends (old_credentials f)) ↔ ((i : ℕ) × (i < N f) × ((x ≡ old_from f i) ⊎ (x ≡ old_to f i)))
  ends-counted a x =
      let w = counted-ends g new-head (good-all.1 a) x in
      let cs = credentials-same f few h.whole small (λ i l. (a i l).period) in
      subst (λ (l : List Credential). Mem x (ends l) ↔ ((i : ℕ) × (i < N f) × ((x ≡ old_from f i) ⊎ (x ≡ old_to f i)))) cs ((λ m. out (w.0 m)), λ s. w.1 (into s))
    where
      from : (i : ℕ) → i < N f → from_of g i ≡ old_from f i
      from i l = from-same f few h.whole i l

      until : (i : ℕ) → i < N f → to_of g i + 1 ≡ old_to f i
      until i l =
          let d = (a i l).period in
          ap (λ (t : ℕ). t + 1) (to_is f few h.whole i l small) ∙ lowered-raised (old_to f i) (omega arith)

      out : (i : ℕ) × (i < N g) × ((x ≡ from_of g i) ⊎ (x ≡ to_of g i + 1)) → (i : ℕ) × (i < N f) × ((x ≡ old_from f i) ⊎ (x ≡ old_to f i))
      out (i, l, inl e) = let n = sizes.2 in let m : i < N f = omega arith in (i, m, inl (e ∙ from i m))
      out (i, l, inr e) = let n = sizes.2 in let m : i < N f = omega arith in (i, m, inr (e ∙ until i m))

      into : (i : ℕ) × (i < N f) × ((x ≡ old_from f i) ⊎ (x ≡ old_to f i)) → (i : ℕ) × (i < N g) × ((x ≡ from_of g i) ⊎ (x ≡ to_of g i + 1))
      into (i, l, inl e) = let n = sizes.2 in (i, omega arith, inl (e ∙ sym (from i l)))
      into (i, l, inr e) = let n = sizes.2 in (i, omega arith, inr (e ∙ sym (until i l)))

  old-passes : Accepted g → OldAccepted f
  old-passes a = let o = good-all.0 a.good in record { head = h; good = o; few = omega (arith, a.few, same_ends o) }

  new-passes : OldAccepted f → Accepted g
  new-passes a = record { head = new-head; good = good-all.1 a.good; few = omega (arith, a.few, same_ends a.good) }

  old-refused : {n p : ℕ} → Refused g n p → OldRefused f n p
  old-refused (short l) = absurd (omega (arith, new-head.six))
  old-refused (limits l n) = absurd (n new-head.limits)
  old-refused (wrong_length l m n) = absurd (n new-head.whole)
  old-refused (kind i r k) = let o = (reached i).0 r in old_kind i o (omega (arith, kind-same i o.below))
  old-refused (range i r k n) =
      let o = (reached i).0 r in
      let l = o.below in
      old_range i o (omega (arith, kind-same i l)) (λ s. n ((ranges i l).1 s))
  old-refused (unused i r k s n) =
      let o = (reached i).0 r in
      let l = o.below in
      old_unused i o (omega (arith, kind-same i l)) ((ranges i l).0 s) (λ z. n ((zeros i l).1 z))
  old-refused (period i r k s z u) =
      let o = (reached i).0 r in
      let l = o.below in
      old_undated i o (omega (arith, kind-same i l)) ((ranges i l).0 s) ((zeros i l).0 z) ((not-dated i l).0 u)
  old-refused (serial i r k s z d t) =
      absurd (not_taken g i (fresh f few h.whole small i ((reached i).0 r).below) (taken_in g i t))
  old-refused (too_many_ends l a m) = let o = good-all.0 a in old_too_many_ends h o (omega (arith, same_ends o))

  new-refused : {n p : ℕ} → OldRefused f n p → Refused g n p
  new-refused (old_short l) = absurd (omega (arith, h.six))
  new-refused (old_limits l n) = absurd (n h.limits)
  new-refused (old_wrong_length l m n) = absurd (n h.whole)
  new-refused (old_kind i o k) = kind i ((reached i).1 o) (omega (arith, kind-same i o.below))
  new-refused (old_range i o k n) = let l = o.below in range i ((reached i).1 o) (omega (arith, kind-same i l)) (λ s. n ((ranges i l).0 s))
  new-refused (old_unused i o k s n) =
      let l = o.below in
      unused i ((reached i).1 o) (omega (arith, kind-same i l)) ((ranges i l).1 s) (λ z. n ((zeros i l).0 z))
  new-refused (old_undated i o k s z u) =
      let l = o.below in
      period i ((reached i).1 o) (omega (arith, kind-same i l)) ((ranges i l).1 s) ((zeros i l).1 z) ((not-dated i l).1 u)
  new-refused (old_too_many_ends l o m) = too_many_ends new-head (good-all.1 o) (omega (arith, same_ends o))

-- ---- one of the conditions holds

abbrev OldVerdict : List ℕ → Type 0
OldVerdict f = OldAccepted f ⊎ ((n p : ℕ) × OldRefused f n p)

old-verdict : (f : List ℕ) → Bytes f → OldVerdict f
old-verdict f small = by-six (less (length f) 6)
  where
    by-new : OldHead f → Verdict (forward_of f) → OldVerdict f
    by-new h (inl a) = inl (old-passes f small h a)
    by-new h (inr (n, p, r)) = inr (n, p, old-refused f small h r)

    by_length : 6 ≤ length f → Limits f → (length f ≡ old_length (N f)) ⊎ (¬ (length f ≡ old_length (N f))) → OldVerdict f
    by_length s l (inl e) = by-new (record { six = s; limits = l; whole = e }) (verdict (forward_of f))
    by_length s l (inr e) = inr (3, 0, old_wrong_length s l e)

    by-limits : 6 ≤ length f → Limits f ⊎ (¬ Limits f) → OldVerdict f
    by-limits s (inl l) = by_length s l (by-test (eqb (length f) (old_length (N f))) (eqb→eq _ _) (eq-in _ _))
    by-limits s (inr l) = inr (2, 0, old_limits s l)

    by-six : (length f < 6) ⊎ (6 ≤ length f) → OldVerdict f
    by-six (inl l) = inr (1, 0, old_short l)
    by-six (inr s) = by-limits s (by-test (limits_test f) (limits-out f) (limits-in f))

-- ---- the conditions give the refusals

module _ (f : List ℕ) (small : Bytes f) where
  abbrev Given : List RefusalRow → ℕ → ℕ → Type 0
  Given rows n p = ◌≡◌ {A = Outcome ℕ} (first rows 0) (refused n p)

  abbrev length_row : RefusalRow
  length_row = 3 when (not (eqb (length f) (old_length (N f))))

  abbrev rest : List RefusalRow
  rest = each (old_credential_rows f) (below (N f)) ++ 8 when (ltb 64 (length (ends (old_credentials f)))) ∷ []

  -- where the head passes, as for the new bytes
  passed_over : OldHead f → {n p : ℕ} → OldRefused f n p → Given (old_reading f) n p
  passed_over h r = sym (same-reading f h.limits.credentials h.whole small 0) ∙ refused-read 0 (forward_of f) (new-refused f small h r)

  refusal-given : {n p : ℕ} → OldRefused f n p → Given (old_reading f) n p
  unfolding old_reading
  refusal-given (old_short l) = give 0 (short_row f) (limits_row f ∷ length_row ∷ rest) (lt→ltb (length f) 6 l)
  refusal-given (old_limits s n) =
      short-passes 0 f s (limits_row f ∷ length_row ∷ rest) ∙ give 0 (limits_row f) (length_row ∷ rest) (not_T (limits_test f) (λ t. n (limits-out f t)))
  refusal-given (old_wrong_length s l n) =
      short-passes 0 f s (limits_row f ∷ length_row ∷ rest) ∙ limits-pass 0 f l (length_row ∷ rest)
      ∙ give 0 length_row rest (not_T (eqb (length f) (old_length (N f))) (λ t. n (eqb→eq _ _ t)))
  refusal-given (old_kind i o k) = passed_over o.head (old_kind i o k)
  refusal-given (old_range i o k n) = passed_over o.head (old_range i o k n)
  refusal-given (old_unused i o k s n) = passed_over o.head (old_unused i o k s n)
  refusal-given (old_undated i o k s z u) = passed_over o.head (old_undated i o k s z u)
  refusal-given (old_too_many_ends h o l) = passed_over h (old_too_many_ends h o l)

  none-given : OldAccepted f → OldPasses f
  none-given a =
      let h = a.head in
      sym (same-reading f h.limits.credentials h.whole small 0) ∙ accepted-read 0 (forward_of f) (new-passes f small h a)

  -- ---- exact both ways

  -- what an outcome says
  abbrev Means : Outcome ℕ → Type 0
  Means (done n) = OldAccepted f
  Means (refused n p) = OldRefused f n p

  means : Means (first (old_reading f) 0)
  means = go (old-verdict f small)
    where
      go : OldVerdict f → Means (first (old_reading f) 0)
      go (inl a) = subst⁻¹ Means (none-given a) a
      go (inr (n, p, r)) = subst⁻¹ Means (refusal-given r) r

  pub old-refusals-exact : (n p : ℕ) → ◌≡◌ {A = Outcome ℕ} (first (old_reading f) 0) (refused n p) ↔ OldRefused f n p
  old-refusals-exact n p = (λ e. subst Means e means, refusal-given)

  pub old-accepted-exact : OldPasses f ↔ OldAccepted f
  old-accepted-exact = (λ e. subst Means e means, none-given)

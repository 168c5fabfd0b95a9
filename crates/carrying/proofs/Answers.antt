-- What each way to end answers and leaves.
use mathlib.Core.Path.{◌≡◌, refl, sym, ap, ◌∙◌, subst}
use mathlib.Core.Logic.{◌⊎◌, inl, inr}
use mathlib.Core.Bool.{Bool, true, false, ◌&&◌, not}
use mathlib.Core.List.{List, [], ◌∷◌, ◌++◌}
use Prim.Native.Nat.{ℕ, zero, suc, ◌+◌, ◌*◌, ◌≤◌, ◌<◌}
use native.Mathlib.Omega.{arith}
use lib.Dec.{eqb, ltb}
use lib.ListN.{length}
use borrow.Author.Tests.{eq-eqb, ne_eqb}
use Rattle.meaning.specs.Lists.{each, up_from, below}
use Rattle.file.specs.Refusals.{RefusalRow, Outcome, done, refused, first, ◌when◌, ◌at◌when◌, left}
use Rattle.meaning.specs.Table.{ends}
use Rattle.file.specs.Format.{E, R, N, length_for, serial_of}
use Rattle.file.specs.Reading.{between, reading}
use Rattle.file.specs.Values.{first_number}
use Rattle.file.specs.Conditions.{Accepted, Refused}
use Rattle.file.proofs.First.{after, first-append}
use Rattle.file.proofs.Refusals.{less, accepted-read, refused-read, not-of-file}
use Rattle.old_file.specs.OldFormat.{old_length, old_credentials}
use Rattle.old_file.specs.OldReading.{old_head_rows, old_credential_rows, old_reading}
use Rattle.carrying.specs.Carrying.{forward_of, going_forward, forward_left, back_of, place_rows, going_back, back_left}
use Rattle.carrying.specs.Judging.{OldSized}
use Rattle.carrying.proofs.SameReading.{same_first}

-- a file's refusals leave a list as it was
refused-left : {f : List ℕ} {n p : ℕ} → Refused f n p → (before written : List ℕ) → left {A = ℕ} (refused n p) before written ≡ before
refused-left {f} {n = n} r before written = simp (ne_eqb n 10 (not-of-file f r 10 tt), ne_eqb n 13 (not-of-file f r 13 tt))

module _ {A : Type 0} (f : List ℕ) (more : List RefusalRow) (a : A) where
  pub refused-first : {n p : ℕ} → Refused f n p → first (reading f ++ more) a ≡ refused n p
  refused-first r = first-append (reading f) more a a ∙ ap (λ (o : Outcome A). after o (first more a)) (refused-read a f r)

  pub accepted-first : Accepted f → first (reading f ++ more) a ≡ first more a
  accepted-first c = first-append (reading f) more a a ∙ ap (λ (o : Outcome A). after o (first more a)) (accepted-read a f c)

-- ---- forward

abbrev three : Bool → Bool → Bool → List RefusalRow
three a b c = 1 when a ∷ 2 when b ∷ 3 when c ∷ []

module _ (f out : List ℕ) where
  -- the answer o, with the list l left
  abbrev pub Forwarded : Outcome ℕ → List ℕ → Type 0
  Forwarded o l = (o ≡ going_forward f out) × (l ≡ forward_left f out)

  by-outcome : (o : Outcome ℕ) → going_forward f out ≡ o → Forwarded o (left o out (forward_of f))
  unfolding forward_left
  by-outcome o e = (sym e, ap (λ (x : Outcome ℕ). left x out (forward_of f)) (sym e))

  abbrev eighteen : List RefusalRow
  eighteen = 18 when (not (eqb (length out) (length_for (N f)))) ∷ []

  pub head-refused : (first_number (old_head_rows f) ≡ 0 → ⊥) → Forwarded (refused (first_number (old_head_rows f)) 0) out
  unfolding going_forward forward_left old_reading
  head-refused h =
      go (ltb (length f) 6) (not (between 1 32 (E f) && between 1 32 (R f) && between 0 256 (N f))) (not (eqb (length f) (old_length (N f))))
      (each (old_credential_rows f) (below (N f)) ++ (8 when (ltb 64 (length (ends (old_credentials f)))) ∷ []) ++ eighteen) h
    where
      go : (a b c : Bool) (rest : List RefusalRow) → (first_number (three a b c) ≡ 0 → ⊥)
          → (◌≡◌ {A = Outcome ℕ} (refused (first_number (three a b c)) 0) (first (three a b c ++ rest) (N f))) × (out ≡ left (first (three a b c ++ rest) (N f)) out (forward_of f))
      go true b c rest h = (refl, refl)
      go false true c rest h = (refl, refl)
      go false false true rest h = (refl, refl)
      go false false false rest h = absurd (h refl)

  module _ (n : ℕ) (s : OldSized f n) where
    over : going_forward f out ≡ first (reading (forward_of f) ++ eighteen) (N f)
    unfolding going_forward
    over = same_first f s.few s.long s.small eighteen (N f)

    pub file-refused : {k p : ℕ} → Refused (forward_of f) k p → Forwarded (refused k p) out
    file-refused {k} {p} r =
        let e = by-outcome (refused k p) (over ∙ refused-first (forward_of f) eighteen (N f) r) in
        (e.0, sym (refused-left r out (forward_of f)) ∙ e.1)

    module _ (a : Accepted (forward_of f)) where
      passed : going_forward f out ≡ first eighteen (N f)
      passed = over ∙ accepted-first (forward_of f) eighteen (N f) a

      pub length-refused : (length out ≡ 6 + 20 * n → ⊥) → Forwarded (refused 18 0) out
      length-refused h =
          let d : length out ≡ length_for (N f) → ⊥ = λ e. h (e ∙ ap length_for (sym s.count)) in
          by-outcome (refused 18 0) (passed ∙ ap (λ (b : Bool). first (18 when (not b) ∷ []) (N f)) (ne_eqb _ _ d))

      pub brought-forward : length out ≡ 6 + 20 * n → {l : List ℕ} → l ≡ forward_of f → Forwarded (done n) l
      brought-forward h e =
          let d : length out ≡ length_for (N f) = h ∙ ap length_for s.count in
          let w = by-outcome (done (N f)) (passed ∙ ap (λ (b : Bool). first (18 when (not b) ∷ []) (N f)) (eq-eqb _ _ d)) in
          (ap (λ (m : ℕ). done m) s.count ∙ w.0, e ∙ w.1)

-- ---- back

-- the rows of 19 from s on
module _ (f : List ℕ) (a : ℕ) where
  pub out-of-place-from : (s k p : ℕ) → s ≤ p → p < s + k → ((i : ℕ) → i < p → serial_of f i ≡ i + 1) → (serial_of f p ≡ p + 1 → ⊥)
      → ◌≡◌ {A = Outcome ℕ} (first (each (place_rows f) (up_from s k)) a) (refused 19 p)
  out-of-place-from s zero p l h before off = absurd (omega arith)
  out-of-place-from s (suc k) p l h before off = go (less s p) (λ d. out-of-place-from (suc s) k p d (omega arith) before off)
    where
      go : (s < p) ⊎ (p ≤ s) → (suc s ≤ p → ◌≡◌ {A = Outcome ℕ} (first (each (place_rows f) (up_from (suc s) k)) a) (refused 19 p))
          → ◌≡◌ {A = Outcome ℕ} (first (each (place_rows f) (up_from s (suc k))) a) (refused 19 p)
      go (inl d) rec = ap (λ (b : Bool). first (19 at s when (not b) ∷ each (place_rows f) (up_from (suc s) k)) a) (eq-eqb _ _ (before s d)) ∙ rec d
      go (inr d) rec =
          let e : s ≡ p = omega arith in
          ap (λ (b : Bool). first (19 at s when (not b) ∷ each (place_rows f) (up_from (suc s) k)) a) (ne_eqb _ _ (λ q. off (subst (λ (x : ℕ). serial_of f x ≡ x + 1) e q)))
          ∙ ap (λ (x : ℕ). refused 19 x) e

  pub all-in-place : (s k : ℕ) → ((i : ℕ) → s ≤ i → i < s + k → serial_of f i ≡ i + 1) → ◌≡◌ {A = Outcome ℕ} (first (each (place_rows f) (up_from s k)) a) (done a)
  all-in-place s zero h = refl
  all-in-place s (suc k) h =
      ap (λ (b : Bool). first (19 at s when (not b) ∷ each (place_rows f) (up_from (suc s) k)) a) (eq-eqb _ _ (h s (omega arith) (omega arith)))
      ∙ all-in-place (suc s) k (λ i l m. h i (omega arith) (omega arith))

module _ (f out : List ℕ) where
  abbrev pub WentBack : Outcome ℕ → List ℕ → Type 0
  WentBack o l = (o ≡ going_back f out) × (l ≡ back_left f out)

  back_by : (o : Outcome ℕ) → going_back f out ≡ o → WentBack o (left o out (back_of f))
  unfolding back_left
  back_by o e = (sym e, ap (λ (x : Outcome ℕ). left x out (back_of f)) (sym e))

  abbrev pub nineteens : List RefusalRow
  nineteens = each (place_rows f) (below (N f))

  abbrev pub after8 : List RefusalRow
  after8 = 18 when (not (eqb (length out) (old_length (N f)))) ∷ nineteens

  pub back-refused : {k p : ℕ} → Refused f k p → WentBack (refused k p) out
  unfolding going_back
  back-refused {k} {p} r =
      let e = back_by (refused k p) (refused-first f _ (N f) r) in
      (e.0, sym (refused-left r out (back_of f)) ∙ e.1)

  module _ (a : Accepted f) where
    back-passed : going_back f out ≡ first after8 (N f)
    unfolding going_back
    back-passed = accepted-first f after8 (N f) a

    pub back-unlike : (length out ≡ old_length (N f) → ⊥) → WentBack (refused 18 0) out
    back-unlike h = back_by (refused 18 0) (back-passed ∙ ap (λ (b : Bool). first (18 when (not b) ∷ nineteens) (N f)) (ne_eqb _ _ h))

    module _ (alike : length out ≡ old_length (N f)) where
      back_fits : going_back f out ≡ first nineteens (N f)
      back_fits = back-passed ∙ ap (λ (b : Bool). first (18 when (not b) ∷ nineteens) (N f)) (eq-eqb _ _ alike)

      pub back-out-of-place : (p : ℕ) → p < N f → ((i : ℕ) → i < p → serial_of f i ≡ i + 1) → (serial_of f p ≡ p + 1 → ⊥) → WentBack (refused 19 p) out
      back-out-of-place p l before off = back_by (refused 19 p) (back_fits ∙ out-of-place-from f (N f) 0 (N f) p (omega arith) (omega arith) before off)

      pub brought-back : ((i : ℕ) → i < N f → serial_of f i ≡ i + 1) → {l : List ℕ} → l ≡ back_of f → WentBack (done (N f)) l
      brought-back h e =
          let w = back_by (done (N f)) (back_fits ∙ all-in-place f (N f) 0 (N f) (λ i l m. h i (omega arith))) in
          (w.0, e ∙ w.1)

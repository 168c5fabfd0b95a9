-- When the two calls pass and when they refuse, both ways, and what they leave then.
use mathlib.Core.Path.{◌≡◌, refl, sym, ap, ◌∙◌, subst, subst⁻¹}
use mathlib.Core.Logic.{◌⊎◌, inl, inr, ◌↔◌, dite}
use mathlib.Core.Bool.{Bool, not}
use mathlib.Core.List.{List, [], ◌∷◌}
use Prim.Native.Nat.{ℕ, zero, suc, ◌+◌, ◌≤◌, ◌<◌}
use native.Mathlib.Omega.{arith}
use native.Mathlib.Decide.{ℕ_discrete}
use lib.ListN.{length}
use lib.Dec.{eqb}
use borrow.Author.Tests.{eq-eqb, ne_eqb}
use Rattle.file.specs.Refusals.{RefusalRow, Outcome, done, refused, first, ◌when◌, left}
use Rattle.file.specs.Format.{N, length_for, serial_of}
use Rattle.file.specs.Conditions.{Accepted}
use Rattle.file.proofs.First.{after, first-append, first_any}
use Rattle.file.proofs.Refusals.{Verdict, verdict, less, not-of-file}
use Rattle.codec.specs.ByteLists.{Bytes}
use Rattle.old_file.specs.OldFormat.{old_length}
use Rattle.old_file.specs.OldReading.{old_reading, OldPasses}
use Rattle.old_file.specs.OldConditions.{OldAccepted}
use Rattle.old_file.proofs.Given.{given-low}
use Rattle.carrying.specs.Carrying.{forward_of, going_forward, forward_left, back_of, going_back, back_left}
use Rattle.carrying.specs.Conditions.{RefusedForward, old_file, other_new_length, InPlace, FirstOutOfPlace, RefusedBack, new_file, other_old_length, out_of_place}
use Rattle.carrying.proofs.OldExact.{old-refusals-exact, old-accepted-exact}
use Rattle.carrying.proofs.Answers.{back-refused, back-unlike, back-out-of-place, brought-back}

-- a refusal that is neither 10 nor 13 leaves a list as it was
kept_by : (n p : ℕ) (before written : List ℕ) → (n ≡ 10 → ⊥) → (n ≡ 13 → ⊥) → left {A = ℕ} (refused n p) before written ≡ before
kept_by n p before written ten thirteen = simp (ne_eqb n 10 ten, ne_eqb n 13 thirteen)

module _ (f out : List ℕ) where
  -- ---- forward

  abbrev eighteen : List RefusalRow
  eighteen = 18 when (not (eqb (length out) (length_for (N f)))) ∷ []

  own_first : {o : Outcome ℕ} → first (old_reading f) 0 ≡ o → going_forward f out ≡ after {A = ℕ} {B = ℕ} o (first eighteen (N f))
  unfolding going_forward
  own_first e =
      first-append {A = ℕ} {B = ℕ} (old_reading f) eighteen 0 (N f)
      ∙ ap (λ (x : Outcome ℕ). after {A = ℕ} {B = ℕ} x (first eighteen (N f))) e

  when-unlike : OldPasses f → (length out ≡ length_for (N f) → ⊥) → going_forward f out ≡ refused 18 0
  when-unlike a q = own_first a ∙ ap (λ (b : Bool). first (18 when (not b) ∷ []) (N f)) (ne_eqb _ _ q)

  when-alike : OldPasses f → length out ≡ length_for (N f) → going_forward f out ≡ done (N f)
  when-alike a q = own_first a ∙ ap (λ (b : Bool). first (18 when (not b) ∷ []) (N f)) (eq-eqb _ _ q)

  pub forward-leaves : (n : ℕ) → going_forward f out ≡ done n → forward_left f out ≡ forward_of f
  unfolding forward_left
  forward-leaves n e = ap (λ (o : Outcome ℕ). left o out (forward_of f)) e

  module _ (small : Bytes f) where
    -- what an answer says
    abbrev ForwardMeans : Outcome ℕ → Type 0
    ForwardMeans (done n) = OldAccepted f × (length out ≡ length_for (N f)) × (n ≡ N f)
    ForwardMeans (refused n p) = RefusedForward f out n p

    forward-means : ForwardMeans (going_forward f out)
    forward-means = go (first (old_reading f) 0) refl
      where
        go : (o : Outcome ℕ) → first (old_reading f) 0 ≡ o → ForwardMeans (going_forward f out)
        go (refused n p) e = subst⁻¹ ForwardMeans (own_first e) (old_file ((old-refusals-exact f small n p).0 e))
        go (done m) e =
            let r : OldPasses f = first_any {A = ℕ} {B = ℕ} (old_reading f) 0 0 ∙ ap (λ (o : Outcome ℕ). after {A = ℕ} {B = ℕ} o (done 0)) e in
            let a = (old-accepted-exact f small).0 r in
            dite (ℕ_discrete (length out) (length_for (N f)))
            (λ q. subst⁻¹ ForwardMeans (when-alike r q) (a, q, refl))
            (λ q. subst⁻¹ ForwardMeans (when-unlike r q) (other_new_length a q))

    pub forward-refused : (n p : ℕ) → going_forward f out ≡ refused n p ↔ RefusedForward f out n p
    forward-refused n p = (λ e. subst ForwardMeans e forward-means, into)
      where
        into : {n p : ℕ} → RefusedForward f out n p → going_forward f out ≡ refused n p
        into {n} {p} (old_file r) = own_first ((old-refusals-exact f small n p).1 r)
        into (other_new_length a q) = when-unlike ((old-accepted-exact f small).1 a) q

    pub forward-passed : (n : ℕ) → going_forward f out ≡ done n ↔ (OldAccepted f × (length out ≡ length_for (N f)) × (n ≡ N f))
    forward-passed n = (λ e. subst ForwardMeans e forward-means, λ w. when-alike ((old-accepted-exact f small).1 w.0) w.1 ∙ ap (λ (m : ℕ). done m) (sym w.2))

    pub forward-kept : (n p : ℕ) → going_forward f out ≡ refused n p → forward_left f out ≡ out
    unfolding forward_left
    forward-kept n p e = ap (λ (o : Outcome ℕ). left o out (forward_of f)) e ∙ go ((forward-refused n p).0 e)
      where
        go : {n p : ℕ} → RefusedForward f out n p → left {A = ℕ} (refused n p) out (forward_of f) ≡ out
        go {n} {p} (old_file r) = let l = given-low f n p ((old-refusals-exact f small n p).1 r) in kept_by n p out (forward_of f) (λ q. absurd (omega arith)) (λ q. absurd (omega arith))
        go (other_new_length a q) = refl

    pub eighteen-forward : going_forward f out ≡ refused 18 0 ↔ (OldAccepted f × ¬ (length out ≡ length_for (N f)))
    eighteen-forward = (λ e. go ((forward-refused 18 0).0 e) refl, λ w. when-unlike ((old-accepted-exact f small).1 w.0) w.1)
      where
        go : {n p : ℕ} → RefusedForward f out n p → n ≡ 18 → OldAccepted f × ¬ (length out ≡ length_for (N f))
        go {n} {p} (old_file r) q = let l = given-low f n p ((old-refusals-exact f small n p).1 r) in absurd (omega arith)
        go (other_new_length a w) q = (a, w)

  -- ---- back

  placing : (n : ℕ) → ((i : ℕ) → i < n → serial_of f i ≡ i + 1)
      ⊎ ((i : ℕ) × (i < n) × ((j : ℕ) → j < i → serial_of f j ≡ j + 1) × (serial_of f i ≡ i + 1 → ⊥))
  placing zero = inl (λ i l. absurd (omega arith))
  placing (suc n) = go (placing n)
    where
      go : ((i : ℕ) → i < n → serial_of f i ≡ i + 1) ⊎ ((i : ℕ) × (i < n) × ((j : ℕ) → j < i → serial_of f j ≡ j + 1) × (serial_of f i ≡ i + 1 → ⊥))
          → ((i : ℕ) → i < suc n → serial_of f i ≡ i + 1) ⊎ ((i : ℕ) × (i < suc n) × ((j : ℕ) → j < i → serial_of f j ≡ j + 1) × (serial_of f i ≡ i + 1 → ⊥))
      go (inr (i, l, before, here)) = inr (i, omega arith, before, here)
      go (inl h) = dite (ℕ_discrete (serial_of f n) (n + 1)) (λ e. inl (λ i l. with-last e i l (less i n))) (λ e. inr (n, omega arith, h, e))
        where
          with-last : serial_of f n ≡ n + 1 → (i : ℕ) → i < suc n → (i < n) ⊎ (n ≤ i) → serial_of f i ≡ i + 1
          with-last e i l (inl m) = h i m
          with-last e i l (inr m) = let q : n ≡ i = omega arith in subst (λ (x : ℕ). serial_of f x ≡ x + 1) q e

  when-in-place : Accepted f → length out ≡ old_length (N f) → InPlace f → going_back f out ≡ done (N f)
  when-in-place a q h = sym (brought-back f out a q h {l = back_of f} refl).0

  when-out : {i : ℕ} → Accepted f → length out ≡ old_length (N f) → FirstOutOfPlace f i → going_back f out ≡ refused 19 i
  when-out {i} a q w = sym (back-out-of-place f out a q i w.within w.before w.out).0

  abbrev BackMeans : Outcome ℕ → Type 0
  BackMeans (done n) = Accepted f × (length out ≡ old_length (N f)) × InPlace f × (n ≡ N f)
  BackMeans (refused n p) = RefusedBack f out n p

  back-means : BackMeans (going_back f out)
  back-means = go (verdict f)
    where
      by_place : Accepted f → length out ≡ old_length (N f)
          → InPlace f ⊎ ((i : ℕ) × (i < N f) × ((j : ℕ) → j < i → serial_of f j ≡ j + 1) × (serial_of f i ≡ i + 1 → ⊥)) → BackMeans (going_back f out)
      by_place a q (inl h) = subst⁻¹ BackMeans (when-in-place a q h) (a, q, h, refl)
      by_place a q (inr (i, l, before, here)) =
          let w : FirstOutOfPlace f i = record { within = l; before = before; out = here } in
          subst⁻¹ BackMeans (when-out a q w) (out_of_place a q w)

      go : Verdict f → BackMeans (going_back f out)
      go (inr (k, p, r)) = subst⁻¹ BackMeans (sym (back-refused f out r).0) (new_file r)
      go (inl a) =
          dite (ℕ_discrete (length out) (old_length (N f)))
          (λ q. by_place a q (placing (N f)))
          (λ q. subst⁻¹ BackMeans (sym (back-unlike f out a q).0) (other_old_length a q))

  pub back-refused-exactly : (n p : ℕ) → going_back f out ≡ refused n p ↔ RefusedBack f out n p
  back-refused-exactly n p = (λ e. subst BackMeans e back-means, into)
    where
      into : {n p : ℕ} → RefusedBack f out n p → going_back f out ≡ refused n p
      into (new_file r) = sym (back-refused f out r).0
      into (other_old_length a q) = sym (back-unlike f out a q).0
      into (out_of_place a q w) = when-out a q w

  pub back-passed-exactly : (n : ℕ) → going_back f out ≡ done n ↔ (Accepted f × (length out ≡ old_length (N f)) × InPlace f × (n ≡ N f))
  back-passed-exactly n = (λ e. subst BackMeans e back-means, λ w. when-in-place w.0 w.1 w.2 ∙ ap (λ (m : ℕ). done m) (sym w.3))

  pub back-leaves : (n : ℕ) → going_back f out ≡ done n → back_left f out ≡ back_of f
  unfolding back_left
  back-leaves n e = ap (λ (o : Outcome ℕ). left o out (back_of f)) e

  pub back-kept : (n p : ℕ) → going_back f out ≡ refused n p → back_left f out ≡ out
  unfolding back_left
  back-kept n p e = ap (λ (o : Outcome ℕ). left o out (back_of f)) e ∙ go ((back-refused-exactly n p).0 e)
    where
      go : {n p : ℕ} → RefusedBack f out n p → left {A = ℕ} (refused n p) out (back_of f) ≡ out
      go {n} {p} (new_file r) = kept_by n p out (back_of f) (not-of-file f r 10 tt) (not-of-file f r 13 tt)
      go (other_old_length a q) = refl
      go (out_of_place a q w) = refl

  pub eighteen-back : going_back f out ≡ refused 18 0 ↔ (Accepted f × ¬ (length out ≡ old_length (N f)))
  eighteen-back = (λ e. go ((back-refused-exactly 18 0).0 e) refl, λ w. sym (back-unlike f out w.0 w.1).0)
    where
      go : {n p : ℕ} → RefusedBack f out n p → n ≡ 18 → Accepted f × ¬ (length out ≡ old_length (N f))
      go (new_file r) q = absurd (not-of-file f r 18 tt q)
      go (other_old_length a w) q = (a, w)
      go (out_of_place a l w) q = absurd (omega arith)

  pub nineteen-exact : (i : ℕ) → going_back f out ≡ refused 19 i ↔ (Accepted f × (length out ≡ old_length (N f)) × FirstOutOfPlace f i)
  nineteen-exact i = (λ e. go ((back-refused-exactly 19 i).0 e) refl, λ w. when-out w.0 w.1 w.2)
    where
      go : {n p : ℕ} → RefusedBack f out n p → n ≡ 19 → Accepted f × (length out ≡ old_length (N f)) × FirstOutOfPlace f p
      go (new_file r) q = absurd (not-of-file f r 19 tt q)
      go (other_old_length a w) q = absurd (omega arith)
      go (out_of_place a l w) q = (a, l, w)

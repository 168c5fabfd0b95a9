-- The tests of 20 and 21 hold exactly under the documents' conditions.
use mathlib.Core.Path.{◌≡◌}
use mathlib.Core.Logic.{◌⊎◌, inl, inr}
use mathlib.Core.Bool.{Bool, true, false, ◌||◌, not}
use mathlib.Core.List.{List}
use Prim.Native.Nat.{ℕ, ◌<◌, ◌≤◌}
use native.Mathlib.Omega.{arith}
use lib.Dec.{T, eqb, ltb, eqb→eq, lt→ltb, ltb→lt, T_not, not_T}
use lib.ListN.{length}
use Rattle.meaning.specs.Lists.{below}
use Rattle.meaning.proofs.Tests.{eq-in, any-in, any_out, or_left, or_right, or_cases, is_true, is_false}
use Rattle.meaning.proofs.ListLaws.{below_in, below_out}
use Rattle.file.specs.Format.{N, serial_of}
use Rattle.file.proofs.Refusals.{by-test, less}
use Rattle.withdrawals.specs.List.{count, bytes_for, serial_at, misshapen, repeated, known, unfounded}
use Rattle.withdrawals.specs.Source.{◌without◌}
use Rattle.withdrawals.specs.Conditions.{Shaped, Misshapen, Founded, Twice, Unknown}

-- ---- 20

module _ (w : List ℕ) where
  abbrev short : Bool
  short = ltb (length w) 2

  abbrev many : Bool
  many = ltb 256 (count w)

  abbrev other : Bool
  other = not (eqb (length w) (bytes_for (count w)))

  pub misshapen-in : Misshapen w → T (misshapen w)
  misshapen-in (inl h) = or_left short (many || other) (lt→ltb _ _ h)
  misshapen-in (inr (inl h)) = or_right short (many || other) (or_left many other (lt→ltb _ _ h))
  misshapen-in (inr (inr h)) = or_right short (many || other) (or_right many other (not_T (eqb (length w) (bytes_for (count w))) (λ t. h (eqb→eq _ _ t))))

  pub not-misshapen : Shaped w → ¬ T (misshapen w)
  not-misshapen s t = go (or_cases short (many || other) t)
    where
      late : T many ⊎ T other → ⊥
      late (inl h) = let a = ltb→lt 256 (count w) h in let b = s.few in absurd (omega arith)
      late (inr h) = T_not (eqb (length w) (bytes_for (count w))) h (eq-in _ _ s.whole)

      go : T short ⊎ T (many || other) → ⊥
      go (inl h) = let a = ltb→lt (length w) 2 h in let b = s.two in absurd (omega arith)
      go (inr h) = late (or_cases many other h)

  pub misshapen-true : Misshapen w → misshapen w ≡ true
  misshapen-true m = is_true _ (misshapen-in m)

  pub misshapen-false : Shaped w → misshapen w ≡ false
  misshapen-false s = is_false _ (not-misshapen s)

  pub shaped-or-not : Shaped w ⊎ Misshapen w
  shaped-or-not = by_two (less (length w) 2)
    where
      by_length : 2 ≤ length w → count w ≤ 256 → (length w ≡ bytes_for (count w)) ⊎ (¬ (length w ≡ bytes_for (count w))) → Shaped w ⊎ Misshapen w
      by_length t f (inl e) = inl (record { two = t; few = f; whole = e })
      by_length t f (inr n) = inr (inr (inr n))

      by_count : 2 ≤ length w → (256 < count w) ⊎ (count w ≤ 256) → Shaped w ⊎ Misshapen w
      by_count t (inl h) = inr (inr (inl h))
      by_count t (inr f) = by_length t f (by-test (eqb (length w) (bytes_for (count w))) (eqb→eq _ _) (eq-in _ _))

      by_two : (length w < 2) ⊎ (2 ≤ length w) → Shaped w ⊎ Misshapen w
      by_two (inl h) = inr (inl h)
      by_two (inr t) = by_count t (less 256 (count w))

-- ---- 21

module _ (f w : List ℕ) where
  abbrev wrong : ℕ → Bool
  wrong k = repeated w k || not (known f (serial_at w k))

  repeated-out : (k : ℕ) → T (repeated w k) → (j : ℕ) × (j < k) × (serial_at w j ≡ serial_at w k)
  repeated-out k t =
      let (j, m, e) = any_out (λ i. eqb (serial_at w i) (serial_at w k)) (below k) t in
      (j, below_out k m, eqb→eq _ _ e)

  repeated-in : (j k : ℕ) → j < k → serial_at w j ≡ serial_at w k → T (repeated w k)
  repeated-in j k l e = any-in (λ i. eqb (serial_at w i) (serial_at w k)) (below_in k j l) (eq-in _ _ e)

  known_in : (s i : ℕ) → i < N f → serial_of f i ≡ s → T (known f s)
  known_in s i l e = any-in (λ j. eqb (serial_of f j) s) (below_in (N f) i l) (eq-in _ _ e)

  known_out : (s : ℕ) → T (known f s) → (i : ℕ) × (i < N f) × (serial_of f i ≡ s)
  known_out s t = let (i, m, e) = any_out (λ j. eqb (serial_of f j) s) (below (N f)) t in (i, below_out (N f) m, eqb→eq _ _ e)

  pub unfounded-in : Twice w ⊎ Unknown (f without w) → T (unfounded f w)
  unfounded-in (inl (j, k, l, m, e)) = any-in wrong (below_in (count w) k m) (or_left (repeated w k) _ (repeated-in j k l e))
  unfounded-in (inr (k, m, n)) =
      any-in wrong (below_in (count w) k m)
      (or_right (repeated w k) _ (not_T (known f (serial_at w k)) (λ t. let (i, l, e) = known_out (serial_at w k) t in n i l e)))

  pub not-unfounded : Founded (f without w) → ¬ T (unfounded f w)
  not-unfounded d t = let (k, m, u) = any_out wrong (below (count w)) t in go k (below_out (count w) m) (or_cases (repeated w k) _ u)
    where
      go : (k : ℕ) → k < count w → T (repeated w k) ⊎ T (not (known f (serial_at w k))) → ⊥
      go k l (inl r) = let (j, m, e) = repeated-out k r in d.once j k m l e
      go k l (inr r) = let (i, m, e) = d.known k l in T_not (known f (serial_at w k)) r (known_in (serial_at w k) i m e)

  pub unfounded-true : Twice w ⊎ Unknown (f without w) → unfounded f w ≡ true
  unfounded-true u = is_true _ (unfounded-in u)

  pub unfounded-false : Founded (f without w) → unfounded f w ≡ false
  unfounded-false d = is_false _ (not-unfounded d)

  pub founded-or-not : Founded (f without w) ⊎ (Twice w ⊎ Unknown (f without w))
  founded-or-not = go (by-test (unfounded f w) (λ t. t) (λ t. t))
    where
      out : (k : ℕ) → k < count w → T (repeated w k) ⊎ T (not (known f (serial_at w k))) → Twice w ⊎ Unknown (f without w)
      out k l (inl r) = let (j, m, e) = repeated-out k r in inl (j, k, m, l, e)
      out k l (inr r) = inr (k, l, λ i m e. T_not (known f (serial_at w k)) r (known_in (serial_at w k) i m e))

      found : (k : ℕ) → k < count w → ¬ T (unfounded f w) → T (known f (serial_at w k)) ⊎ (¬ T (known f (serial_at w k))) → (i : ℕ) × (i < N f) × (serial_of f i ≡ serial_at w k)
      found k l n (inl t) = known_out (serial_at w k) t
      found k l n (inr t) = absurd (n (any-in wrong (below_in (count w) k l) (or_right (repeated w k) _ (not_T (known f (serial_at w k)) t))))

      go : T (unfounded f w) ⊎ (¬ T (unfounded f w)) → Founded (f without w) ⊎ (Twice w ⊎ Unknown (f without w))
      go (inl t) = let (k, m, u) = any_out wrong (below (count w)) t in inr (out k (below_out (count w) m) (or_cases (repeated w k) _ u))
      go (inr n) = inl (record {
        known = λ k l. found k l n (by-test (known f (serial_at w k)) (λ t. t) (λ t. t));
        once = λ j k l m e. n (any-in wrong (below_in (count w) k m) (or_left (repeated w k) _ (repeated-in j k l e)));
      })

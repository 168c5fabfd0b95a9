-- 20, 21 and 8 written out; what a credential covers; and the list of count 0.
use mathlib.Core.Path.{◌≡◌, refl, sym, ◌∙◌, subst, subst⁻¹}
use mathlib.Core.Logic.{◌⊎◌, inl, inr, ◌↔◌, dite}
use mathlib.Core.List.{List}
use Prim.Native.Nat.{ℕ, ◌+◌, ◌<◌, ◌≤◌}
use native.Mathlib.Omega.{arith}
use native.Mathlib.Decide.{ℕ_discrete}
use lib.Dec.{T}
use lib.ListN.{length}
use Rattle.meaning.specs.Credentials.{Period, covers}
use Rattle.meaning.specs.Table.{ends}
use Rattle.meaning.proofs.Spans.{covers-in, covers_out}
use Rattle.file.specs.Refusals.{Outcome, refused}
use Rattle.file.specs.Format.{serial_of, from_of, to_of, period_of}
use Rattle.file.specs.Reading as Reading
use Rattle.file.specs.Conditions as File
use Rattle.file.proofs.Refusals as FileRefusals
use Rattle.withdrawals.specs.List.{count, serial_at, minute_at, none}
use Rattle.withdrawals.specs.Cut.{cut}
use Rattle.withdrawals.specs.Source.{Source, ◌without◌, N, credential_in, credentials, read}
use Rattle.withdrawals.specs.Conditions.{Shaped, Misshapen, Founded, Twice, Unknown, Readable, Accepted, Refused, file, list, serials, too_many_ends}
use Rattle.withdrawals.proofs.Refusals.{refused-exact, accepted-exact}
use Rattle.withdrawals.proofs.Cuts.{cut-minutes, cut-once, cut-none}
use Rattle.withdrawals.proofs.Credentials.{none_read}
use Rattle.withdrawals.proofs.Ends.{period-in}

module _ (s : Source) where
  twenty-out : {n q : ℕ} → Refused s n q → n ≡ 20 → (q ≡ 0) × Readable s × Misshapen s.withdrawals
  twenty-out (file r h) e = let k = FileRefusals.not-of-file s.file r 20 tt in absurd (k e)
  twenty-out (list r m) e = (refl, r, m)
  twenty-out (serials r h u) e = absurd (omega arith)
  twenty-out (too_many_ends r h d l) e = absurd (omega arith)

  twenty-one-out : {n q : ℕ} → Refused s n q → n ≡ 21 → (q ≡ 0) × Readable s × Shaped s.withdrawals × (Twice s.withdrawals ⊎ Unknown s)
  twenty-one-out (file r h) e = let k = FileRefusals.not-of-file s.file r 21 tt in absurd (k e)
  twenty-one-out (list r m) e = absurd (omega arith)
  twenty-one-out (serials r h u) e = (refl, r, h, u)
  twenty-one-out (too_many_ends r h d l) e = absurd (omega arith)

  eight-out : {n q : ℕ} → Refused s n q → n ≡ 8 → (q ≡ 0) × Readable s × Shaped s.withdrawals × Founded s × (64 < length (ends (credentials s)))
  eight-out (file r h) e = absurd (h e)
  eight-out (list r m) e = absurd (omega arith)
  eight-out (serials r h u) e = absurd (omega arith)
  eight-out (too_many_ends r h d l) e = (refl, r, h, d, l)

  module _ {A : Type 0} (a : A) where
    at : (n q : ℕ) → q ≡ 0 → Refused s n 0 → ◌≡◌ {A = Outcome A} (read s a) (refused n q)
    at n q z r = (refused-exact a s n q).1 (subst⁻¹ (Refused s n) z r)

    pub twenty-exact : (q : ℕ) → ◌≡◌ {A = Outcome A} (read s a) (refused 20 q) ↔ ((q ≡ 0) × Readable s × Misshapen s.withdrawals)
    twenty-exact q = ((λ e. twenty-out ((refused-exact a s 20 q).0 e) refl), λ (z, r, m). at 20 q z (list r m))

    pub twenty-one-exact : (q : ℕ) → ◌≡◌ {A = Outcome A} (read s a) (refused 21 q)
        ↔ ((q ≡ 0) × Readable s × Shaped s.withdrawals × (Twice s.withdrawals ⊎ Unknown s))
    twenty-one-exact q = ((λ e. twenty-one-out ((refused-exact a s 21 q).0 e) refl), λ (z, r, h, u). at 21 q z (serials r h u))

    pub eight-exact : (q : ℕ) → ◌≡◌ {A = Outcome A} (read s a) (refused 8 q)
        ↔ ((q ≡ 0) × Readable s × Shaped s.withdrawals × Founded s × (64 < length (ends (credentials s))))
    eight-exact q = ((λ e. eight-out ((refused-exact a s 8 q).0 e) refl), λ (z, r, h, d, l). at 8 q z (too_many_ends r h d l))

  abbrev Before : ℕ → ℕ → Type 0
  Before i m = (k : ℕ) → k < count s.withdrawals → serial_at s.withdrawals k ≡ serial_of s.file i → m < minute_at s.withdrawals k

  pub source-covers : Readable s → (i : ℕ) → i < N s → (m : ℕ) → T (covers (credential_in s i).period m)
      ↔ ((from_of s.file i ≤ m) × (m ≤ to_of s.file i) × Before i m)
  source-covers r i l m =
      let v : Period = period_of s.file i in
      let c = cut-minutes s.withdrawals (serial_of s.file i) v (count s.withdrawals) m in
      subst⁻¹ (λ (x : Period). T (covers x m) ↔ ((from_of s.file i ≤ m) × (m ≤ to_of s.file i) × Before i m)) (period-in s r i l) (
        (λ t. let (u, h) = c.0 t in let o : (from_of s.file i ≤ m) × (m < to_of s.file i + 1) = covers_out v m u in let b = o.1 in (o.0, omega arith, h)),
        λ (a, b, h). c.1 (covers-in v m a (omega arith), h),
      )

  module _ (r : Readable s) (d : Founded s) where
    abbrev w : List ℕ
    w = s.withdrawals

    pub period-of-withdrawal : (i k : ℕ) → i < N s → k < count w → serial_at w k ≡ serial_of s.file i
        → (credential_in s i).period ≡ cut (period_of s.file i) (minute_at w k)
    period-of-withdrawal i k l m e =
        period-in s r i l ∙ cut-once w (serial_of s.file i) (period_of s.file i) (count w) k m e (λ j b n q. other j b n (q ∙ sym e) (FileRefusals.less j k))
      where
        other : (j : ℕ) → j < count w → ¬ (j ≡ k) → serial_at w j ≡ serial_at w k → (j < k) ⊎ (k ≤ j) → ⊥
        other j b n q (inl h) = d.once j k h m q
        other j b n q (inr h) = d.once k j (dite (ℕ_discrete j k) (λ z. absurd (n z)) (λ z. omega arith)) b (sym q)

    pub period-untouched : (i : ℕ) → i < N s → ((k : ℕ) → k < count w → ¬ (serial_at w k ≡ serial_of s.file i)) → (credential_in s i).period ≡ period_of s.file i
    period-untouched i l h = period-in s r i l ∙ cut-none w (serial_of s.file i) (period_of s.file i) (count w) h

  -- no credential has serial 0
  pub zero-unknown : Readable s → (k : ℕ) → k < count s.withdrawals → serial_at s.withdrawals k ≡ 0 → Unknown s
  zero-unknown r k l z = (k, l, λ i m e. (r.good i m).serial.some (e ∙ z))

-- ---- nothing withdrawn

module _ (f : List ℕ) where
  same : ◌≡◌ {A = Outcome ℕ} (read (f without none) 0) (Reading.read f 0)
  same = none_read f {A = ℕ} 0

  pub uncut-accepted : Accepted (f without none) ↔ File.Accepted f
  uncut-accepted = (
    (λ c. (FileRefusals.accepted-exact {A = ℕ} 0 f).0 (sym same ∙ (accepted-exact {A = ℕ} 0 (f without none)).1 c)),
    λ c. (accepted-exact {A = ℕ} 0 (f without none)).0 (same ∙ (FileRefusals.accepted-exact {A = ℕ} 0 f).1 c),
  )

  pub uncut-refused : (n q : ℕ) → Refused (f without none) n q ↔ File.Refused f n q
  uncut-refused n q = (
    (λ r. (FileRefusals.refused-exact {A = ℕ} 0 f n q).0 (sym same ∙ (refused-exact {A = ℕ} 0 (f without none) n q).1 r)),
    λ r. (refused-exact {A = ℕ} 0 (f without none) n q).0 (same ∙ (FileRefusals.refused-exact {A = ℕ} 0 f n q).1 r),
  )

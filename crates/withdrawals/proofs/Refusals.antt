-- Refusals 1 to 8, 17, 20 and 21 of a file with a withdrawal list are given exactly under the documents' conditions.
use mathlib.Core.Path.{◌≡◌, ◌∙◌, subst}
use mathlib.Core.Logic.{◌⊎◌, inl, inr, ◌↔◌, dite}
use mathlib.Core.Bool.{not, ◌||◌}
use mathlib.Core.List.{[], ◌∷◌, ◌++◌}
use Prim.Native.Nat.{ℕ, zero, suc, ◌<◌, ◌≤◌}
use native.Mathlib.Omega.{arith}
use native.Mathlib.Decide.{ℕ_discrete}
use lib.Dec.{T, eqb, ltb→lt, lt→ltb, T_not}
use lib.ListN.{length}
use Rattle.meaning.specs.Table.{ends}
use Rattle.meaning.proofs.Tests.{or_left}
use Rattle.file.specs.Refusals.{RefusalRow, Outcome, done, refused, first, ◌when◌}
use Rattle.file.specs.Reading.{of_file}
use Rattle.file.proofs.Refusals as File
use Rattle.file.proofs.Refusals.{pass, give, less, credentials-pass, refused-before, eight-readable, refused-of-file}
use Rattle.withdrawals.specs.List.{misshapen, unfounded}
use Rattle.withdrawals.specs.Source.{Source, credentials, list_rows, ends_row, reading, read, of_source}
use Rattle.withdrawals.specs.Conditions.{Shaped, Misshapen, Founded, Twice, Unknown, Readable, Accepted, Refused, file, list, serials, too_many_ends}
use Rattle.withdrawals.proofs.Tests.{misshapen-in, not-misshapen, unfounded-in, not-unfounded, shaped-or-not, founded-or-not}

module _ {A : Type 0} (a : A) (s : Source) where
  abbrev shape_row : RefusalRow
  shape_row = 20 when (misshapen s.withdrawals)

  abbrev serials_row : RefusalRow
  serials_row = 21 when (unfounded s.file s.withdrawals)

  -- ---- the conditions give the refusals

  readable-read : Readable s → read s a ≡ first (shape_row ∷ serials_row ∷ ends_row s ∷ []) a
  unfolding reading
  readable-read r = credentials-pass a s.file (list_rows s ++ ends_row s ∷ []) r.head r.good

  shaped-read : Readable s → Shaped s.withdrawals → read s a ≡ first (serials_row ∷ ends_row s ∷ []) a
  shaped-read r h = readable-read r ∙ pass a shape_row (serials_row ∷ ends_row s ∷ []) (not-misshapen s.withdrawals h)

  founded-read : Readable s → Shaped s.withdrawals → Founded s → read s a ≡ first (ends_row s ∷ []) a
  founded-read r h d = shaped-read r h ∙ pass a serials_row (ends_row s ∷ []) (not-unfounded s.file s.withdrawals d)

  pub accepted-read : Accepted s → ◌≡◌ {A = Outcome A} (read s a) (done a)
  accepted-read c =
      founded-read c.readable c.shaped c.founded
      ∙ pass a (ends_row s) [] (λ t. let h = c.few in omega (arith, ltb→lt 64 (length (ends (credentials s))) t))

  pub refused-read : {n p : ℕ} → Refused s n p → ◌≡◌ {A = Outcome A} (read s a) (refused n p)
  unfolding reading
  refused-read (file r n) = refused-before a s.file (list_rows s ++ ends_row s ∷ []) r n
  refused-read (list r m) = readable-read r ∙ give a shape_row (serials_row ∷ ends_row s ∷ []) (misshapen-in s.withdrawals m)
  refused-read (serials r h u) = shaped-read r h ∙ give a serials_row (ends_row s ∷ []) (unfounded-in s.file s.withdrawals u)
  refused-read (too_many_ends r h d l) = founded-read r h d ∙ give a (ends_row s) [] (lt→ltb 64 (length (ends (credentials s))) l)

-- ---- one of the conditions holds

abbrev pub Verdict : Source → Type 0
Verdict s = Accepted s ⊎ ((n p : ℕ) × Refused s n p)

module _ (s : Source) where
  pub verdict : Verdict s
  verdict = by-file (File.verdict s.file)
    where
      by-ends : Readable s → Shaped s.withdrawals → Founded s → (64 < length (ends (credentials s))) ⊎ (length (ends (credentials s)) ≤ 64) → Verdict s
      by-ends r h d (inl l) = inr (8, 0, too_many_ends r h d l)
      by-ends r h d (inr l) = inl (record { readable = r; shaped = h; founded = d; few = l })

      by-serials : Readable s → Shaped s.withdrawals → Founded s ⊎ (Twice s.withdrawals ⊎ Unknown s) → Verdict s
      by-serials r h (inl d) = by-ends r h d (less 64 (length (ends (credentials s))))
      by-serials r h (inr u) = inr (21, 0, serials r h u)

      by_shape : Readable s → Shaped s.withdrawals ⊎ Misshapen s.withdrawals → Verdict s
      by_shape r (inl h) = by-serials r h (founded-or-not s.file s.withdrawals)
      by_shape r (inr m) = inr (20, 0, list r m)

      by-list : Readable s → Verdict s
      by-list r = by_shape r (shaped-or-not s.withdrawals)

      by-file : File.Verdict s.file → Verdict s
      by-file (inl c) = by-list (record { head = c.head; good = c.good })
      by-file (inr (n, p, r)) =
          dite (ℕ_discrete n 8) (λ e. let (h, g) = eight-readable s.file r e in by-list (record { head = h; good = g })) (λ e. inr (n, p, file r e))

-- ---- exact both ways

module _ {A : Type 0} (a : A) (s : Source) where
  pub refused-exact : (n p : ℕ) → ◌≡◌ {A = Outcome A} (read s a) (refused n p) ↔ Refused s n p
  refused-exact n p = (λ e. go e (verdict s), refused-read a s)
    where
      go : ◌≡◌ {A = Outcome A} (read s a) (refused n p) → Verdict s → Refused s n p
      go e (inl c) = let x = accepted-read a s c in let z : ◌≡◌ {A = ℕ} 0 1 = cc in absurd (omega arith)
      go e (inr (k, q, r)) =
          let x = refused-read a s r in
          let u : k ≡ n = cc in
          let v : q ≡ p = cc in
          subst (λ (y : ℕ). Refused s n y) v (subst (λ (y : ℕ). Refused s y q) u r)

  pub accepted-exact : ◌≡◌ {A = Outcome A} (read s a) (done a) ↔ Accepted s
  accepted-exact = (λ e. go e (verdict s), accepted-read a s)
    where
      go : ◌≡◌ {A = Outcome A} (read s a) (done a) → Verdict s → Accepted s
      go e (inl c) = c
      go e (inr (k, q, r)) = let x = refused-read a s r in let z : ◌≡◌ {A = ℕ} 0 1 = cc in absurd (omega arith)

-- ---- their numbers

pub refused-of-source : (s : Source) {n p : ℕ} → Refused s n p → T (of_source n)
refused-of-source s {n} (file r e) = or_left (of_file n) (eqb n 20 || eqb n 21) (refused-of-file s.file r)
refused-of-source s (list r m) = tt
refused-of-source s (serials r h u) = tt
refused-of-source s (too_many_ends r h d l) = tt

-- a number that is none of them is not the number of such a refusal
pub not-of-source : (s : Source) {n p : ℕ} → Refused s n p → (m : ℕ) → T (not (of_source m)) → ¬ (n ≡ m)
not-of-source s r m t e = T_not (of_source m) t (subst (λ (k : ℕ). T (of_source k)) e (refused-of-source s r))

-- they are not 0
pub refused-some : (s : Source) {n p : ℕ} → Refused s n p → 1 ≤ n
refused-some s {n} r = go n (refused-of-source s r)
  where
    go : (n : ℕ) → T (of_source n) → 1 ≤ n
    go zero t = absurd t
    go (suc n) t = omega arith

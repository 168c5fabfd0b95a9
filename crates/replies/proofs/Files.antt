-- A file that is refused, or accepted: the answer of a call whose own refusals come after the file's.
use mathlib.Core.Path.{◌≡◌, ap, ◌∙◌, subst⁻¹}
use mathlib.Core.Logic.{inl, inr}
use mathlib.Core.List.{List, ◌++◌}
use Prim.Native.Nat.{ℕ}
use native.Mathlib.Omega.{arith}
use borrow.Author.Tests.{ne_eqb}
use Rattle.meaning.specs.Table.{ends}
use Rattle.file.specs.Refusals.{RefusalRow, Outcome, done, refused, first, left}
use Rattle.file.proofs.First.{after, first-append}
use Rattle.withdrawals.specs.Source.{Source, credentials, reading}
use Rattle.withdrawals.specs.Conditions.{Accepted, Refused}
use Rattle.withdrawals.proofs.Refusals.{refused-some, Verdict, verdict, accepted-read, refused-read, not-of-source}
use Rattle.ends.specs.declared.Ends.{Ends}
use Rattle.ends.specs.Ends.{ends_out, ends_in}

-- a file's refusals leave a list as it was
pub refused-left : {f : Source} {n p : ℕ} → Refused f n p → (before written : List ℕ) → left {A = ℕ} (refused n p) before written ≡ before
refused-left {f} {n = n} r before written = simp (ne_eqb n 10 (not-of-source f r 10 tt), ne_eqb n 13 (not-of-source f r 13 tt))

-- the rows after the file's decide where it is accepted
module _ {A : Type 0} (f : Source) (more : List RefusalRow) (a : A) where
  abbrev then : Outcome A → Outcome A
  then o = after o (first more a)

  pub refused-first : {n p : ℕ} → Refused f n p → first (reading f ++ more) a ≡ refused n p
  refused-first r = first-append (reading f) more a a ∙ ap then (refused-read a f r)

  pub accepted-first : Accepted f → first (reading f ++ more) a ≡ first more a
  accepted-first c = first-append (reading f) more a a ∙ ap then (accepted-read a f c)

-- ---- by the file's ends

module _ (f : Source) (e : Ends) (u : e ≡ ends_in f) where
  abbrev all : List ℕ
  all = ends (credentials f)

  of-refused : {n p : ℕ} → Refused f n p → e ≡ ends_out (refused n p)
  unfolding ends_in
  of-refused r = u ∙ ap ends_out (refused-read all f r)

  of-accepted : Accepted f → e ≡ ends_out (done all)
  unfolding ends_in
  of-accepted c = u ∙ ap ends_out (accepted-read all f c)

  pub ends-refused : (e.number ≡ 0 → ⊥) → Refused f e.number e.place
  ends-refused h = go (verdict f)
    where
      go : Verdict f → Refused f e.number e.place
      go (inl c) = absurd (h (ap (λ (x : Ends). x.number) (of-accepted c)))
      go (inr (n, p, r)) = subst⁻¹ (λ (x : Ends). Refused f x.number x.place) (of-refused r) r

  pub ends-accepted : e.number ≡ 0 → Accepted f × (e ≡ ends_out (done all))
  ends-accepted z = go (verdict f)
    where
      go : Verdict f → Accepted f × (e ≡ ends_out (done all))
      go (inl c) = (c, of-accepted c)
      go (inr (n, p, r)) = let k = refused-some f r in let q = ap (λ (x : Ends). x.number) (of-refused r) in absurd (omega arith)

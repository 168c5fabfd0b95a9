-- The answer of `judge` at each of its ends.
use mathlib.Core.Path.{◌≡◌, refl, sym, ap, ◌∙◌, subst⁻¹}
use mathlib.Core.Bool.{Bool, true, false, ◌&&◌, not}
use mathlib.Core.List.{List}
use Prim.Native.Nat.{ℕ, ◌/◌, ◌%◌, ◌^◌, ◌≤◌}
use native.Mathlib.Omega.{arith}
use borrow.Author.Tests.{eq-eqb, ne_eqb}
use lib.Dec.{eqb, ltb}
use Rattle.meaning.specs.Table.{ends}
use Rattle.file.specs.declared.Refusal.{Refusal}
use Rattle.file.specs.Values.{first_refusal}
use Rattle.file.proofs.First.{refusal-any, first-clear, refusal-stopped, refusal-passed}
use Rattle.survey.specs.declared.Summary.{Summary}
use Rattle.survey.specs.Surveying.{Surveyed}
use Rattle.withdrawals.specs.Source.{Source, credentials, reading}
use Rattle.withdrawals.specs.Conditions.{Accepted}
use Rattle.withdrawals.proofs.Credentials.{reading-numbered}
use Rattle.withdrawals.proofs.Refusals.{accepted-exact}
use Rattle.asking.specs.declared.Admission.{Admission}
use Rattle.asking.specs.Asking.{Request, StepLists, one_length, within, request_rows, asking}
use Rattle.asking.specs.Admitting.{Admits}

module _ (f : Source) (q : Request) (t : StepLists) (p es : List ℕ) (s : Summary) (u : Surveyed f p es s) where
  -- a refusal admits no policy
  refuses : {r : Admission} (number place : ℕ) → (number ≡ 0 → ⊥) → first_refusal (asking f q t) ≡ record { number = number; place = place }
      → r ≡ record { number = number; place = place; credentials = 0 } → Admits f q t p r
  refuses number place h e o = subst⁻¹ (Admits f q t p) o (record { refusal = sym e; policy = λ z. absurd (h z) })

  reading-refusal : first_refusal (reading f) ≡ record { number = s.number; place = s.place }
  reading-refusal =
      sym (refusal-any (reading f) (ends (credentials f))) ∙ (λ j. record { number = sym u.number j; place = sym u.place j })

  number_of : (first_refusal (reading f)).number ≡ s.number
  number_of = ap (λ (x : Refusal). x.number) reading-refusal

  -- 1 to 8, 17, 20 and 21
  pub file-refused : {r : Admission} → (s.number ≡ 0 → ⊥) → r ≡ record { number = s.number; place = s.place; credentials = 0 } → Admits f q t p r
  unfolding asking
  file-refused h =
      refuses s.number s.place h (refusal-stopped (reading f) (request_rows f q t) (λ z. h (sym number_of ∙ z)) ∙ reading-refusal)

  module _ (none : s.number ≡ 0) where
    accepted : Accepted f
    accepted = (accepted-exact {A = ℕ} 0 f).0 (first-clear (reading f) 0 (reading-numbered f) (number_of ∙ none))

    pub entities-few : s.entities ≤ 32
    entities-few = omega (arith, u.entities none, accepted.readable.head.limits.entities.1)

    passed : first_refusal (asking f q t) ≡ first_refusal (request_rows f q t)
    unfolding asking
    passed = refusal-passed (reading f) (request_rows f q t) (reading-numbered f) (number_of ∙ none)

    pub nine : {r : Admission} → one_length t ≡ false → r ≡ record { number = 9; place = 0; credentials = 0 } → Admits f q t p r
    nine l = refuses 9 0 (λ z. absurd (omega arith)) (passed ∙ rw l refl)

    module _ (l : one_length t ≡ true) (w : Bool)
        (e : w ≡ (ltb (q.role / 32) s.entities && ltb (q.role % 32) s.names && ltb q.set (2 ^ s.entities))) where
      -- the test of the numbers by the sizes that were read
      sized : w ≡ within f q.role q.set
      sized =
          e
          ∙ (λ j. ltb (q.role / 32) (u.entities none j) && ltb (q.role % 32) (u.names none j) && ltb q.set (2 ^ u.entities none j))

      tested : (within f q.role q.set && not (eqb q.set 0)) ≡ (w && not (eqb q.set 0))
      tested = ap (λ (b : Bool). b && not (eqb q.set 0)) (sym sized)

      pub eleven : {r : Admission} → (w && not (eqb q.set 0)) ≡ false → r ≡ record { number = 11; place = 0; credentials = 0 } → Admits f q t p r
      eleven o = refuses 11 0 (λ z. absurd (omega arith)) (passed ∙ rw (l, tested ∙ o) refl)

      module _ (o : (w && not (eqb q.set 0)) ≡ true) where
        pub twelve : {r : Admission} → q.minute ≡ 4294967295 → r ≡ record { number = 12; place = 0; credentials = 0 } → Admits f q t p r
        twelve m = refuses 12 0 (λ z. absurd (omega arith)) (passed ∙ rw (l, tested ∙ o, eq-eqb _ _ m) refl)

        pub admitted : (q.minute ≡ 4294967295 → ⊥) → Admits f q t p (record { number = 0; place = 0; credentials = s.credentials })
        admitted m = record { refusal = sym (passed ∙ rw (l, tested ∙ o, ne_eqb _ _ m) refl); policy = λ _. u.policy none }

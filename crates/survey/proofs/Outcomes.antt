-- What follows from a survey for answers over the same bytes.
use mathlib.Core.Path.{◌≡◌, sym, ap, ◌∙◌}
use mathlib.Core.List.{List, ◌++◌}
use Prim.Native.Nat.{ℕ, ◌≤◌}
use native.Mathlib.Omega.{arith}
use lib.ListN.{length}
use Rattle.meaning.specs.Table.{ends}
use Rattle.file.specs.declared.Refusal.{Refusal}
use Rattle.file.specs.Refusals.{RefusalRow, Outcome, done, refused, first, number_of, place_of}
use Rattle.withdrawals.specs.Source.{Source, credentials, reading}
use Rattle.withdrawals.proofs.Credentials.{reading-numbered}
use Rattle.file.proofs.First.{after, first-append, refusal-any, first-clear}
use Rattle.survey.specs.declared.Summary.{Summary}
use Rattle.survey.specs.Ends.{ends_read}
use Rattle.survey.specs.Surveying.{Surveyed}
use Rattle.survey.proofs.Holds.{padded-length}

module _ (f : Source) (p es : List ℕ) (s : Summary) (found : Surveyed f p es s) where
  abbrev all : List ℕ
  all = ends (credentials f)

  -- an answer that has further rows after those of the file
  pub survey-refused : (s.number ≡ 0 → ⊥) → {B : Type 0} (more : List RefusalRow) (b : B) → first (reading f ++ more) b ≡ refused s.number s.place
  survey-refused h {B} more b =
      first-append {A = List ℕ} {B = B} (reading f) more all b ∙ go (ends_read f) found.number found.place
    where
      go : (o : Outcome (List ℕ)) → s.number ≡ number_of o → s.place ≡ place_of o → after o (first more b) ≡ refused s.number s.place
      go (done _) n p = absurd (h n)
      go (refused _ _) n p = λ j. refused (sym n j) (sym p j)

  module _ (none : s.number ≡ 0) where
    pub read_done : ends_read f ≡ done all
    read_done =
        first-clear (reading f) all (reading-numbered f)
        (sym (ap (λ (r : Refusal). r.number) (refusal-any (reading f) all)) ∙ sym found.number ∙ none)

    pub survey-passed : {B : Type 0} (more : List RefusalRow) (b : B) → first (reading f ++ more) b ≡ first more b
    survey-passed {B} more b =
        first-append {A = List ℕ} {B = B} (reading f) more all b ∙ ap (λ (o : Outcome (List ℕ)). after {A = List ℕ} {B = B} o (first more b)) read_done

    pub survey-sizes : (s.count ≤ 64) × (length es ≡ 64)
    survey-sizes =
        let k = found.few none in
        (omega (arith, found.count none), ap length (found.ends none) ∙ padded-length all k)

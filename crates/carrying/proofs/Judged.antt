-- Judging: a survey's answer as the file's verdict.
use mathlib.Core.Path.{◌≡◌, ap, ◌∙◌, subst⁻¹}
use mathlib.Core.Logic.{inl, inr}
use mathlib.Core.List.{List}
use Prim.Native.Nat.{ℕ}
use native.Mathlib.Omega.{arith}
use Rattle.meaning.specs.Table.{ends}
use Rattle.file.specs.Refusals.{Outcome, number_of, place_of}
use Rattle.file.specs.Format.{credentials}
use Rattle.file.specs.Conditions.{Refused}
use Rattle.file.proofs.Refusals.{Verdict, verdict, accepted-read, refused-read, refused-some}
use Rattle.survey.specs.declared.Summary.{Summary}
use Rattle.survey.specs.Surveying.{SurveyedFile}
use Rattle.carrying.specs.declared.Judgement.{Judgement}
use Rattle.carrying.specs.Judging.{Judges}

module _ (f : List ℕ) (s : Summary) (d : SurveyedFile f s) where
  abbrev all : List ℕ
  all = ends (credentials f)

  abbrev judged : Judgement
  judged = record { number = s.number; place = s.place; credentials = s.credentials }

  pub judges : Judges f (record { number = s.number; place = s.place; credentials = s.credentials })
  judges = go (verdict f)
    where
      go : Verdict f → Judges f judged
      go (inl c) =
          let z : s.number ≡ 0 = d.number ∙ ap (λ (o : Outcome (List ℕ)). number_of o) (accepted-read all f c) in
          record { refused = λ h. absurd (h z); accepted = λ e. c; count = d.credentials }
      go (inr (n, q, r)) =
          let x : s.number ≡ n = d.number ∙ ap (λ (o : Outcome (List ℕ)). number_of o) (refused-read all f r) in
          let y : s.place ≡ q = d.place ∙ ap (λ (o : Outcome (List ℕ)). place_of o) (refused-read all f r) in
          let k = refused-some f r in
          record {
            refused = λ h. subst⁻¹ (λ (m : ℕ). Refused f m s.place) x (subst⁻¹ (λ (m : ℕ). Refused f n m) y r);
            accepted = λ e. absurd (omega arith);
            count = d.credentials;
          }

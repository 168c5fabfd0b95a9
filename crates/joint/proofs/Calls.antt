-- The three calls, made one after the other, meet demand 3.
use mathlib.Core.Path.{◌≡◌, refl, sym, ap, ◌∙◌}
use mathlib.Core.Bool.{true}
use Prim.Native.Nat.{ℕ}
use lib.ListN.{length}
use Rattle.file.specs.Refusals.{Outcome, done, refused}
use Rattle.withdrawals.specs.Source.{Source}
use Rattle.asking.specs.Asking.{Request, StepLists, size, one_length}
use Rattle.completing.specs.Completing as Completing
use Rattle.completing.specs.Completing.{Lent, completing}
use Rattle.querying.specs.Querying as Querying
use Rattle.querying.specs.Querying.{Counts, Queried}
use Rattle.querying.specs.declared.Answer.{Answer}
use Rattle.querying.specs.declared.Answer.TheVariants as A
use Rattle.checking.specs.Checking as Checking
use Rattle.checking.specs.Checking.{checking}
use Rattle.joint.specs.declared.Replies.{Replies}
use Rattle.joint.specs.Joint.{InRange}
use Rattle.joint.specs.Calls.{steps_of, AsDemanded, Together}
use Rattle.joint.proofs.Claims.{demand-3}

abbrev steps_in : Outcome Counts → ℕ
steps_in (done c) = c.steps
steps_in (refused n p) = 0

steps-said : (a : Answer) → steps_of a ≡ steps_in (Querying.says_answer a)
steps-said (A.Proof steps level) = refl
steps-said (A.Refused n p) = refl

pub together : {f : Source} {q : Request} {before after : Lent} {t t' : StepLists} {r : Replies} → Completing.table_ending (Completing.says_completed r.completed) after.roles after.sets after.spans ≡ completing f before
    → Queried f q t (Querying.says_answer r.answer) t' → Checking.says_checked r.checked ≡ checking f q t' (steps_of r.answer) → Together f q before after t t' r
together {f} {q} {before} {after} {t} {t'} {r} c d e = record { completed = c; queried = d; checked = e; demand3 = holds }
  where
    holds : (count : ℕ) → Completing.says_completed r.completed ≡ done count → InRange f q → one_length t ≡ true → size t ≡ length before.roles → AsDemanded f q after t' r count
    holds count s i l z =
        let j = demand-3 f before after count (ap (λ (o : Outcome ℕ). Completing.table_ending o after.roles after.sets after.spans) (sym s) ∙ c) q i in
        let w = j.query t t' (Querying.says_answer r.answer) l z d in
        record {
          validity = j.validity;
          given = λ p. (
              let g = w.given p in
              (g, e ∙ ap (checking f q t') (steps-said r.answer ∙ ap steps_in g.replied) ∙ g.checked));
          none = w.none;
        }

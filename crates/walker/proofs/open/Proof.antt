-- `open` meets its contract: number and place of the refusal do not depend on the value on success.
use mathlib.Core.Path.{ap, ◌∙◌}
use borrow.Author.Rules.{rules}
use Rattle.meaning.specs.Table.{ends}
use Rattle.file.specs.Format.{credentials}
use Rattle.file.specs.Reading.{reading}
use Rattle.file.specs.declared.Refusal.{Refusal}
use Rattle.file.proofs.First.{refusal-any}
use Rattle.walker.proofs.open.Statement.{statement}
use Rattle.walker.proofs.open.Tie as tie

room-requires : tie.Need-room-policy-requires
room-requires c κs = search rules

no-ends-requires : tie.Need-no_ends-ends-requires
no-ends-requires c κs = search rules

survey-file-requires : tie.Need-survey_file-summary-requires
survey-file-requires c κs = search rules

returns : tie.Need-returns
returns c =
    let f = c.before.before.before.before.before.before.args.file.now in
    let s = c.survey_file-summary.ensures in
    let e = refusal-any (reading f) (ends (credentials f)) in
    λ i. record { number = (s.number ∙ ap (λ (r : Refusal). r.number) e) i; place = (s.place ∙ ap (λ (r : Refusal). r.place) e) i }

pub open_spec : {M : Type 1} → statement M
open_spec = tie.close (tie.spec room-requires no-ends-requires survey-file-requires returns)

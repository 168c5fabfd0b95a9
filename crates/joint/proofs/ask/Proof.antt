-- `joint::ask` meets its contract.
use mathlib.Core.Path.{ap, ◌∙◌}
use Rattle.asking.specs.Asking.{request}
use Rattle.checking.specs.Checking.{checking}
use Rattle.joint.proofs.Calls.{together}
use borrow.Author.Rules.{rules}
use Rattle.joint.proofs.ask.Statement.{statement}
use Rattle.withdrawals.specs.Source.{◌without◌}
use Rattle.joint.proofs.ask.Tie as tie

-- where completing, and then querying, answered, from where checking did
abbrev queried : tie.After-check-checked → tie.After-query-answer
queried c = c.before.before.before.before.before.before.before.before.before.before

abbrev completed : tie.After-check-checked → tie.After-complete-completed
completed c = (queried c).before.before.before.before.before.before.before.before.before.before.before

complete-requires : tie.Need-complete-completed-requires
complete-requires c κs = search rules

query-requires : tie.Need-query-answer-requires
query-requires c κs = search rules

steps-of-requires : tie.Need-steps_of-steps-requires
steps-of-requires c κs = search rules

check-requires : tie.Need-check-checked-requires
check-requires c κs = search rules

same_length : tie.Need-shape_of-roles
same_length c = search rules

same-length-2 : tie.Need-shape_of-sets
same-length-2 c = search rules

same-length-3 : tie.Need-shape_of-spans
same-length-3 c = search rules

same-length-4 : tie.Need-shape_of-credential
same-length-4 c = search rules

same-length-5 : tie.Need-shape_of-first
same-length-5 c = search rules

same-length-6 : tie.Need-shape_of-second
same-length-6 c = search rules

same-length-7 : tie.Need-shape_of-results
same-length-7 c = search rules

returns : tie.Need-returns
returns c =
    let a = (completed c).before.before.before.before.before.before.before.before.before.before.before.before.before.args in
    together (completed c).complete-completed.ensures (queried c).query-answer.ensures (c.check-checked.ensures ∙ ap (checking (a.file.now without a.withdrawals.now) (request a.role a.set a.minute) _) c.before.steps_of-steps.ensures)

pub ask_spec : {M : Type 1} → statement M
ask_spec =
    tie.close
    (tie.spec
    complete-requires
    query-requires
    steps-of-requires
    check-requires
    same_length
    same-length-2
    same-length-3
    same-length-4
    same-length-5
    same-length-6
    same-length-7
    returns)

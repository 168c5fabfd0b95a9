-- `joint_bytes::ask` meets its contract.
use Rattle.joint_bytes.proofs.Calls.{together}
use borrow.Author.Rules.{rules}
use Rattle.joint_bytes.proofs.ask.Statement.{statement}
use Rattle.joint_bytes.proofs.ask.Tie as tie

-- where completing, and then querying, answered, from where checking did
abbrev queried : tie.After-rtt_check-checked → tie.After-rtt_query-queried
queried c = c.before.before.before.before.before.before.before.before.before.before

abbrev completed : tie.After-rtt_check-checked → tie.After-rtt_complete-completed
completed c = (queried c).before.before.before.before.before.before.before.before.before.before.before

rtt-complete-requires : tie.Need-rtt_complete-completed-requires
rtt-complete-requires c κs = search rules

rtt-query-requires : tie.Need-rtt_query-queried-requires
rtt-query-requires c κs = search rules

steps-of-requires : tie.Need-steps_of-steps-requires
steps-of-requires c κs = search rules

rtt-check-requires : tie.Need-rtt_check-checked-requires
rtt-check-requires c κs = search rules

same_length : tie.Need-shape_of-roles
same_length c = search rules

same-length-2 : tie.Need-shape_of-sets
same-length-2 c = search rules

same-length-3 : tie.Need-shape_of-spans
same-length-3 c = search rules

same-length-4 : tie.Need-shape_of-credential
same-length-4 c = search rules

same-length-5 : tie.Need-shape_of-first
same-length-5 c = search rules

same-length-6 : tie.Need-shape_of-second
same-length-6 c = search rules

same-length-7 : tie.Need-shape_of-results
same-length-7 c = search rules

returns : tie.Need-returns
returns c = together (completed c).rtt_complete-completed.ensures (queried c).rtt_query-queried.ensures c.before.steps_of-steps.ensures c.rtt_check-checked.ensures

pub ask_spec : {M : Type 1} → statement M
ask_spec =
    tie.close
    (tie.spec
    rtt-complete-requires
    rtt-query-requires
    steps-of-requires
    rtt-check-requires
    same_length
    same-length-2
    same-length-3
    same-length-4
    same-length-5
    same-length-6
    same-length-7
    returns)

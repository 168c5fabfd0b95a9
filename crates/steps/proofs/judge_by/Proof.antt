-- `steps::judge_by` meets its contract, by how many steps the kind cites.
use Rattle.steps.specs.Steps.{step_of, shown_in}
use Rattle.steps.proofs.Deciding.{none-cited}
use borrow.Author.Rules.{rules}
use Rattle.steps.proofs.judge_by.Statement.{statement}
use Rattle.steps.proofs.judge_by.Tie as tie

by-none-requires : tie.Need-by_none-requires
by-none-requires c κs = search rules

by-one-requires : tie.Need-by_one-requires
by-one-requires c κs = search rules

by-two-requires : tie.Need-by_two-requires
by-two-requires c κs = search rules

returns : tie.Need-returns-in-0
returns c = let a = c.before.before.before.args in none-cited a.b (shown_in a.roles.now a.sets.now a.levels.now a.i) (step_of a.s) c.by_none.result c.before.in-0.is c.by_none.ensures

returns-2 : tie.Need-returns-in-1
returns-2 c = search rules

returns-3 : tie.Need-returns-in_default
returns-3 c = search rules

pub judge_by_spec : {M : Type 1} → statement M
judge_by_spec =
    tie.close
    (tie.spec by-none-requires by-one-requires by-two-requires returns returns-2 returns-3)

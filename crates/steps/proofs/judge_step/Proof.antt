-- `steps::judge_step` meets its contract: no such credential, not valid at the minute, or by its statement.
use Rattle.steps.specs.Steps.{step_of, shown_in}
use native.Mathlib.Omega.{arith}
use mathlib.Core.Path.{sym, ◌∙◌, ap}
use borrow.Author.Tests.{not-true, not-false}
use Rattle.policy.specs.declared.Statement.{Statement}
use Rattle.steps.proofs.Judging.{no-credential, not_valid, by-statement}
use borrow.Author.Rules.{rules}
use Rattle.steps.proofs.judge_step.Statement.{statement}
use Rattle.steps.proofs.judge_step.Tie as tie

cast-at : tie.Need-overflow_cast-at
cast-at c = search rules

broken-requires : tie.Need-broken-requires
broken-requires c κs = search rules

returns : tie.Need-returns-then-n-at
returns c = let a = c.before.before.before.before.args in no-credential a.policy.now a.n a.minute (shown_in a.roles.now a.sets.now a.levels.now a.i) (step_of a.s) c.broken.result c.before.if-n-at.true c.broken.ensures

valid-at-requires : tie.Need-valid_at-requires
valid-at-requires c κs = search rules

broken-requires-2 : tie.Need-broken-requires-then-not-valid_at
broken-requires-2 c κs = search rules

returns-2 : tie.Need-returns-then-not-valid_at
returns-2 c = let a = c.before.before.before.before.before.before.args in not_valid a.policy.now a.n a.minute (shown_in a.roles.now a.sets.now a.levels.now a.i) (step_of a.s) c.broken-then-not-valid_at.result c.before.before.before.if-n-at.false (sym c.before.before.valid_at.ensures ∙ not-true _ c.before.if-not-valid_at.true-raw) c.broken-then-not-valid_at.ensures

statement-at-requires : tie.Need-statement_at-requires
statement-at-requires c κs = search rules

judge-by-requires : tie.Need-judge_by-requires
judge-by-requires c κs = (omega (arith, ap (λ (b : Statement). b.second) c.statement_at.ensures), c.before.before.before.before.before.before.requires.1)

returns-3 : tie.Need-returns
returns-3 c = let a = c.before.before.before.before.before.before.before.args in by-statement a.policy.now a.n a.minute (shown_in a.roles.now a.sets.now a.levels.now a.i) (step_of a.s) c.judge_by.result c.before.before.before.before.if-n-at.false (sym c.before.before.before.valid_at.ensures ∙ not-false _ c.before.before.if-not-valid_at.false-raw) c.before.statement_at.ensures c.judge_by.ensures

pub judge_step_spec : {M : Type 1} → statement M
judge_step_spec =
    tie.close
    (tie.spec
    cast-at
    broken-requires
    returns
    valid-at-requires
    broken-requires-2
    returns-2
    statement-at-requires
    judge-by-requires
    returns-3)

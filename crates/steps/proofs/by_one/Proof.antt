-- `steps::by_one` meets its contract: the cited step is too late, or an earlier one.
use mathlib.Core.Path.{ap}
use native.Mathlib.Omega.{arith}
use Rattle.meaning.specs.Proofs.{Shown}
use Rattle.steps.specs.Steps.{step_of}
use Rattle.steps.proofs.Deciding.{one-late, one-cited}
use borrow.Author.Rules.{rules}
use Rattle.steps.proofs.by_one.Statement.{statement}
use Rattle.steps.proofs.by_one.Tie as tie

cast-j : tie.Need-overflow_cast-j
cast-j c = search rules

broken-requires : tie.Need-broken-requires
broken-requires c κs = search rules

returns : tie.Need-returns-then-i-j
returns c = let a = c.before.before.before.before.args in one-late a.roles.now a.sets.now a.levels.now a.i a.b (step_of a.s) c.before.before.before.before.requires.0 c.broken.result c.before.if-i-j.true c.broken.ensures

cite-requires : tie.Need-cite-p-requires
cite-requires c κs = search rules

add-t14 : tie.Need-overflow_add-result
add-t14 c = let s = c.before.before.before.before.before.before.before.before.before.before in omega (arith, s.requires.1.few, s.requires.1.low s.args.s.first c.before.before.before.before.before.before.before.if-i-j.false, ap (λ (x : Shown). x.level) c.before.before.before.before.before.before.cite-p.ensures)

returns-2 : tie.Need-returns
returns-2 c = let a = c.before.before.before.before.before.before.before.before.before.before.args in one-cited a.roles.now a.sets.now a.levels.now a.i a.b (step_of a.s) c.before.before.before.before.before.before.before.before.before.before.requires.0 c.before.before.before.before.before.before.before.before.before.before.requires.1 c.before.before.before.before.before.before.before.if-i-j.false c.before.before.before.before.before.before.cite-p.ensures

pub by_one_spec : {M : Type 1} → statement M
by_one_spec = tie.close (tie.spec cast-j broken-requires returns cite-requires add-t14 returns-2)

-- `steps::by_two` meets its contract: one of the cited steps is too late, or both are earlier ones.
use mathlib.Core.Path.{ap}
use native.Mathlib.Omega.{arith}
use Rattle.meaning.specs.Proofs.{Shown}
use Rattle.steps.specs.Steps.{step_of}
use Rattle.steps.proofs.Deciding.{two-late, second-late, two-cited}
use borrow.Author.Rules.{rules}
use Rattle.steps.proofs.by_two.Statement.{statement}
use Rattle.steps.proofs.by_two.Tie as tie

cast-j : tie.Need-overflow_cast-j
cast-j c = search rules

cast-k : tie.Need-overflow_cast-k
cast-k c = search rules

broken-requires : tie.Need-broken-requires
broken-requires c κs = search rules

returns : tie.Need-returns-then-i-j
returns c = let a = c.before.before.before.before.before.args in two-late a.roles.now a.sets.now a.levels.now a.i a.b (step_of a.s) c.before.before.before.before.before.requires.0.0 c.broken.result c.before.if-i-j.true c.broken.ensures

broken-requires-2 : tie.Need-broken-requires-then-i-k
broken-requires-2 c κs = search rules

returns-2 : tie.Need-returns-then-i-k
returns-2 c = let a = c.before.before.before.before.before.before.args in second-late a.roles.now a.sets.now a.levels.now a.i a.b (step_of a.s) c.before.before.before.before.before.before.requires.0.0 c.broken-then-i-k.result c.before.if-i-k.true c.broken-then-i-k.ensures

cite-requires : tie.Need-cite-p-requires
cite-requires c κs = search rules

cite-requires-2 : tie.Need-cite-q-requires
cite-requires-2 c κs = search rules

joined-requires : tie.Need-joined-requires
joined-requires c κs = search rules

higher-requires : tie.Need-higher-requires
higher-requires c κs = search rules

add-t13 : tie.Need-overflow_add-result
add-t13 c = let s = c.before.before.before.before.before.before.before.before.before in
    omega (arith, c.higher.ensures, s.requires.1.few, s.requires.1.low s.args.s.first c.before.before.before.before.before.if-i-j.false, ap (λ (x : Shown). x.level) c.before.before.before.cite-p.ensures, s.requires.1.low s.args.s.second c.before.before.before.before.if-i-k.false, ap (λ (x : Shown). x.level) c.before.before.cite-q.ensures)

returns-3 : tie.Need-returns
returns-3 c = let a = c.before.before.before.before.before.before.before.before.before.args in two-cited a.roles.now a.sets.now a.levels.now a.i a.b (step_of a.s) c.before.before.before.before.before.before.before.before.before.requires.0.0 c.before.before.before.before.before.before.before.before.before.requires.1 c.before.before.before.before.before.if-i-j.false c.before.before.before.before.if-i-k.false c.before.before.before.cite-p.ensures c.before.before.cite-q.ensures c.before.joined.ensures c.higher.ensures

pub by_two_spec : {M : Type 1} → statement M
by_two_spec =
    tie.close
    (tie.spec
    cast-j
    cast-k
    broken-requires
    returns
    broken-requires-2
    returns-2
    cite-requires
    cite-requires-2
    joined-requires
    higher-requires
    add-t13
    returns-3)

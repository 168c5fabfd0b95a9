-- `steps::joined` meets its contract, kind by kind.
use native.Mathlib.Omega.{arith}
use Rattle.steps.specs.Steps.{shown_of}
use Rattle.steps.proofs.Deciding.{kind-follows, link-follows, last-follows}
use borrow.Author.Rules.{rules}
use Rattle.steps.proofs.joined.Statement.{statement}
use Rattle.steps.proofs.joined.Tie as tie

linked-requires : tie.Need-linked-requires
linked-requires c κs = search rules

returns : tie.Need-returns-in-2
returns c = let a = c.before.before.before.before.before.before.args in link-follows a.b (shown_of a.p) (shown_of a.q) a.set c.before.in-2.is c.linked.ensures

returns-2 : tie.Need-returns-in-3
returns-2 c = let a = c.before.before.before.before.before.args in kind-follows a.b (shown_of a.p) (shown_of a.q) a.set c.in-3.is

returns-3 : tie.Need-returns-in-4
returns-3 c = let a = c.before.before.before.before.before.args in kind-follows a.b (shown_of a.p) (shown_of a.q) a.set c.in-4.is

returns-4 : tie.Need-returns-in_default
returns-4 c = let a = c.before.before.before.before.before.args in last-follows a.b (shown_of a.p) (shown_of a.q) a.set (omega arith)

pub joined_spec : {M : Type 1} → statement M
joined_spec = tie.close (tie.spec linked-requires returns returns-2 returns-3 returns-4)

-- One more step that keeps the rules, and all of them.
use mathlib.Core.Path.{◌≡◌}
use mathlib.Core.Bool.{true}
use native.Mathlib.Omega.{arith}
use borrow.Author.Rules.{rules}
use Rattle.policy.specs.Policy.{credentials_of}
use Rattle.asking.specs.Asking.{step_lists}
use Rattle.checking.proofs.Walks.{walk-goes-on, walk_ends}
use Rattle.checking.proofs.walk.Goals as goal

pub loop-i-preserved : goal.loop-i-preserved
loop-i-preserved c =
    let a = c.args in
    let holds : c.judge_step-x.result.holds ≡ true = search rules in
    walk-goes-on (credentials_of a.policy.now a.n) a.minute (step_lists a.credential.now a.first.now a.second.now a.sets.now) c.loop-i.invariant c.step_at-s.ensures c.judge_step-x.ensures (omega (arith, c.requires.few)) holds

pub returns : goal.returns
returns c =
    let a = c.args in
    let e : a.steps ≡ c.loop-i.i = omega arith in
    walk_ends (credentials_of a.policy.now a.n) a.minute (step_lists a.credential.now a.first.now a.second.now a.sets.now) c.requires.some (rw e c.loop-i.invariant)

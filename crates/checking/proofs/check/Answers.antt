-- The refusals of the request, 14, and then the steps.
use mathlib.Core.Path.{◌≡◌, sym, ◌∙◌}
use mathlib.Core.Bool.{true}
use native.Mathlib.Omega.{arith}
use lib.ListN.{length}
use Rattle.file.specs.Reading.{between}
use Rattle.withdrawals.specs.Source.{◌without◌}
use Rattle.asking.specs.Asking.{request, step_lists}
use Rattle.checking.specs.Checking.{part_before}
use Rattle.checking.specs.Walks.{Walkable}
use Rattle.checking.proofs.Answers.{request-refused, count-refused, walkable, walked-concludes}
use Rattle.checking.proofs.check.Goals as goal
use Rattle.checking.proofs.check.Goals.{After-judge-j}

-- nothing of the request or of the count is refused
able : (c : After-judge-j) → c.judge-j.result.number ≡ 0 → between 1 (length c.args.credential.now) c.args.steps ≡ true
    → Walkable c.judge-j.result.credentials (part_before c.args.steps (step_lists c.args.credential.now c.args.first.now c.args.second.now c.args.sets.now)) c.args.steps
able c z b =
    let a = c.args in
    walkable (a.file.now without a.withdrawals.now) (request a.role a.set a.minute) (step_lists a.credential.now a.first.now a.second.now a.sets.now) a.steps c.judge-j.ensures z b

pub returns-then-j-ne0 : goal.returns-then-j-ne0
returns-then-j-ne0 c = request-refused _ _ _ _ c.judge-j.ensures c.if-j-ne0.true

pub returns-then-not-steps-credential : goal.returns-then-not-steps-credential
returns-then-not-steps-credential c =
    let a = c.args in
    count-refused (a.file.now without a.withdrawals.now) (request a.role a.set a.minute) (step_lists a.credential.now a.first.now a.second.now a.sets.now) a.steps c.judge-j.ensures c.if-j-ne0.false c.if-not-steps-credential.true

pub slice_bounds-walk-end-2 : goal.slice_bounds-walk-end-2
slice_bounds-walk-end-2 c =
    sym (able (goal.at.slice_bounds-walk-end-2 c).After-judge-j c.if-j-ne0.false c.if-not-steps-credential.false).first

pub slice_bounds-walk-end-3 : goal.slice_bounds-walk-end-3
slice_bounds-walk-end-3 c =
    sym (able (goal.at.slice_bounds-walk-end-3 c).After-judge-j c.if-j-ne0.false c.if-not-steps-credential.false).second

pub slice_bounds-walk-end-4 : goal.slice_bounds-walk-end-4
slice_bounds-walk-end-4 c =
    sym (able (goal.at.slice_bounds-walk-end-4 c).After-judge-j c.if-j-ne0.false c.if-not-steps-credential.false).sets

pub walk-k-requires : goal.walk-k-requires
walk-k-requires c =
    able (goal.at.walk-k-requires c).After-judge-j c.if-j-ne0.false c.if-not-steps-credential.false

pub conclude-requires : goal.conclude-requires
conclude-requires c =
    let few = (able (goal.at.conclude-requires c).After-judge-j c.if-j-ne0.false c.if-not-steps-credential.false).few in
    omega (arith, c.walk-k.ensures.within)

pub returns : goal.returns
returns c =
    c.conclude.ensures
    ∙ walked-concludes _ _ _ _ c.judge-j.ensures c.if-j-ne0.false c.if-not-steps-credential.false c.walk-k.ensures

use Rattle.facts.proofs.Sets.{sets-next, sets_over}
use Rattle.facts.proofs.load_sets.Goals as goal

pub returns-in_err-load_set : goal.returns-in_err-load_set
returns-in_err-load_set c =
    sets_over c.args.policy.now c.args.ends.now c.args.count c.loop-i.i c.loop-i.invariant c.loop-i-test.true c.in_err-load_set.ensures c.from_residual.ensures.0

pub loop-i-preserved : goal.loop-i-preserved
loop-i-preserved c = sets-next c.args.policy.now c.args.ends.now c.args.count c.loop-i.i c.loop-i.invariant c.in_ok-load_set.ensures

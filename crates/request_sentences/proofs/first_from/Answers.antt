-- An entity that is not in the set is passed.
use Rattle.std.proofs.Common.{◌∙◌}
use Rattle.request_sentences.proofs.Onward.{later}
use Rattle.request_sentences.proofs.first_from.Goals as goal

pub loop-e-preserved : goal.loop-e-preserved
loop-e-preserved c = c.loop-e.invariant ∙ later c.args.set c.loop-e.e c.loop-e-test.true c.if-set-e-eq1.false

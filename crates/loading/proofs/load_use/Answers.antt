-- A set, a credential valid in no span, and any other.
use Rattle.loading.proofs.Bodies.{set-added, invalid-added, valid-added}
use Rattle.loading.proofs.load_use.Goals as goal

pub returns-then-s-eq0 : goal.returns-then-s-eq0
returns-then-s-eq0 c = set-added c.args.policy.now c.args.i c.args.ends.now c.args.count c.statement_at-s.ensures c.if-s-eq0.true c.requires.room

pub returns-then-v-eq0 : goal.returns-then-v-eq0
returns-then-v-eq0 c = invalid-added c.args.policy.now c.args.i c.args.ends.now c.args.count c.mask_at-v.result c.mask_at-v.ensures c.if-v-eq0.true c.requires.room

pub returns : goal.returns
returns c = valid-added c.args.policy.now c.args.i c.args.ends.now c.args.count c.mask_at-v.result c.mask_at-v.ensures c.statement_at-s.ensures c.add_uses.ensures

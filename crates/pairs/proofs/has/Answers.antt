-- `pairs::has` has nothing to look for in no spans.
use lib.Bits.{bit_and}
use Rattle.heads.proofs.Heads.{no-bit}
use Rattle.pairs.proofs.has.Goals as goal

pub returns-then-m-eq0 : goal.returns-then-m-eq0
returns-then-m-eq0 c e n o s b = absurd (no-bit (bit_and c.args.x.spans c.args.v) s c.if-m-eq0.true b)

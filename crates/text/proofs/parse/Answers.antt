-- A number that is too large is none.
use Rattle.std.proofs.Common.{sym}
use Rattle.text.proofs.Numbers.{too_large}
use Rattle.text.proofs.parse.Goals as goal

pub returns-then-x-gt4294967295 : goal.returns-then-x-gt4294967295
returns-then-x-gt4294967295 c = sym (too_large c.loop-b.invariant c.loop-b-test.true c.if-x-gt4294967295.true)

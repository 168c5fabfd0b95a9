-- `steps::linked` meets its contract.
use native.Mathlib.Omega.{arith}
use lib.Count.{trailing_le}
use Rattle.steps.proofs.Links.{linked-is}
use Rattle.steps.proofs.linked.Statement.{statement}
use Rattle.steps.proofs.linked.Tie as tie

mul-result : tie.Need-overflow_mul-result
mul-result c = omega (arith, trailing_le 32 c.args.set)

add-result : tie.Need-overflow_add-result
add-result c = omega (arith, trailing_le 32 c.args.set)

returns : tie.Need-returns
returns c = linked-is c.args.set c.args.role c.args.t c.ranges.set.fits

pub linked_spec : {M : Type 1} → statement M
linked_spec = tie.close (tie.spec mul-result add-result returns)

use mathlib.Core.Path.{◌≡◌}
use native.Mathlib.Omega.{arith}
use lib.ListN.{length}
use borrow.Author.Rules.{rules}
use Rattle.intervals_bytes.proofs.Bounds.{one_more}
use Rattle.intervals_bytes.proofs.bounds_of.Goals as goal

pub loop-i-preserved : goal.loop-i-preserved
loop-i-preserved c =
    let vs = c.args.intervals in
    let z : length vs ≡ 32 = search rules in
    one_more vs z c.loop-i.i c.loop-i.invariant (omega arith)

-- `pairs::only_head` looks behind the latest head of the body.
use native.Mathlib.Omega.{arith}
use Rattle.pairs.proofs.Lists.{head-low, only-head}
use Rattle.pairs.proofs.only_head.Goals as goal

pub next_head-requires : goal.next_head-requires
next_head-requires c =
    let p = c.requires in
    (omega (arith, c.if-c-eq0.false), head-low p.listed.2 c.args.body c.first_head-c.result p.low c.first_head-c.ensures c.if-c-eq0.false)

pub returns : goal.returns
returns c codes valid l =
    only-head l c.args.body c.first_head-c.result c.requires.low c.first_head-c.ensures c.if-c-eq0.false c.next_head.result c.next_head.ensures c.if-next_head-ne0.false

-- By the kind.
use Rattle.std.proofs.Common.{arith}
use Rattle.loading.proofs.Usables.{first-proper, second-proper}
use Rattle.loading.proofs.Adding.{one-added}
use Rattle.loading.proofs.Bodies.{one-used, two-used}
use Rattle.loading.proofs.add_uses.Goals as goal

pub add_use-requires : goal.add_use-requires
add_use-requires c =
    let r = c.requires in
    record {
      listed = r.room.listed;
      room = (omega (arith, r.room.few.0), omega (arith, r.room.few.1));
      fitting = rw c.first_of.ensures (first-proper c.args.s r.format r.some.1).fitting;
    }

pub returns-then-s-eq1 : goal.returns-then-s-eq1
returns-then-s-eq1 c =
    let r = c.requires in
    let a = rw c.first_of.ensures at c.add_use.ensures in
    one-used c.args.s r.format r.some.1 c.args.v c.args.i c.if-s-eq1.true
    (one-added (first-proper c.args.s r.format r.some.1) r.some.2 r.room.formed a)

pub add_use-requires-2 : goal.add_use-requires-2
add_use-requires-2 c =
    let r = c.requires in
    let d = c.add_use.ensures in
    record {
      listed = d.listed;
      room = (omega (arith, r.room.few.0, d.one.0), omega (arith, r.room.few.1, d.one.1));
      fitting = rw c.second_of.ensures (second-proper c.args.s r.format r.some.1 c.if-s-eq1.false).fitting;
    }

pub returns : goal.returns
returns c =
    let r = c.requires in
    let s = c.args.s in
    let a = rw c.first_of.ensures at c.add_use.ensures in
    let b = rw c.second_of.ensures at c.add_use-2.ensures in
    let first = one-added (first-proper s r.format r.some.1) r.some.2 r.room.formed a in
    two-used s r.format r.some.1 c.args.v c.args.i c.if-s-eq1.false first
    (one-added (second-proper s r.format r.some.1 c.if-s-eq1.false) r.some.2 first.formed b)

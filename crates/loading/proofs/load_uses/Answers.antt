use Rattle.std.proofs.Common.{◌<◌, arith}
use Rattle.loading.proofs.Usables.{decoded-stated}
use Rattle.loading.proofs.Parts.{part-start, part_room, part-next, part-whole}
use Rattle.loading.proofs.load_uses.Goals as goal

pub loop-i-init : goal.loop-i-init
loop-i-init c = part-start c.requires.none

pub load_use-requires : goal.load_use-requires
load_use-requires c =
    let l : c.loop-i.i < 256 = omega (arith, c.requires.decoded.few) in
    record {
      room = part_room c.loop-i.invariant l;
      spans = c.requires.spans;
      format = (l, decoded-stated c.requires.decoded c.loop-i.i c.loop-i-test.true);
    }

pub loop-i-preserved : goal.loop-i-preserved
loop-i-preserved c =
    let l : c.loop-i.i < 256 = omega (arith, c.requires.decoded.few) in
    part-next c.loop-i.invariant l c.load_use.ensures

pub returns : goal.returns
returns c = part-whole c.loop-i.invariant (omega arith)

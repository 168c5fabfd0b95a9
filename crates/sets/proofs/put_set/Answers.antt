-- One entity more, and all of them between the braces.
use Rattle.std.proofs.Common.{arith}
use Rattle.sets.proofs.Listing.{more, whole}
use Rattle.sets.proofs.put_set.Goals as goal

pub loop-e-preserved : goal.loop-e-preserved
loop-e-preserved g c =
    rw c.has-later.ensures (more c.args.set c.loop-e.e c.loop-e.invariant c.put_entity.ensures.text c.put_entity.ensures.within)

pub returns-clause-text : goal.returns-clause-text
returns-clause-text g c = whole _ c.args.set c.loop-e.e (omega arith) c.put_byte.ensures c.loop-e.invariant c.put_byte-2.ensures

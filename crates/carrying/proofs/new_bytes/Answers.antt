use mathlib.Core.Path.{ap, ◌∙◌}
use Prim.Native.Nat.{◌+◌, ◌*◌}
use native.Mathlib.Omega.{arith}
use lib.ListN.{length, take}
use Rattle.blocks.proofs.Writing.{written-length}
use Rattle.carrying.specs.Carrying.{forward_of}
use Rattle.carrying.proofs.Forwarded.{forward-length}
use Rattle.carrying.proofs.Parts.{new-start}
use Rattle.carrying.proofs.new_bytes.Goals as goal

pub returns : goal.returns
returns c =
    let f = c.args.old.now in let e = c.write_new.ensures in let s = c.requires in
    (ap length e ∙ written-length _ 0 (forward_of f) (omega (arith, forward-length f s.few s.long)) ∙ c.room-new.ensures, ap (take (6 + 20 * c.args.n)) e ∙ new-start f c.args.n s _)

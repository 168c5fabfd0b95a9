-- What both families give is added.
use native.Mathlib.Omega.{arith}
use Rattle.heads.proofs.Stores.{adds-full}
use Rattle.giving.proofs.Families.{families-over, families-both}
use Rattle.giving.proofs.fire_both.Goals as goal

pub returns-in_err-fire_family : goal.returns-in_err-fire_family
returns-in_err-fire_family c =
    let p = c.requires in
    let g = c.in_err-fire_family.ensures in
    adds-full c.from_residual.ensures.0 g.within (families-over p.held c.args.t.e p.firing.low c.role_of-role.ensures g.gains (omega arith))

pub returns : goal.returns
returns c =
    let p = c.requires in
    let g = c.in_ok-fire_family.ensures in
    let h = c.fire_family-2.ensures in
    record { gains = families-both p.held c.args.t.e p.firing.low c.role_of-role.ensures g.gains g.within h.gains; within = h.within }

-- `position` meets its contract.
use mathlib.Core.Path.{sym, ◌∙◌}
use native.Mathlib.Omega.{arith}
use Rattle.cutting.proofs.Cutting.{placed-twice, placed-found}
use Rattle.cutting.proofs.position.Statement.{statement}
use Rattle.cutting.proofs.position.Tie as tie

serial-at-requires : tie.Need-serial_at-x-requires
serial-at-requires c κs = let s = c.before.before.requires.2.whole in omega arith

repeated-requires : tie.Need-repeated-requires
repeated-requires c κs = let s = c.before.before.before.requires.2.whole in omega arith

returns : tie.Need-returns-then-repeated
returns c = placed-twice c.before.before.before.before.before.args.file.now c.before.before.before.before.before.args.list.now c.before.before.before.before.before.args.n c.before.before.before.before.before.args.k c.before.before.serial_at-x.ensures (sym c.if-repeated.true ∙ c.before.repeated.ensures)

position-of-requires : tie.Need-position_of-requires
position-of-requires c κs = let s = c.before.before.before.before.before.requires.0.whole in omega arith

returns-2 : tie.Need-returns
returns-2 c = placed-found c.before.before.before.before.before.before.args.file.now c.before.before.before.before.before.before.args.list.now c.before.before.before.before.before.before.args.n c.before.before.before.before.before.before.args.k c.before.before.before.serial_at-x.ensures (sym c.before.if-repeated.false ∙ c.before.before.repeated.ensures) c.position_of.ensures

pub position_spec : {M : Type 1} → statement M
position_spec =
    tie.close
    (tie.spec serial-at-requires repeated-requires returns position-of-requires returns-2)

-- The number of an entity has at most two digits.
use Rattle.std.proofs.Common.{ℕ, ap, arith, length, length-append}
use Rattle.text.proofs.Decimal.{length_two}
use Rattle.sets.proofs.put_entity.Goals as goal
use Rattle.sets.proofs.put_entity.Goals.{then-later, else-later}

pub returns-clause-within : goal.returns-clause-within
returns-clause-within g c =
    let d = length_two c.args.e (omega arith) in
    elim c.if-later.branch [
      | then-later w ↦ omega (arith, length-append {A = ℕ}, ap length c.put_decimal.ensures.text, ap length w.out-is, ap length w.put_byte.ensures)
      | else-later w ↦ omega (arith, length-append {A = ℕ}, ap length c.put_decimal.ensures.text, ap length w.out-is)
    ]

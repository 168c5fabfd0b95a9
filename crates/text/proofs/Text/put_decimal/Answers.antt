-- A number has at most ten digits.
use Rattle.std.proofs.Common.{arith, length, take, ap, ◌≡◌}
use Rattle.std.proofs.lemmas.List.{length-take, length-take-le}
use Rattle.text.proofs.Text.put_decimal.Goals as goal

pub returns-clause-within : goal.returns-clause-within
returns-clause-within g c =
    let h : length (take c.self.inside.end c.self.inside.bytes) ≡ c.self.inside.end = length-take-le _ _ (omega (arith, c.self.invariant)) in
    simp (length-take) (omega (arith, c.put_digits.ensures.few, h, ap length c.self.view_is))

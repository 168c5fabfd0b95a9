-- `put_period` meets its contract.
use mathlib.Core.Path.{subst⁻¹}
use mathlib.Core.List.{List}
use Prim.Native.Nat.{ℕ}
use Rattle.policy.specs.Policy.{PeriodPut}
use Rattle.policy.proofs.Periods.{period-put}
use borrow.Author.Rules.{rules}
use Rattle.policy.proofs.put_period.Statement.{statement}
use Rattle.policy.proofs.put_period.Tie as tie

period-word-requires : tie.Need-period_word-period-requires
period-word-requires c κs = search rules

put-number-requires : tie.Need-put_number-requires
put-number-requires c κs = search rules

returns : tie.Need-returns
returns c = let s = c.before.before.before.args in
    subst⁻¹ (λ (q : List ℕ). PeriodPut s.policy.now q s.i s.v) c.put_number.ensures
    (period-put s.policy.now s.i _ s.v c.before.put_number-arg-1.given.0.1 c.before.before.before.requires c.before.before.period_word-period.ensures.0 c.before.before.period_word-period.ensures.1)

pub put_period_spec : {M : Type 1} → statement M
put_period_spec = tie.close (tie.spec period-word-requires put-number-requires returns)

use Rattle.std.proofs.Common.{arith}
use Rattle.policy.proofs.Policies.{decoded-fits}
use Rattle.writing.proofs.Writing.{stored-linked}
use Rattle.tabling.proofs.Tabling.{worked-over, worked-full, worked}
use Rattle.tabling.proofs.write_table.Goals as goal

pub returns-in_err-fill : goal.returns-in_err-fill
returns-in_err-fill c =
    worked-full c.from_residual.ensures.0 (worked-over (decoded-fits _ _ c.requires.loadable.decoded) _ (omega arith) (c.in_err-fill.ensures.filled.over (omega arith)))

pub write_rows-requires-clause-linked : goal.write_rows-requires-clause-linked
write_rows-requires-clause-linked c = let f = c.in_ok-fill.ensures in stored-linked (f.filled.stored f.within)

pub returns : goal.returns
returns c =
    let f = c.in_ok-fill.ensures in
    record { worked = worked (decoded-fits _ _ c.requires.loadable.decoded) _ f.within f.filled c.write_rows.ensures; within = f.within }

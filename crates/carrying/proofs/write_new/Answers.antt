use Rattle.carrying.proofs.Parts.{new-parts}
use Rattle.carrying.proofs.write_new.Goals as goal

pub returns : goal.returns
returns c = let a = c.args in new-parts a.old.now a.n c.requires.fact_1 a.dst.now c.requires.fact_2 c.copy.ensures c.put_statements.ensures c.put_periods.ensures

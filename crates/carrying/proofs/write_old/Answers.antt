use Rattle.carrying.proofs.Parts.{old-parts}
use Rattle.carrying.proofs.write_old.Goals as goal

pub returns : goal.returns
returns c =
    let a = c.args in let r = c.requires in
    old-parts a.file.now a.n r.0 r.1 r.2 a.dst.now r.3 c.copy.ensures c.copy_statements.ensures c.put_periods.ensures

use Rattle.carrying.proofs.Judged.{judges}
use Rattle.carrying.proofs.judge.Goals as goal

pub returns : goal.returns
returns c = let s = c.survey_file-s in judges c.args.file.now s.result s.ensures

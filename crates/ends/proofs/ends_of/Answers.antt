use Rattle.ends.proofs.Answers.{ends-refused, ends-done}
use Rattle.ends.proofs.ends_of.Goals as goal

pub returns-then-s-ne0 : goal.returns-then-s-ne0
returns-then-s-ne0 c = ends-refused _ _ _ _ c.survey-s.ensures c.no_ends.ensures c.if-s-ne0.true

pub returns : goal.returns
returns c = ends-done _ _ _ _ c.survey-s.ensures c.if-s-ne0.false

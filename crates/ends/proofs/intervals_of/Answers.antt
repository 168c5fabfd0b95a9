use mathlib.Core.Path.{◌∙◌}
use Rattle.ends.proofs.Answers.{intervals-refused, intervals-beyond, intervals-done}
use Rattle.ends.proofs.intervals_of.Goals as goal

pub returns-then-s-ne0 : goal.returns-then-s-ne0
returns-then-s-ne0 c = c.no_intervals.ensures ∙ intervals-refused _ _ _ _ c.survey-s.ensures c.args.spans c.if-s-ne0.true

pub returns-then-spans-count-ne0 : goal.returns-then-spans-count-ne0
returns-then-spans-count-ne0 c = c.no_intervals-then-spans-count-ne0.ensures ∙ intervals-beyond _ _ _ _ c.survey-s.ensures c.args.spans c.if-s-ne0.false c.span_count-count.ensures c.if-spans-count-ne0.true

pub returns : goal.returns
returns c = c.join_spans.ensures ∙ intervals-done _ _ _ _ c.survey-s.ensures c.args.spans c.if-s-ne0.false c.span_count-count.ensures c.if-spans-count-ne0.false

use Rattle.std.proofs.Common.{sym}
use Rattle.withdrawals.specs.Source.{◌without◌}
use Rattle.completing.specs.Completing.{lent}
use Rattle.completing.proofs.Replies.{refused-ending, nine-ending, last-ending}
use Rattle.completing.proofs.complete.Goals as goal

pub returns-then-s-ne0 : goal.returns-then-s-ne0
returns-then-s-ne0 c = refused-ending _ _ _ _ _ c.survey-s.ensures c.if-s-ne0.true

pub returns-then-not-of_one_length : goal.returns-then-not-of_one_length
returns-then-not-of_one_length c =
    let a = c.args in
    nine-ending (a.file.now without a.withdrawals.now) (lent a.roles.now a.sets.now a.spans.now) _ _ _ c.survey-s.ensures c.if-s-ne0.false (sym c.if-not-of_one_length.ensures)

pub returns : goal.returns
returns c =
    let a = c.args in
    last-ending (a.file.now without a.withdrawals.now) (lent a.roles.now a.sets.now a.spans.now) _ _ _ c.survey-s.ensures c.if-s-ne0.false (sym c.if-not-of_one_length.ensures) c.finish.ensures

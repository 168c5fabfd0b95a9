use mathlib.Core.Path.{◌∙◌}
use Rattle.withdrawals.specs.Source.{◌without◌}
use Rattle.intervals_bytes.proofs.Replies.{refused-ended, done-ended}
use Rattle.intervals_bytes.proofs.intervals.Goals as goal

pub returns-then-number-ne0 : goal.returns-then-number-ne0
returns-then-number-ne0 c =
    let a = c.args in let v = c.intervals_of-v in let k = c.number_for-number in
    let e = refused-ended (a.file.now without a.withdrawals.now) a.spans a.bounds.now v.result v.ensures k.result k.ensures c.if-number-ne0.true in
    record { value = c.refusal.ensures ∙ e.0; bounds_after = e.1 }

pub returns : goal.returns
returns c =
    let a = c.args in let v = c.intervals_of-v in let k = c.number_for-number in
    let e = done-ended (a.file.now without a.withdrawals.now) a.spans a.bounds.now v.result v.ensures k.result k.ensures c.if-number-ne0.false c.bounds_of-places.ensures c.encode32.ensures in
    record { value = e.0; bounds_after = e.1 }

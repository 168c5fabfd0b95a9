-- The refusal, or the steps of the entry found.
use Rattle.std.proofs.Common.{arith}
use Rattle.withdrawals.specs.Source.{◌without◌}
use Rattle.asking.specs.Asking.{request}
use Rattle.finding.proofs.Sizes.{some, some-sized}
use Rattle.querying.proofs.Replies.{citing, proves-refused, proves-proof}
use Rattle.querying.proofs.prove.Goals as goal

pub returns-then-found-ne0 : goal.returns-then-found-ne0
returns-then-found-ne0 c = λ t z.
    let a = c.args in
    proves-refused (a.file.now without a.withdrawals.now) (request a.role a.set a.minute) t (c.find-found.ensures t z) c.if-found-ne0.true c.refused.ensures

pub keep-count-requires : goal.keep-count-requires
keep-count-requires c =
    let a = c.args in
    let s = (c.find-found.ensures (some a.credential a.first a.second a.sets) (some-sized a.credential a.first a.second a.sets)).shows c.if-found-ne0.false in
    (s.low.1, citing s.derivation)

pub overflow_cast-count : goal.overflow_cast-count
overflow_cast-count c =
    let a = c.args in
    let s = (c.find-found.ensures (some a.credential a.first a.second a.sets) (some-sized a.credential a.first a.second a.sets)).shows c.if-found-ne0.false in
    omega (arith, c.keep-count.ensures.keeps.few, s.low.1)

pub returns : goal.returns
returns c = λ t z.
    let a = c.args in
    proves-proof (a.file.now without a.withdrawals.now) (request a.role a.set a.minute) t (c.find-found.ensures t z) c.if-found-ne0.false c.ranges.set.fits c.keep-count.ensures.keeps c.proof.ensures

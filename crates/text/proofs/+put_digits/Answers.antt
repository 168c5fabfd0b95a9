-- The digits of a tenth stand first, and then the last digit.
use Rattle.std.proofs.Common.{sym, ◌∙◌, arith, rules}
use Rattle.std.proofs.lemmas.List.{take_more_set}
use Rattle.text.proofs.Decimal.{decimal-length, decimal_digit, decimal-more, length-digit, length_more}
use Rattle.text.proofs.+put_digits.Goals as goal

pub returns-then-x-lt10-clause-count : goal.returns-then-x-lt10-clause-count
returns-then-x-lt10-clause-count t c = sym (length-digit c.args.x c.if-x-lt10.true)

pub returns-then-x-lt10-clause-text : goal.returns-then-x-lt10-clause-text
returns-then-x-lt10-clause-text t c = take_more_set _ 0 _ (search rules) ∙ sym (decimal_digit c.args.x c.if-x-lt10.true)

pub bounds-digits-last : goal.bounds-digits-last
bounds-digits-last t c = omega (arith, decimal-length c.args.x, length_more c.args.x c.if-x-lt10.false c.ranges.x.fits)

pub returns-clause-count : goal.returns-clause-count
returns-clause-count t c = omega (arith, length_more c.args.x c.if-x-lt10.false c.ranges.x.fits)

pub returns-clause-text : goal.returns-clause-text
returns-clause-text t c =
    let m = length_more c.args.x c.if-x-lt10.false c.ranges.x.fits in
    take_more_set _ _ _ (omega (arith, decimal-length c.args.x))
    ∙ rw (c.put_digits-last.ensures.text, decimal-more c.args.x c.if-x-lt10.false c.ranges.x.fits)

pub returns-clause-few : goal.returns-clause-few
returns-clause-few t c = omega (arith, decimal-length c.args.x, length_more c.args.x c.if-x-lt10.false c.ranges.x.fits)

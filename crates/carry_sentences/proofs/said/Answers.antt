-- `said` chooses the sentence of the number.
use mathlib.Core.Path.{sym}
use borrow.Author.Tests.{ne_eqb}
use Rattle.carry_sentences.specs.CarrySentences.{carry_text}
use Rattle.carry_sentences.proofs.Wording.{kind-line, unused-line, refused-line}
use native.Mathlib.Omega.{arith}
use Rattle.carry_sentences.proofs.said.Goals as goal

pub returns-in-3 : goal.returns-in-3
unfolding carry_text
returns-in-3 c = rw c.in-3.is c.wrong_length.ensures

pub returns-in-4 : goal.returns-in-4
unfolding carry_text
returns-in-4 c = rw (c.in-4.is, sym c.kind_at.ensures) (kind-line _ _)

pub returns-in-5 : goal.returns-in-5
unfolding carry_text
returns-in-5 c = rw c.in-5.is c.range.ensures

pub returns-in-6 : goal.returns-in-6
unfolding carry_text
returns-in-6 c = rw (c.in-6.is, sym c.kind_at-in-6.ensures) (unused-line _ _)

pub returns-in-7 : goal.returns-in-7
unfolding carry_text
returns-in-7 c = rw c.in-7.is c.period.ensures

pub returns-in-19 : goal.returns-in-19
unfolding carry_text
returns-in-19 c = rw c.in-19.is c.out_of_place.ensures

pub returns-in_default : goal.returns-in_default
unfolding carry_text
returns-in_default c =
    let n = c.args.number in
    rw (ne_eqb n 3 (λ e. omega arith), ne_eqb n 4 (λ e. omega arith), ne_eqb n 5 (λ e. omega arith), ne_eqb n 6 (λ e. omega arith), ne_eqb n 7 (λ e. omega arith), ne_eqb n 19 (λ e. omega arith))
    refused-line

-- `said` chooses the sentence of the number.
use mathlib.Core.Path.{sym}
use borrow.Author.Tests.{ne_eqb}
use Rattle.file_sentences.specs.FileSentences.{file_text}
use Rattle.file_sentences.proofs.Wording.{kind-line, ends-line, memberships-line, refused-line}
use native.Mathlib.Omega.{arith}
use Rattle.file_sentences.proofs.said.Goals as goal

pub returns-in-1 : goal.returns-in-1
unfolding file_text
returns-in-1 c = rw c.in-1.is c.short.ensures

pub returns-in-2 : goal.returns-in-2
unfolding file_text
returns-in-2 c = rw c.in-2.is c.limits.ensures

pub returns-in-3 : goal.returns-in-3
unfolding file_text
returns-in-3 c = rw c.in-3.is c.wrong_length.ensures

pub returns-in-4 : goal.returns-in-4
unfolding file_text
returns-in-4 c = rw (c.in-4.is, sym c.field_at.ensures) (kind-line _ _)

pub returns-in-5 : goal.returns-in-5
unfolding file_text
returns-in-5 c = rw c.in-5.is c.range.ensures

pub returns-in-6 : goal.returns-in-6
unfolding file_text
returns-in-6 c = rw c.in-6.is c.unused.ensures

pub returns-in-7 : goal.returns-in-7
unfolding file_text
returns-in-7 c = rw c.in-7.is c.period.ensures

pub returns-in-8 : goal.returns-in-8
unfolding file_text
returns-in-8 c = rw c.in-8.is ends-line

pub returns-in-10 : goal.returns-in-10
unfolding file_text
returns-in-10 c = rw c.in-10.is memberships-line

pub returns-in-17 : goal.returns-in-17
unfolding file_text
returns-in-17 c = rw c.in-17.is c.serial.ensures

pub returns-in_default : goal.returns-in_default
unfolding file_text
returns-in_default c =
    let n = c.args.number in
    rw (ne_eqb n 1 (λ e. omega arith), ne_eqb n 2 (λ e. omega arith), ne_eqb n 3 (λ e. omega arith), ne_eqb n 4 (λ e. omega arith), ne_eqb n 5 (λ e. omega arith), ne_eqb n 6 (λ e. omega arith), ne_eqb n 7 (λ e. omega arith), ne_eqb n 8 (λ e. omega arith), ne_eqb n 10 (λ e. omega arith), ne_eqb n 17 (λ e. omega arith))
    refused-line

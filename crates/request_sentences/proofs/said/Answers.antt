-- `said` chooses the sentence of the number.
use borrow.Author.Tests.{ne_eqb}
use Rattle.request_sentences.specs.RequestSentences.{request_text}
use Rattle.request_sentences.proofs.Wording.{memberships-line, last_line, unproved-line, refused-line}
use native.Mathlib.Omega.{arith}
use Rattle.request_sentences.proofs.said.Goals as goal

pub returns-in-10 : goal.returns-in-10
unfolding request_text
returns-in-10 c = rw c.in-10.is (memberships-line _)

pub returns-in-11 : goal.returns-in-11
unfolding request_text
returns-in-11 c = rw c.in-11.is c.asked.ensures

pub returns-in-12 : goal.returns-in-12
unfolding request_text
returns-in-12 c = rw c.in-12.is (last_line _)

pub returns-in-13 : goal.returns-in-13
unfolding request_text
returns-in-13 c = rw c.in-13.is (unproved-line _ _ _ _)

pub returns-in_default : goal.returns-in_default
unfolding request_text
returns-in_default c =
    let n = c.args.number in
    rw (ne_eqb n 11 (λ e. omega arith), ne_eqb n 12 (λ e. omega arith), ne_eqb n 10 (λ e. omega arith), ne_eqb n 13 (λ e. omega arith)) refused-line

-- `said` chooses the sentence of the number.
use mathlib.Core.Path.{sym}
use borrow.Author.Tests.{ne_eqb}
use Rattle.list_sentences.specs.ListSentences.{list_text}
use Rattle.list_sentences.proofs.Wording.{refused-line}
use native.Mathlib.Omega.{arith}
use Rattle.list_sentences.proofs.said.Goals as goal

pub returns-in-20 : goal.returns-in-20
unfolding list_text
returns-in-20 c = rw c.in-20.is c.shape.ensures

pub returns-in-21 : goal.returns-in-21
unfolding list_text
returns-in-21 c = rw (c.in-21.is, sym c.first_wrong.ensures.0) c.serial.ensures

pub returns-in_default : goal.returns-in_default
unfolding list_text
returns-in_default c =
    let n = c.args.number in
    rw (ne_eqb n 20 (λ e. omega arith), ne_eqb n 21 (λ e. omega arith)) refused-line

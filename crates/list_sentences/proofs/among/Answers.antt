-- One of the numbers is x, or none.
use Rattle.std.proofs.Common.{sym, ◌∙◌, arith}
use borrow.Author.Tests.{eq-eqb}
use Rattle.list_sentences.proofs.Searching.{is, some_in, none_in}
use Rattle.list_sentences.proofs.among.Goals as goal

pub returns-then-four_at-x : goal.returns-then-four_at-x
returns-then-four_at-x c =
    let a = c.args in
    sym (some_in (is a.bytes.now a.from a.step a.x) a.n c.loop-j.j (omega arith) (eq-eqb _ _ (sym c.four_at.ensures ∙ c.if-four_at-x.true)))

pub returns : goal.returns
returns c =
    let a = c.args in
    sym (none_in (is a.bytes.now a.from a.step a.x) a.n (λ i m. c.loop-j.invariant i (omega arith)))

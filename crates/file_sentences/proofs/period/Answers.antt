-- `period` says which of the two numbers is wrong.
use mathlib.Core.Path.{sym}
use borrow.Author.Tests.{lt-ltb, le-ltb}
use Rattle.file_sentences.proofs.Wording.{period-line, last_line}
use Rattle.file_sentences.proofs.period.Goals as goal

pub returns-then-to-from : goal.returns-then-to-from
returns-then-to-from c =
    rw (sym c.two_at-n.ensures.0, sym c.four_at-from.ensures, sym c.four_at-to.ensures, lt-ltb _ _ c.if-to-from.true) (period-line _ _ _)

pub returns : goal.returns
returns c =
    rw (sym c.two_at-n.ensures.0, sym c.four_at-from.ensures, sym c.four_at-to.ensures, le-ltb _ _ c.if-to-from.false) (last_line _ _)

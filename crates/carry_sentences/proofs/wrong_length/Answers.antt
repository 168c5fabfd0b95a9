-- `wrong_length` says the length, or that it is too large, and the one that it should be.
use mathlib.Core.Path.{sym}
use borrow.Author.Tests.{lt-ltb, le-ltb}
use Rattle.carry_sentences.proofs.Wording.{length-line, length-long-line}
use Rattle.carry_sentences.proofs.wrong_length.Goals as goal

pub returns-then-n-gt5126 : goal.returns-then-n-gt5126
returns-then-n-gt5126 c = rw (sym c.two_at-credentials.ensures.0, lt-ltb _ _ c.if-n-gt5126.true) (length-long-line _ _)

pub returns : goal.returns
returns c = rw (sym c.two_at-credentials.ensures.0, le-ltb _ _ c.if-n-gt5126.false) (length-line _ _ _)

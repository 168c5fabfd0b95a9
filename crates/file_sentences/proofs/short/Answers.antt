-- `short` says the length, or that it is too large.
use borrow.Author.Tests.{lt-ltb, le-ltb}
use Rattle.file_sentences.proofs.Wording.{short-line, short-long-line}
use Rattle.file_sentences.proofs.short.Goals as goal

pub returns-then-n-gt5126 : goal.returns-then-n-gt5126
returns-then-n-gt5126 c = rw (lt-ltb _ _ c.if-n-gt5126.true) short-long-line

pub returns : goal.returns
returns c = rw (le-ltb _ _ c.if-n-gt5126.false) (short-line _)

-- `shape` says how many bytes or withdrawals the list has, and of another length how many bytes they take.
use mathlib.Core.Path.{sym}
use borrow.Author.Tests.{lt-ltb, le-ltb}
use Rattle.list_sentences.proofs.Wording.{short-line, many-line, length-line, length-long-line}
use Rattle.list_sentences.proofs.shape.Goals as goal

pub returns-then-n-lt2 : goal.returns-then-n-lt2
returns-then-n-lt2 c = rw (lt-ltb _ _ c.if-n-lt2.true) (short-line _)

pub returns-then-count-gt256 : goal.returns-then-count-gt256
returns-then-count-gt256 c = rw (le-ltb _ _ c.if-n-lt2.false, sym c.two_at-count.ensures.0, lt-ltb _ _ c.if-count-gt256.true) (many-line _)

pub returns-then-n-gt2050 : goal.returns-then-n-gt2050
returns-then-n-gt2050 c = rw (le-ltb _ _ c.if-n-lt2.false, sym c.two_at-count.ensures.0, le-ltb _ _ c.if-count-gt256.false, lt-ltb _ _ c.if-n-gt2050.true) (length-long-line _ _)

pub returns : goal.returns
returns c = rw (le-ltb _ _ c.if-n-lt2.false, sym c.two_at-count.ensures.0, le-ltb _ _ c.if-count-gt256.false, le-ltb _ _ c.if-n-gt2050.false) (length-line _ _ _)

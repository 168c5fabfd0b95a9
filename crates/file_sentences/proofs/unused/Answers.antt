-- `unused` says the byte that should be zero.
use mathlib.Core.Path.{sym}
use Rattle.file_sentences.proofs.Wording.{unused-line}
use Rattle.file_sentences.proofs.unused.Goals as goal

pub returns : goal.returns
returns c = rw (sym c.stray_byte-j.ensures, sym c.field_at.ensures, sym c.field_at-2.ensures) (unused-line _ _ _ _)

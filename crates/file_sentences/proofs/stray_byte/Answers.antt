-- `stray_byte` tests s, c and t where the kind does not use them, and byte 7.
use Rattle.file_sentences.proofs.Strays.{unused-first}
use Rattle.file_sentences.proofs.stray_byte.Goals as goal

pub returns : goal.returns
returns c = rw (c.either.ensures, c.either-second.ensures, c.either-third.ensures, c.either-last.ensures, c.field_at-4.ensures, c.field_at-3.ensures, c.field_at-2.ensures, c.field_at.ensures, c.field_at-kind.ensures, unused-first)

-- `range` says the file's numbers of entities and names.
use mathlib.Core.Path.{sym}
use Rattle.carry_sentences.proofs.Wording.{range-line}
use Rattle.carry_sentences.proofs.range.Goals as goal

pub returns : goal.returns
returns c = rw (sym c.two_at-entities.ensures.0, sym c.two_at-names.ensures.0) (range-line _ _ _)

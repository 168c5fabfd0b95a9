-- `out_of_place` says the serial.
use mathlib.Core.Path.{sym}
use Rattle.carry_sentences.proofs.Wording.{place-line}
use Rattle.carry_sentences.proofs.out_of_place.Goals as goal

pub returns : goal.returns
returns c = rw (sym c.four_at-serial.ensures) (place-line _ _)

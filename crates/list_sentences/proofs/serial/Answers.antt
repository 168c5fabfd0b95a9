-- `serial` says the serial, and whether an earlier withdrawal has it or no credential.
use mathlib.Core.Path.{sym, ◌∙◌}
use Rattle.list_sentences.proofs.Wording.{repeated-line, unheld-line}
use Rattle.list_sentences.proofs.serial.Goals as goal

pub returns-then-repeated : goal.returns-then-repeated
returns-then-repeated c = rw (sym c.repeated.ensures ∙ c.if-repeated.true, sym c.serial_at-x.ensures) (repeated-line _ _)

pub returns : goal.returns
returns c = rw (sym c.repeated.ensures ∙ c.if-repeated.false, sym c.serial_at-x.ensures) (unheld-line _ _)

-- `period` says the two numbers of the period.
use mathlib.Core.Path.{sym}
use Rattle.carry_sentences.proofs.Wording.{period-line}
use Rattle.carry_sentences.proofs.period.Goals as goal

pub returns : goal.returns
returns c = rw (sym c.two_at-n.ensures.0, sym c.four_at-from.ensures, sym c.four_at-to.ensures) (period-line _ _ _)

-- The words fit, and the line is the sentence of the number.
use Rattle.carry_sentences.specs.CarryWords.{carry_words}
use Rattle.carry_sentences.specs.CarrySentences.{carry_sentence}
use Rattle.carry_sentences.proofs.Wording.{words-fit}
use Rattle.carry_sentences.proofs.carry_line.Goals as goal

pub filled_line-requires : goal.filled_line-requires
unfolding carry_words
filled_line-requires c = words-fit

pub returns : goal.returns
unfolding carry_sentence carry_words
returns c = rw c.said-s.ensures at c.filled_line.ensures

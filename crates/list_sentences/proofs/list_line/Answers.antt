-- The words fit, and the line is the sentence of the number.
use Rattle.list_sentences.specs.ListWords.{list_words}
use Rattle.list_sentences.specs.ListSentences.{list_sentence}
use Rattle.list_sentences.proofs.Wording.{words-fit}
use Rattle.list_sentences.proofs.list_line.Goals as goal

pub filled_line-requires : goal.filled_line-requires
unfolding list_words
filled_line-requires c = words-fit

pub returns : goal.returns
unfolding list_sentence list_words
returns c = rw c.said-s.ensures at c.filled_line.ensures

-- The words fit, and the line is the sentence of the number.
use Rattle.request_sentences.specs.RequestWords.{request_words}
use Rattle.request_sentences.specs.RequestSentences.{request_sentence}
use Rattle.request_sentences.proofs.Wording.{words-fit}
use Rattle.request_sentences.proofs.request_line.Goals as goal

pub filled_line-requires : goal.filled_line-requires
unfolding request_words
filled_line-requires c = words-fit

pub returns : goal.returns
unfolding request_sentence request_words
returns c = rw c.said-s.ensures at c.filled_line.ensures

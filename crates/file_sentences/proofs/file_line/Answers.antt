-- The words fit, and the line is the sentence of the number.
use Rattle.file_sentences.specs.FileWords.{file_words}
use Rattle.file_sentences.specs.FileSentences.{file_sentence}
use Rattle.file_sentences.proofs.Wording.{words-fit}
use Rattle.file_sentences.proofs.file_line.Goals as goal

pub filled_line-requires : goal.filled_line-requires
unfolding file_words
filled_line-requires c = words-fit

pub returns : goal.returns
unfolding file_sentence file_words
returns c = rw c.said-s.ensures at c.filled_line.ensures

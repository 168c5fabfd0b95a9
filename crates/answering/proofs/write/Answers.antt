use Rattle.answering.proofs.Writing.{column-words}
use Rattle.answering.proofs.write.Goals as goal

pub returns-clause-credential : goal.returns-clause-credential
returns-clause-credential c = column-words _ _ _ _ _ c.put_words.ensures

pub returns-clause-first : goal.returns-clause-first
returns-clause-first c = column-words _ _ _ _ _ c.put_words-2.ensures

pub returns-clause-second : goal.returns-clause-second
returns-clause-second c = column-words _ _ _ _ _ c.put_words-3.ensures

pub returns-clause-sets : goal.returns-clause-sets
returns-clause-sets c = column-words _ _ _ _ _ c.put_sets.ensures

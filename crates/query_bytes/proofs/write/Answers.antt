use mathlib.Core.Path.{refl, ap, ◌∙◌}
use Rattle.codec.specs.Bytes.{bytes_of}
use Rattle.answering.proofs.Writing.{column-words}
use Rattle.query_bytes.proofs.write.Goals as goal

pub returns-clause-credential : goal.returns-clause-credential
returns-clause-credential c = let a = c.args in c.put_words.ensures ∙ ap (bytes_of 4) (column-words a.store.now.keys a.store.now.notes a.count (λ s. s.credential) a.n refl)

pub returns-clause-first : goal.returns-clause-first
returns-clause-first c = let a = c.args in c.put_words-2.ensures ∙ ap (bytes_of 4) (column-words a.store.now.keys a.store.now.notes a.count (λ s. s.first) a.n refl)

pub returns-clause-second : goal.returns-clause-second
returns-clause-second c = let a = c.args in c.put_words-3.ensures ∙ ap (bytes_of 4) (column-words a.store.now.keys a.store.now.notes a.count (λ s. s.second) a.n refl)

pub returns-clause-sets : goal.returns-clause-sets
returns-clause-sets c = let a = c.args in c.put_sets.ensures ∙ ap (bytes_of 4) (column-words a.store.now.keys a.store.now.notes a.count (λ s. s.set) a.n refl)

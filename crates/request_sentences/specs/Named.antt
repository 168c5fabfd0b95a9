-- What a sentence names is at fault: of refusal 11, which looks for the first entity of a set.
use Rattle.std.specs.Prelude.{◌≡◌, true, List, ℕ, ◌≤◌}
use Rattle.text.specs.Ascii.{ascii}
use Rattle.sets.specs.Sets.{has}
use Rattle.file.specs.Format.{E}
use Rattle.sentences.specs.Words.{◌then◌, no_entity}
use Rattle.request_sentences.specs.RequestSentences.{asked_text}

-- 11: an entity of the set that is not below E
pub record MemberNamed (f : List ℕ) (A r X : ℕ) : Type 0 where
  pub at : ℕ
  pub member : has X at ≡ true
  pub large : E f ≤ at
  pub says : asked_text f A r X ≡ ascii "the set has entity " then no_entity f at

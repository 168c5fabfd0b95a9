-- The words of the sentences, a line for each, with places for numbers.
use Rattle.std.specs.Prelude.{List, [], ◌∷◌, ℕ}
use Rattle.sentences.specs.Filling.{lines_of}

unfoldable pub request_words : List ℕ
request_words = lines_of (
    "refused"
    ∷ "issuer #, the file has # {entity|entities}"
    ∷ "role name #, the file has # {role name|role names}"
    ∷ "the set is empty"
    ∷ "the set has entity #, the file has # {entity|entities}"
    ∷ "minute #, the last minute is 4294967294"
    ∷ "more than 1024 memberships at minute #"
    ∷ "no proof that @ holds #.# at minute #"
    ∷ [])

-- The words of the sentences, a line for each, with places for numbers. The third is said after no refusal: it makes the sentence of 1 total.
use Rattle.std.specs.Prelude.{List, [], ◌∷◌, ℕ}
use Rattle.sentences.specs.Filling.{lines_of}

unfoldable pub file_words : List ℕ
file_words = lines_of (
    "refused"
    ∷ "the file has # {byte|bytes}, fewer than 6"
    ∷ "the file has more than 5126 bytes, fewer than 6"
    ∷ "# entities, 1 to 32 are allowed"
    ∷ "# role names, 1 to 32 are allowed"
    ∷ "# credentials, at most 256 are allowed"
    ∷ "the file has # {byte|bytes}, # {credential takes |credentials take }#"
    ∷ "the file has more than 5126 bytes, # {credential takes |credentials take }#"
    ∷ "credential #: kind #, kinds are 0 to 5"
    ∷ "credential #: entity #, the file has # {entity|entities}"
    ∷ "credential #: role name #, the file has # {role name|role names}"
    ∷ "credential #: byte # is #, kind # has 0 there"
    ∷ "credential #: from # is above to #"
    ∷ "credential #: to #, the last minute is 4294967294"
    ∷ "credential #: the serial is 0"
    ∷ "credential #: serial #, an earlier credential has it"
    ∷ "the periods have more than 64 ends"
    ∷ "more than 1024 memberships"
    ∷ [])

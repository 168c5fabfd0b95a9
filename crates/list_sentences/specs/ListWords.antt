-- The words of the sentences, a line for each, with places for numbers.
use Rattle.std.specs.Prelude.{List, [], ◌∷◌, ℕ}
use Rattle.sentences.specs.Filling.{lines_of}

unfoldable pub list_words : List ℕ
list_words = lines_of (
    "refused"
    ∷ "the withdrawal list has # {byte|bytes}, fewer than 2"
    ∷ "the withdrawal list has # withdrawals, at most 256 are allowed"
    ∷ "the withdrawal list has # {byte|bytes}, # {withdrawal takes |withdrawals take }#"
    ∷ "the withdrawal list has more than 2050 bytes, # {withdrawal takes |withdrawals take }#"
    ∷ "withdrawal #: serial #, an earlier withdrawal has it"
    ∷ "withdrawal #: serial #, no credential has it"
    ∷ [])

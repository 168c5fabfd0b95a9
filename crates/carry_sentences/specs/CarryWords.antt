-- The words of the sentences, a line for each, with places for numbers.
use Rattle.std.specs.Prelude.{List, [], ◌∷◌, ℕ}
use Rattle.sentences.specs.Filling.{lines_of}

unfoldable pub carry_words : List ℕ
carry_words = lines_of (
    "refused"
    ∷ "the file has # {byte|bytes}, an old file of # {credential|credentials} takes #"
    ∷ "the file has more than 5126 bytes, an old file of # {credential|credentials} takes #"
    ∷ "credential #: kind #, kinds are 0 to 5"
    ∷ "credential #: an entity is not below # or a role name is not below #"
    ∷ "credential #: a byte that kind # does not use is not 0"
    ∷ "credential #: from # is not below to #"
    ∷ "credential #: serial # is not its position plus one"
    ∷ [])

-- What a refusal of bringing a file forward or back means: a line of text that says what is wrong, and where. 3 to 7 are said of an old file, 19 of a new one.
use Rattle.std.specs.Prelude.{List, [], ◌∷◌, ℕ, length}
use Rattle.text.specs.Ascii.{ascii}
use Rattle.text.specs.Lines.{decimal}
use Rattle.file.specs.Format.{E, R, N, serial_of}
use Rattle.old_file.specs.OldFormat.{old_length, old_field, old_from, old_to}
use Rattle.sentences.specs.Words.{◌then◌, counted, Saying, ◌says◌, said}
use Rattle.file_sentences.specs.FileSentences.{size_text, of_credential}

-- 3
abbrev pub old_length_text : List ℕ → List ℕ
old_length_text f =
    ascii "the file has " then size_text (length f) then ascii ", an old file of "
    then counted (N f) (ascii " credential") (ascii " credentials") then ascii " takes " then decimal (old_length (N f))

-- 4
abbrev pub old_kind_text : List ℕ → ℕ → List ℕ
old_kind_text f i = ascii "kind " then decimal (old_field f i 0) then ascii ", kinds are 0 to 5"

-- 5
abbrev pub old_range_text : List ℕ → List ℕ
old_range_text f =
    ascii "an entity is not below " then decimal (E f) then ascii " or a role name is not below " then decimal (R f)

-- 6
abbrev pub old_unused_text : List ℕ → ℕ → List ℕ
old_unused_text f i = ascii "a byte that kind " then decimal (old_field f i 0) then ascii " does not use is not 0"

-- 7
abbrev pub old_period_text : List ℕ → ℕ → List ℕ
old_period_text f i = ascii "from " then decimal (old_from f i) then ascii " is not below to " then decimal (old_to f i)

-- 19
abbrev pub place_text : List ℕ → ℕ → List ℕ
place_text f i = ascii "serial " then decimal (serial_of f i) then ascii " is not its position plus one"

-- the refusals at a place
abbrev pub carry_sayings : List ℕ → ℕ → List Saying
carry_sayings f i =
    (3 says old_length_text f)
    ∷ (4 says of_credential i (old_kind_text f i))
    ∷ (5 says of_credential i (old_range_text f))
    ∷ (6 says of_credential i (old_unused_text f i))
    ∷ (7 says of_credential i (old_period_text f i))
    ∷ (19 says of_credential i (place_text f i))
    ∷ []

-- What is said of a refusal of the file f, by its number and place; and the line that says it.
unfoldable pub carry_text : List ℕ → ℕ → ℕ → List ℕ
carry_text f number place = said number (carry_sayings f place)

unfoldable pub carry_sentence : List ℕ → ℕ → ℕ → List ℕ
carry_sentence f number place = carry_text f number place then ascii "\n"

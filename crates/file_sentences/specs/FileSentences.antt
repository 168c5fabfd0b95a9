-- What a refusal of a file means: a line of text that says what is wrong, and where.
use Rattle.std.specs.Prelude.{not, List, [], ◌∷◌, ℕ, eqb, leb, ltb, length}
use Rattle.meaning.specs.Lists.{if}
use Rattle.text.specs.Ascii.{ascii}
use Rattle.text.specs.Lines.{decimal}
use Rattle.file.specs.Format.{E, R, N, length_for, field, serial_of, from_of, to_of}
use Rattle.file.specs.Reading.{between, uses}
use Rattle.sentences.specs.Words.{◌then◌, first_of, counted, no_entity, no_name, Saying, ◌says◌, said}

-- no accepted file is longer: 5,126 bytes
abbrev pub longest : ℕ
longest = length_for 256

-- a length in bytes
abbrev pub size_text : ℕ → List ℕ
size_text n = if (ltb longest n) (ascii "more than 5126 bytes") (counted n (ascii " byte") (ascii " bytes"))

-- 1
abbrev pub short_text : List ℕ → List ℕ
short_text f = ascii "the file has " then size_text (length f) then ascii ", fewer than 6"

-- 2: the first size that is outside its limits
abbrev pub limits_text : List ℕ → List ℕ
limits_text f =
    if (not (between 1 32 (E f))) (decimal (E f) then ascii " entities, 1 to 32 are allowed")
    (if (not (between 1 32 (R f))) (decimal (R f) then ascii " role names, 1 to 32 are allowed")
    (decimal (N f) then ascii " credentials, at most 256 are allowed"))

-- 3
abbrev pub length_text : List ℕ → List ℕ
length_text f =
    ascii "the file has " then size_text (length f) then ascii ", "
    then counted (N f) (ascii " credential takes ") (ascii " credentials take ") then decimal (length_for (N f))

-- 4 to 7 and 17 are said of credential i
abbrev pub of_credential : ℕ → List ℕ → List ℕ
of_credential i what = ascii "credential " then decimal i then ascii ": " then what

-- 4
abbrev pub kind_text : List ℕ → ℕ → List ℕ
kind_text f i = ascii "kind " then decimal (field f i 0) then ascii ", kinds are 0 to 5"

-- 5: the first byte of an entity that is not below E; if there is none, of a name that is not below R
abbrev pub stray_entity : List ℕ → ℕ → ℕ
stray_entity f i = first_of (λ j. leb (E f) (field f i j)) (uses (field f i 0)).entities

abbrev pub stray_name : List ℕ → ℕ → ℕ
stray_name f i = first_of (λ j. leb (R f) (field f i j)) (uses (field f i 0)).names

abbrev pub range_text : List ℕ → ℕ → List ℕ
range_text f i =
    if (eqb (stray_entity f i) 0) (ascii "role name " then no_name f (field f i (stray_name f i)))
    (ascii "entity " then no_entity f (field f i (stray_entity f i)))

-- 6: the first byte that is not used and not zero
abbrev pub stray_byte : List ℕ → ℕ → ℕ
stray_byte f i = first_of (λ j. not (eqb (field f i j) 0)) (uses (field f i 0)).unused

abbrev pub unused_text : List ℕ → ℕ → List ℕ
unused_text f i =
    ascii "byte " then decimal (stray_byte f i) then ascii " is " then decimal (field f i (stray_byte f i))
    then ascii ", kind " then decimal (field f i 0) then ascii " has 0 there"

-- 7
abbrev pub period_text : List ℕ → ℕ → List ℕ
period_text f i =
    if (ltb (to_of f i) (from_of f i)) (ascii "from " then decimal (from_of f i) then ascii " is above to " then decimal (to_of f i))
    (ascii "to " then decimal (to_of f i) then ascii ", the last minute is 4294967294")

-- 17
abbrev pub serial_text : List ℕ → ℕ → List ℕ
serial_text f i =
    if (eqb (serial_of f i) 0) (ascii "the serial is 0")
    (ascii "serial " then decimal (serial_of f i) then ascii ", an earlier credential has it")

-- the refusals of a file at a place, and 10 of its table
abbrev pub file_sayings : List ℕ → ℕ → List Saying
file_sayings f i =
    (1 says short_text f)
    ∷ (2 says limits_text f)
    ∷ (3 says length_text f)
    ∷ (4 says of_credential i (kind_text f i))
    ∷ (5 says of_credential i (range_text f i))
    ∷ (6 says of_credential i (unused_text f i))
    ∷ (7 says of_credential i (period_text f i))
    ∷ (8 says ascii "the periods have more than 64 ends")
    ∷ (10 says ascii "more than 1024 memberships")
    ∷ (17 says of_credential i (serial_text f i))
    ∷ []

-- What is said of a refusal of the file f, by its number and place; and the line that says it.
unfoldable pub file_text : List ℕ → ℕ → ℕ → List ℕ
file_text f number place = said number (file_sayings f place)

unfoldable pub file_sentence : List ℕ → ℕ → ℕ → List ℕ
file_sentence f number place = file_text f number place then ascii "\n"

-- What a refusal of a withdrawal list means: a line of text that says what is wrong, and where.
use Rattle.std.specs.Prelude.{Bool, ◌||◌, not, List, [], ◌∷◌, ℕ, min, eqb, ltb, length}
use Rattle.meaning.specs.Lists.{if, any, below}
use Rattle.text.specs.Ascii.{ascii}
use Rattle.text.specs.Lines.{decimal}
use Rattle.file.specs.Format.{N, serial_of}
use Rattle.withdrawals.specs.List.{count, bytes_for, serial_at, repeated}
use Rattle.sentences.specs.Words.{◌then◌, first_of, counted, Saying, ◌says◌, said}

-- no accepted list is longer: 2,050 bytes
abbrev pub longest_list : ℕ
longest_list = bytes_for 256

-- the length of a list
abbrev pub list_size : ℕ → List ℕ
list_size n = if (ltb longest_list n) (ascii "more than 2050 bytes") (counted n (ascii " byte") (ascii " bytes"))

-- 20: under 2 bytes; or too many withdrawals; or another length than they take
abbrev pub shape_text : List ℕ → List ℕ
shape_text w =
    ascii "the withdrawal list has "
    then if (ltb (length w) 2) (counted (length w) (ascii " byte") (ascii " bytes") then ascii ", fewer than 2")
    (if (ltb 256 (count w)) (decimal (count w) then ascii " withdrawals, at most 256 are allowed")
    (list_size (length w) then ascii ", " then counted (count w) (ascii " withdrawal takes ") (ascii " withdrawals take ")
    then decimal (bytes_for (count w))))

-- 21: of withdrawals and credentials the first 256 are looked at, which are all where 21 is given
abbrev pub looked : ℕ → List ℕ
looked n = below (min n 256)

abbrev pub on_credential : List ℕ → ℕ → Bool
on_credential f s = any (λ i. eqb (serial_of f i) s) (looked (N f))

-- withdrawal k is wrong: an earlier one has its serial, or no credential has it
abbrev pub wrong_at : List ℕ → List ℕ → ℕ → Bool
wrong_at f w k = repeated w k || not (on_credential f (serial_at w k))

abbrev pub first_wrong : List ℕ → List ℕ → ℕ
first_wrong f w = first_of (wrong_at f w) (looked (count w))

abbrev pub of_withdrawal : List ℕ → ℕ → List ℕ → List ℕ
of_withdrawal w k what = ascii "withdrawal " then decimal k then ascii ": serial " then decimal (serial_at w k) then what

abbrev pub serial_text : List ℕ → ℕ → List ℕ
serial_text w k = of_withdrawal w k (if (repeated w k) (ascii ", an earlier withdrawal has it") (ascii ", no credential has it"))

-- the refusals of a list w with a file f
abbrev pub list_sayings : List ℕ → List ℕ → List Saying
list_sayings f w = (20 says shape_text w) ∷ (21 says serial_text w (first_wrong f w)) ∷ []

-- What is said of a refusal of the list w with the file f, by its number; and the line that says it.
unfoldable pub list_text : List ℕ → List ℕ → ℕ → List ℕ
list_text f w number = said number (list_sayings f w)

unfoldable pub list_sentence : List ℕ → List ℕ → ℕ → List ℕ
list_sentence f w number = list_text f w number then ascii "\n"

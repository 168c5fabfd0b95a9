-- What a refusal of a request means: a line of text that says what is wrong.
use Rattle.std.specs.Prelude.{List, [], ◌∷◌, ℕ, ◌-◌, eqb, leb}
use Rattle.meaning.specs.Lists.{if, up_from}
use Rattle.text.specs.Ascii.{ascii}
use Rattle.text.specs.Lines.{decimal}
use Rattle.sets.specs.Sets.{has, set_text}
use Rattle.file.specs.Format.{E, R}
use Rattle.sentences.specs.Words.{◌then◌, first_of, no_entity, no_name, Saying, ◌says◌, said}

-- 11: the first that is wrong of issuer, name and set; of a set, its first entity that is not below E
abbrev pub asked_text : List ℕ → ℕ → ℕ → ℕ → List ℕ
asked_text f A r X =
    if (leb (E f) A) (ascii "issuer " then no_entity f A)
    (if (leb (R f) r) (ascii "role name " then no_name f r)
    (if (eqb X 0) (ascii "the set is empty")
    (ascii "the set has entity " then no_entity f (first_of (has X) (up_from (E f) (32 - E f))))))

-- 12
abbrev pub last_text : ℕ → List ℕ
last_text m = ascii "minute " then decimal m then ascii ", the last minute is 4294967294"

-- 13
abbrev pub unproved_text : ℕ → ℕ → ℕ → ℕ → List ℕ
unproved_text A r X m =
    ascii "no proof that " then set_text X then ascii " holds " then decimal A then ascii "." then decimal r
    then ascii " at minute " then decimal m

-- the refusals of a request: role A.r, set X, minute m
abbrev pub request_sayings : List ℕ → ℕ → ℕ → ℕ → ℕ → List Saying
request_sayings f A r X m =
    (11 says asked_text f A r X)
    ∷ (12 says last_text m)
    ∷ (10 says (ascii "more than 1024 memberships at minute " then decimal m))
    ∷ (13 says unproved_text A r X m)
    ∷ []

-- What is said of a refusal of the request over the file f, by its number; and the line that says it.
unfoldable pub request_text : List ℕ → ℕ → ℕ → ℕ → ℕ → ℕ → List ℕ
request_text f A r X m number = said number (request_sayings f A r X m)

unfoldable pub request_sentence : List ℕ → ℕ → ℕ → ℕ → ℕ → ℕ → List ℕ
request_sentence f A r X m number = request_text f A r X m number then ascii "\n"

-- The lines of the words, filled with numbers.
use mathlib.Core.Path.{◌≡◌, refl, ap, ◌∙◌}
use mathlib.Core.Bool.{true}
use mathlib.Core.List.{List, [], ◌∷◌, append-nil}
use Prim.Native.Nat.{ℕ}
use Rattle.text.specs.Ascii.{ascii}
use Rattle.text.specs.Lines.{decimal}
use Rattle.sentences.specs.Words.{◌then◌, counted, outside}
use Rattle.sentences.specs.Filling.{filled, sentence, fitting}
use Rattle.sentences.proofs.Counting.{after, count}
use Rattle.file_sentences.specs.FileWords.{file_words}
use Rattle.file_sentences.specs.FileSentences.{of_credential}

abbrev line : ℕ → ℕ → ℕ → ℕ → ℕ → List ℕ
line n a b c d = sentence file_words (record { 0 = n; 1 = a ∷ b ∷ c ∷ d ∷ [] })

abbrev takes : ℕ → ℕ → List ℕ
takes n right = counted n (ascii " credential takes ") (ascii " credentials take ") then decimal right

abbrev entity : ℕ → ℕ → List ℕ
entity x n = ascii "entity " then outside x n (ascii " entity") (ascii " entities")

abbrev name : ℕ → ℕ → List ℕ
name x n = ascii "role name " then outside x n (ascii " role name") (ascii " role names")

pub refused-line : line 0 0 0 0 0 ≡ ascii "refused"
unfolding sentence file_words
refused-line = refl

pub short-line : (n : ℕ) → line 1 n 0 0 0 ≡ ascii "the file has " then counted n (ascii " byte") (ascii " bytes") then ascii ", fewer than 6"
unfolding sentence file_words
short-line n =
    ap (λ (l : List ℕ). ascii "the file has " then l)
    (count n 0 0 0 0 (ascii "byte") (ascii "bytes") (λ t. refl) (λ t. refl) (λ t. refl) (λ t. refl) (ascii ", fewer than 6\n"))

pub short-long-line : line 2 0 0 0 0 ≡ ascii "the file has " then ascii "more than 5126 bytes" then ascii ", fewer than 6"
unfolding sentence file_words
short-long-line = refl

pub entities-line : (n : ℕ) → line 3 n 0 0 0 ≡ decimal n then ascii " entities, 1 to 32 are allowed"
unfolding sentence file_words
entities-line n = refl

pub names-line : (n : ℕ) → line 4 n 0 0 0 ≡ decimal n then ascii " role names, 1 to 32 are allowed"
unfolding sentence file_words
names-line n = refl

pub credentials-line : (n : ℕ) → line 5 n 0 0 0 ≡ decimal n then ascii " credentials, at most 256 are allowed"
unfolding sentence file_words
credentials-line n = refl

-- what a number of credentials takes, before the end of the line
takes-line : (n right : ℕ)
    → decimal n then ascii " " then filled (after n right 0 0 0 true) (ascii "{credential takes |credentials take }#\n") ≡ takes n right
takes-line n right =
    count n right 0 0 0 (ascii "credential takes ") (ascii "credentials take ") (λ t. refl) (λ t. refl) (λ t. refl) (λ t. refl) (ascii "#\n")
    ∙ ap (λ (l : List ℕ). counted n (ascii " credential takes ") (ascii " credentials take ") then l) (append-nil (decimal right))

pub length-line : (n k right : ℕ) → line 6 n k right 0 ≡ ascii "the file has " then counted n (ascii " byte") (ascii " bytes") then ascii ", " then takes k right
unfolding sentence file_words
length-line n k right =
    ap (λ (l : List ℕ). ascii "the file has " then l)
    (count n k right 0 0 (ascii "byte") (ascii "bytes") (λ t. refl) (λ t. refl) (λ t. refl) (λ t. refl) (ascii ", # {credential takes |credentials take }#\n"))
    ∙ ap (λ (l : List ℕ). ascii "the file has " then counted n (ascii " byte") (ascii " bytes") then ascii ", " then l) (takes-line k right)

pub length-long-line : (k right : ℕ) → line 7 k right 0 0 ≡ ascii "the file has " then ascii "more than 5126 bytes" then ascii ", " then takes k right
unfolding sentence file_words
length-long-line k right = ap (λ (l : List ℕ). ascii "the file has " then ascii "more than 5126 bytes" then ascii ", " then l) (takes-line k right)

pub kind-line : (i k : ℕ) → line 8 i k 0 0 ≡ of_credential i (ascii "kind " then decimal k then ascii ", kinds are 0 to 5")
unfolding sentence file_words
kind-line i k = refl

pub entity-line : (i x n : ℕ) → line 9 i x n 0 ≡ of_credential i (entity x n)
unfolding sentence file_words
entity-line i x n =
    ap (λ (l : List ℕ). of_credential i (ascii "entity " then decimal x then ascii ", the file has " then l))
    (count n 0 0 0 0 (ascii "entity") (ascii "entities") (λ t. refl) (λ t. refl) (λ t. refl) (λ t. refl) (ascii "\n") ∙ append-nil _)

pub name-line : (i x n : ℕ) → line 10 i x n 0 ≡ of_credential i (name x n)
unfolding sentence file_words
name-line i x n =
    ap (λ (l : List ℕ). of_credential i (ascii "role name " then decimal x then ascii ", the file has " then l))
    (count n 0 0 0 0 (ascii "role name") (ascii "role names") (λ t. refl) (λ t. refl) (λ t. refl) (λ t. refl) (ascii "\n") ∙ append-nil _)

pub unused-line : (i j x k : ℕ)
    → line 11 i j x k
    ≡ of_credential i (ascii "byte " then decimal j then ascii " is " then decimal x then ascii ", kind " then decimal k then ascii " has 0 there")
unfolding sentence file_words
unused-line i j x k = refl

pub period-line : (i x y : ℕ) → line 12 i x y 0 ≡ of_credential i (ascii "from " then decimal x then ascii " is above to " then decimal y)
unfolding sentence file_words
period-line i x y = rw append-nil

pub last_line : (i y : ℕ) → line 13 i y 0 0 ≡ of_credential i (ascii "to " then decimal y then ascii ", the last minute is 4294967294")
unfolding sentence file_words
last_line i y = refl

pub serial-zero-line : (i : ℕ) → line 14 i 0 0 0 ≡ of_credential i (ascii "the serial is 0")
unfolding sentence file_words
serial-zero-line i = refl

pub serial-line : (i x : ℕ) → line 15 i x 0 0 ≡ of_credential i (ascii "serial " then decimal x then ascii ", an earlier credential has it")
unfolding sentence file_words
serial-line i x = refl

pub ends-line : line 16 0 0 0 0 ≡ ascii "the periods have more than 64 ends"
unfolding sentence file_words
ends-line = refl

pub memberships-line : line 17 0 0 0 0 ≡ ascii "more than 1024 memberships"
unfolding sentence file_words
memberships-line = refl

pub words-fit : fitting 255 file_words ≡ true
unfolding fitting file_words
words-fit = refl

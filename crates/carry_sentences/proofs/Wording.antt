-- The lines of the words, filled with numbers.
use mathlib.Core.Path.{◌≡◌, refl, ap, ◌∙◌}
use mathlib.Core.Bool.{true}
use mathlib.Core.List.{List, [], ◌∷◌, append-nil}
use Prim.Native.Nat.{ℕ}
use Rattle.text.specs.Ascii.{ascii}
use Rattle.text.specs.Lines.{decimal}
use Rattle.sentences.specs.Words.{◌then◌, counted}
use Rattle.sentences.specs.Filling.{filled, sentence, fitting}
use Rattle.sentences.proofs.Counting.{after, count}
use Rattle.file_sentences.specs.FileSentences.{of_credential}
use Rattle.carry_sentences.specs.CarryWords.{carry_words}

abbrev line : ℕ → ℕ → ℕ → ℕ → ℕ → List ℕ
line n a b c d = sentence carry_words (record { 0 = n; 1 = a ∷ b ∷ c ∷ d ∷ [] })

abbrev takes : ℕ → ℕ → List ℕ
takes n right = counted n (ascii " credential") (ascii " credentials") then ascii " takes " then decimal right

pub refused-line : line 0 0 0 0 0 ≡ ascii "refused"
unfolding sentence carry_words
refused-line = refl

-- what a number of credentials takes, before the end of the line
takes-line : (n right : ℕ)
    → decimal n then ascii " " then filled (after n right 0 0 0 true) (ascii "{credential|credentials} takes #\n") ≡ takes n right
takes-line n right =
    count n right 0 0 0 (ascii "credential") (ascii "credentials") (λ t. refl) (λ t. refl) (λ t. refl) (λ t. refl) (ascii " takes #\n")
    ∙ ap (λ (l : List ℕ). counted n (ascii " credential") (ascii " credentials") then ascii " takes " then l) (append-nil (decimal right))

pub length-line : (n k right : ℕ)
    → line 1 n k right 0 ≡ ascii "the file has " then counted n (ascii " byte") (ascii " bytes") then ascii ", an old file of " then takes k right
unfolding sentence carry_words
length-line n k right =
    ap (λ (l : List ℕ). ascii "the file has " then l)
    (count n k right 0 0 (ascii "byte") (ascii "bytes") (λ t. refl) (λ t. refl) (λ t. refl) (λ t. refl) (ascii ", an old file of # {credential|credentials} takes #\n"))
    ∙ ap (λ (l : List ℕ). ascii "the file has " then counted n (ascii " byte") (ascii " bytes") then ascii ", an old file of " then l) (takes-line k right)

pub length-long-line : (k right : ℕ)
    → line 2 k right 0 0 ≡ ascii "the file has " then ascii "more than 5126 bytes" then ascii ", an old file of " then takes k right
unfolding sentence carry_words
length-long-line k right =
    ap (λ (l : List ℕ). ascii "the file has " then ascii "more than 5126 bytes" then ascii ", an old file of " then l) (takes-line k right)

pub kind-line : (i k : ℕ) → line 3 i k 0 0 ≡ of_credential i (ascii "kind " then decimal k then ascii ", kinds are 0 to 5")
unfolding sentence carry_words
kind-line i k = refl

pub range-line : (i e r : ℕ)
    → line 4 i e r 0 ≡ of_credential i (ascii "an entity is not below " then decimal e then ascii " or a role name is not below " then decimal r)
unfolding sentence carry_words
range-line i e r = rw append-nil

pub unused-line : (i k : ℕ) → line 5 i k 0 0 ≡ of_credential i (ascii "a byte that kind " then decimal k then ascii " does not use is not 0")
unfolding sentence carry_words
unused-line i k = refl

pub period-line : (i x y : ℕ) → line 6 i x y 0 ≡ of_credential i (ascii "from " then decimal x then ascii " is not below to " then decimal y)
unfolding sentence carry_words
period-line i x y = rw append-nil

pub place-line : (i x : ℕ) → line 7 i x 0 0 ≡ of_credential i (ascii "serial " then decimal x then ascii " is not its position plus one")
unfolding sentence carry_words
place-line i x = refl

pub words-fit : fitting 255 carry_words ≡ true
unfolding fitting carry_words
words-fit = refl

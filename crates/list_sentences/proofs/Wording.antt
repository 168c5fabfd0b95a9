-- The lines of the words, filled with numbers.
use mathlib.Core.Path.{◌≡◌, refl, ap, ◌∙◌}
use mathlib.Core.Bool.{true}
use mathlib.Core.List.{List, [], ◌∷◌, append-nil}
use Prim.Native.Nat.{ℕ}
use Rattle.text.specs.Ascii.{ascii}
use Rattle.text.specs.Lines.{decimal}
use Rattle.sentences.specs.Words.{◌then◌, counted}
use Rattle.sentences.specs.Filling.{filled, sentence, fitting}
use Rattle.sentences.proofs.Counting.{after, count}
use Rattle.list_sentences.specs.ListWords.{list_words}

abbrev line : ℕ → ℕ → ℕ → ℕ → ℕ → List ℕ
line n a b c d = sentence list_words (record { 0 = n; 1 = a ∷ b ∷ c ∷ d ∷ [] })

abbrev has : List ℕ → List ℕ
has what = ascii "the withdrawal list has " then what

abbrev takes : ℕ → ℕ → List ℕ
takes n right = counted n (ascii " withdrawal takes ") (ascii " withdrawals take ") then decimal right

abbrev of : ℕ → ℕ → List ℕ → List ℕ
of k x what = ascii "withdrawal " then decimal k then ascii ": serial " then decimal x then what

pub refused-line : line 0 0 0 0 0 ≡ ascii "refused"
unfolding sentence list_words
refused-line = refl

pub short-line : (n : ℕ) → line 1 n 0 0 0 ≡ has (counted n (ascii " byte") (ascii " bytes") then ascii ", fewer than 2")
unfolding sentence list_words
short-line n = ap has (count n 0 0 0 0 (ascii "byte") (ascii "bytes") (λ t. refl) (λ t. refl) (λ t. refl) (λ t. refl) (ascii ", fewer than 2\n"))

pub many-line : (n : ℕ) → line 2 n 0 0 0 ≡ has (decimal n then ascii " withdrawals, at most 256 are allowed")
unfolding sentence list_words
many-line n = refl

-- what a number of withdrawals takes, before the end of the line
takes-line : (n right : ℕ)
    → decimal n then ascii " " then filled (after n right 0 0 0 true) (ascii "{withdrawal takes |withdrawals take }#\n") ≡ takes n right
takes-line n right =
    count n right 0 0 0 (ascii "withdrawal takes ") (ascii "withdrawals take ") (λ t. refl) (λ t. refl) (λ t. refl) (λ t. refl) (ascii "#\n")
    ∙ ap (λ (l : List ℕ). counted n (ascii " withdrawal takes ") (ascii " withdrawals take ") then l) (append-nil (decimal right))

pub length-line : (n k right : ℕ) → line 3 n k right 0 ≡ has (counted n (ascii " byte") (ascii " bytes") then ascii ", " then takes k right)
unfolding sentence list_words
length-line n k right =
    ap has
    (count n k right 0 0 (ascii "byte") (ascii "bytes") (λ t. refl) (λ t. refl) (λ t. refl) (λ t. refl) (ascii ", # {withdrawal takes |withdrawals take }#\n"))
    ∙ ap (λ (l : List ℕ). has (counted n (ascii " byte") (ascii " bytes") then ascii ", " then l)) (takes-line k right)

pub length-long-line : (k right : ℕ) → line 4 k right 0 0 ≡ has (ascii "more than 2050 bytes" then ascii ", " then takes k right)
unfolding sentence list_words
length-long-line k right = ap (λ (l : List ℕ). has (ascii "more than 2050 bytes" then ascii ", " then l)) (takes-line k right)

pub repeated-line : (k x : ℕ) → line 5 k x 0 0 ≡ of k x (ascii ", an earlier withdrawal has it")
unfolding sentence list_words
repeated-line k x = refl

pub unheld-line : (k x : ℕ) → line 6 k x 0 0 ≡ of k x (ascii ", no credential has it")
unfolding sentence list_words
unheld-line k x = refl

pub words-fit : fitting 255 list_words ≡ true
unfolding fitting list_words
words-fit = refl

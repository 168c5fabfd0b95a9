-- The lines of the words, filled with numbers.
use mathlib.Core.Path.{◌≡◌, refl, ap, ◌∙◌}
use mathlib.Core.Bool.{true}
use mathlib.Core.List.{List, [], ◌∷◌, append-nil}
use Prim.Native.Nat.{ℕ}
use Rattle.text.specs.Ascii.{ascii}
use Rattle.text.specs.Lines.{decimal}
use Rattle.sets.specs.Sets.{set_text}
use Rattle.sentences.specs.Words.{◌then◌, outside}
use Rattle.sentences.specs.Filling.{sentence, fitting}
use Rattle.sentences.proofs.Counting.{count}
use Rattle.request_sentences.specs.RequestWords.{request_words}

abbrev line : ℕ → ℕ → ℕ → ℕ → ℕ → List ℕ
line n a b c d = sentence request_words (record { 0 = n; 1 = a ∷ b ∷ c ∷ d ∷ [] })

pub refused-line : line 0 0 0 0 0 ≡ ascii "refused"
unfolding sentence request_words
refused-line = refl

pub issuer-line : (x n : ℕ) → line 1 x n 0 0 ≡ ascii "issuer " then outside x n (ascii " entity") (ascii " entities")
unfolding sentence request_words
issuer-line x n =
    ap (λ (l : List ℕ). ascii "issuer " then decimal x then ascii ", the file has " then l)
    (count n 0 0 0 0 (ascii "entity") (ascii "entities") (λ t. refl) (λ t. refl) (λ t. refl) (λ t. refl) (ascii "\n") ∙ append-nil _)

pub name-line : (x n : ℕ) → line 2 x n 0 0 ≡ ascii "role name " then outside x n (ascii " role name") (ascii " role names")
unfolding sentence request_words
name-line x n =
    ap (λ (l : List ℕ). ascii "role name " then decimal x then ascii ", the file has " then l)
    (count n 0 0 0 0 (ascii "role name") (ascii "role names") (λ t. refl) (λ t. refl) (λ t. refl) (λ t. refl) (ascii "\n") ∙ append-nil _)

pub empty-line : line 3 0 0 0 0 ≡ ascii "the set is empty"
unfolding sentence request_words
empty-line = refl

pub entity-line : (x n : ℕ) → line 4 x n 0 0 ≡ ascii "the set has entity " then outside x n (ascii " entity") (ascii " entities")
unfolding sentence request_words
entity-line x n =
    ap (λ (l : List ℕ). ascii "the set has entity " then decimal x then ascii ", the file has " then l)
    (count n 0 0 0 0 (ascii "entity") (ascii "entities") (λ t. refl) (λ t. refl) (λ t. refl) (λ t. refl) (ascii "\n") ∙ append-nil _)

pub last_line : (m : ℕ) → line 5 m 0 0 0 ≡ ascii "minute " then decimal m then ascii ", the last minute is 4294967294"
unfolding sentence request_words
last_line m = refl

pub memberships-line : (m : ℕ) → line 6 m 0 0 0 ≡ ascii "more than 1024 memberships at minute " then decimal m
unfolding sentence request_words
memberships-line m = rw append-nil

pub unproved-line : (A r X m : ℕ)
    → line 7 X A r m
    ≡ ascii "no proof that " then set_text X then ascii " holds " then decimal A then ascii "." then decimal r then ascii " at minute " then decimal m
unfolding sentence request_words
unproved-line A r X m = rw append-nil

pub words-fit : fitting 255 request_words ≡ true
unfolding fitting request_words
words-fit = refl

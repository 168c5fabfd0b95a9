-- What sentences are made of.
use Rattle.std.specs.Prelude.{Bool, List, [], ◌∷◌, ◌++◌, ℕ, eqb}
use Rattle.meaning.specs.Lists.{if}
use Rattle.text.specs.Ascii.{ascii}
use Rattle.text.specs.Lines.{decimal}
use Rattle.file.specs.Format.{E, R}

-- one text after another
infixr 60 ◌then◌
abbrev pub ◌then◌ : List ℕ → List ℕ → List ℕ
a then b = a ++ b

-- the first number of a list that a test takes; 0 where it takes none
abbrev pub first_of : (ℕ → Bool) → List ℕ → ℕ
first_of p [] = 0
first_of p (j ∷ l) = if (p j) j (first_of p l)

-- a count and its word, which is another for one
abbrev pub counted : ℕ → List ℕ → List ℕ → List ℕ
counted n one many = decimal n then if (eqb n 1) one many

-- a number that the file does not have, of which it has so many
abbrev pub outside : ℕ → ℕ → List ℕ → List ℕ → List ℕ
outside x n one many = decimal x then ascii ", the file has " then counted n one many

abbrev pub no_entity : List ℕ → ℕ → List ℕ
no_entity f x = outside x (E f) (ascii " entity") (ascii " entities")

abbrev pub no_name : List ℕ → ℕ → List ℕ
no_name f x = outside x (R f) (ascii " role name") (ascii " role names")

-- what is said of a number
pub record Saying : Type 0 where
  pub number : ℕ
  pub words : List ℕ

infix 50 ◌says◌
abbrev pub ◌says◌ : ℕ → List ℕ → Saying
n says t = record { number = n; words = t }

-- what is said of n; of a number without a saying, only that it is refused
abbrev pub said : ℕ → List Saying → List ℕ
said n [] = ascii "refused"
said n (s ∷ l) = if (eqb n s.number) s.words (said n l)

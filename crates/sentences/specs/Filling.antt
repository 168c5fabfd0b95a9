-- A line of words with places for numbers, filled: `#` is the next number in decimal, `@` the next one as a set in braces; `{one|many}` is
-- `one` where the number before it is 1, otherwise `many`. The bytes of #, @, {, | and } are 35, 64, 123, 124 and 125.
use Rattle.std.specs.Prelude.{Bool, true, not, ◌&&◌, ◌||◌, List, [], ◌∷◌, ◌++◌, ℕ, zero, suc, ◌-◌, eqb, leb, get_or}
use Prim.Native.String.{String}
use Rattle.meaning.specs.Lists.{if}
use Rattle.text.specs.Ascii.{ascii}
use Rattle.text.specs.Lines.{decimal}
use Rattle.sets.specs.Sets.{set_text}
use Rattle.sentences.specs.declared.Sentence.{Sentence}
use Rattle.sentences.specs.declared.Filling.{Filling}

-- where filling stands at first, with the numbers to come
abbrev pub beginning : List ℕ → Filling
beginning n = record { on = true; before = 0; a = get_or n 0 0; b = get_or n 1 0; c = get_or n 2 0; d = get_or n 3 0 }

-- what a byte of the words puts: a number, or itself where words are put and it is none of `{|}`
abbrev pub piece : Filling → ℕ → List ℕ
piece s c =
    if (eqb c 35) (decimal s.a)
    (if (eqb c 64) (set_text s.a)
    (if (s.on && not (leb 123 c && leb c 125)) (c ∷ []) []))

-- a number was put
abbrev pub shifted : Filling → Filling
shifted s = record { on = s.on; before = s.a; a = s.b; b = s.c; c = s.d; d = 0 }

-- words are put from here on, or not
abbrev pub turned : Filling → Bool → Filling
turned s on = record { on = on; before = s.before; a = s.a; b = s.b; c = s.c; d = s.d }

-- where filling stands after a byte
abbrev pub next : Filling → ℕ → Filling
next s c =
    if (eqb c 35 || eqb c 64) (shifted s)
    (if (eqb c 123) (turned s (eqb s.before 1))
    (if (eqb c 124) (turned s (not s.on))
    (if (eqb c 125) (turned s true) s)))

-- the words up to their first newline, filled
abbrev pub filled : Filling → List ℕ → List ℕ
filled s [] = []
filled s (c ∷ t) = if (eqb c 10) [] (piece s c ++ filled (next s c) t)

-- words, a line for each text
abbrev pub lines_of : List String → List ℕ
lines_of [] = []
lines_of (s ∷ l) = ascii s ++ (10 ∷ lines_of l)

-- the words from a line on, counted from 0
abbrev pub line_from : ℕ → List ℕ → List ℕ
line_from zero t = t
line_from (suc n) [] = []
line_from (suc n) (c ∷ t) = if (eqb c 10) (line_from n t) (line_from (suc n) t)

-- the line of a sentence with its numbers
unfoldable pub sentence : List ℕ → Sentence → List ℕ
sentence words s = filled (beginning s.1) (line_from s.0 words)

-- the bytes that one byte of the words can ask for
abbrev pub most : ℕ → ℕ
most c = if (eqb c 35) 10 (if (eqb c 64) 108 1)

-- the first line asks for at most n bytes, every other line for at most 255
unfoldable pub fitting : ℕ → List ℕ → Bool
fitting n [] = true
fitting n (c ∷ t) = if (eqb c 10) (fitting 255 t) (leb (most c) n && fitting (n - most c) t)

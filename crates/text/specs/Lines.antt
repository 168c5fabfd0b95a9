-- Lines of text as bytes: numbers in decimal with single spaces, each line ended by a newline.
use Rattle.std.specs.Prelude.{List, [], ◌∷◌, ◌++◌, ℕ, zero, suc, ◌+◌, ◌/◌, ◌%◌}

-- the digits of a number below 10 ^ n, without leading zeros; one digit for 0
abbrev pub digits : ℕ → ℕ → List ℕ
digits zero x = []
digits (suc n) x = elim (x / 10) [ zero ↦ (48 + x % 10) ∷ [] | suc q ↦ digits n (suc q) ++ (48 + x % 10) ∷ [] ]

-- a number of up to 32 bits in decimal
unfoldable pub decimal : ℕ → List ℕ
decimal x = digits 10 x

-- a number and the byte after it
abbrev pub field : ℕ → ℕ → List ℕ
field x end = decimal x ++ end ∷ []

-- a number, a colon and a space
abbrev pub label : ℕ → List ℕ
label x = field x 58 ++ (32 ∷ [])

-- numbers with single spaces between them, and a newline
abbrev pub line : List ℕ → List ℕ
line [] = 10 ∷ []
line (x ∷ []) = field x 10
line (x ∷ y ∷ xs) = field x 32 ++ line (y ∷ xs)

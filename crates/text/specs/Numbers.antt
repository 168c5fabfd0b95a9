-- Numbers that bytes say in decimal.
use Rattle.std.specs.Prelude.{Option, Some, None, Bool, true, cond, ◌&&◌, List, [], ◌∷◌, ℕ, ◌+◌, ◌-◌, ◌*◌, ◌^◌, leb, ltb, length}

-- `0` to `9`
abbrev pub digit : ℕ → Bool
digit b = leb 48 b && leb b 57

abbrev pub all_digits : List ℕ → Bool
all_digits [] = true
all_digits (b ∷ s) = digit b && all_digits s

-- the number that digits say after those that say x
abbrev pub value_after : ℕ → List ℕ → ℕ
value_after x [] = x
value_after x (b ∷ s) = value_after (10 * x + (b - 48)) s

abbrev pub value : List ℕ → ℕ
value s = value_after 0 s

-- digits only, a number of up to 32 bits, and not empty
abbrev pub is_number : List ℕ → Bool
is_number s = all_digits s && ltb (value s) (2 ^ 32) && ltb 0 (length s)

abbrev pub number_in : List ℕ → Option ℕ
number_in s = cond (is_number s) (Some (value s)) None

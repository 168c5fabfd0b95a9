-- Sets of entities as text: numbers below 32 in braces, with commas between them.
use Rattle.std.specs.Prelude.{Option, Some, None, Bool, cond, not, ◌&&◌, List, [], ◌∷◌, ◌++◌, ℕ, zero, suc, ◌-◌, ◌/◌, ◌%◌, ◌^◌, eqb, leb, ltb, length, take, drop, get_or}
use Rattle.std.specs.Int.Bits.{bit_or}
use Rattle.text.specs.Ascii.{ascii}
use Rattle.text.specs.Lines.{decimal, field}
use Rattle.text.specs.Numbers.{number_in}

-- entity e is in the set X
abbrev pub has : ℕ → ℕ → Bool
has X e = eqb (X / 2 ^ e % 2) 1

-- the entities of X below n, ascending
abbrev pub entities_below : ℕ → ℕ → List ℕ
entities_below zero X = []
entities_below (suc n) X = entities_below n X ++ cond (has X n) (n ∷ []) []

-- numbers with commas between them
abbrev pub listed : List ℕ → List ℕ
listed [] = []
listed (x ∷ []) = decimal x
listed (x ∷ y ∷ xs) = field x 44 ++ listed (y ∷ xs)

-- entity e if X has it, after a comma if another number stands before it
abbrev pub entity_text : Bool → ℕ → ℕ → List ℕ
entity_text later X e = cond (has X e) (cond later (44 ∷ decimal e) (decimal e)) []

-- the entities of a set of up to 32 bits, in braces
unfoldable pub set_text : ℕ → List ℕ
set_text X = ascii "{" ++ (listed (entities_below 32 X) ++ ascii "}")

-- X with the entity of that number, which is below 32 and not in X
abbrev pub with_entity : ℕ → Option ℕ → Option ℕ
with_entity X None = None
with_entity X (Some e) = cond (ltb e 32 && not (has X e)) (Some (bit_or X (2 ^ e))) None

-- what is read on, if a number was read
abbrev pub and_then : Option ℕ → (ℕ → Option ℕ) → Option ℕ
and_then None next = None
and_then (Some X) next = next X

-- X with the entities that bytes list: a comma ends the bytes since the last one, which say a number in decimal
abbrev pub with_list : ℕ → List ℕ → List ℕ → Option ℕ
with_list X part [] = with_entity X (number_in part)
with_list X part (b ∷ s) =
    cond (eqb b 44) (and_then (with_entity X (number_in part)) (λ Y. with_list Y [] s)) (with_list X (part ++ b ∷ []) s)

-- a brace at both ends
abbrev pub braced : List ℕ → Bool
braced s = leb 2 (length s) && eqb (get_or s 0 0) 123 && eqb (get_or s (length s - 1) 0) 125

-- The set that bytes write in braces: one entity or more, in any order, none twice.
unfoldable pub set_in : List ℕ → Option ℕ
set_in s = cond (braced s) (with_list 0 [] (take (length s - 2) (drop 1 s))) None

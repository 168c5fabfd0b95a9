-- Lines that the programs print.
use Rattle.std.specs.Prelude.{List, [], ◌∷◌, ◌++◌, ℕ, ◌/◌, ◌%◌}
use Rattle.text.specs.Ascii.{ascii}
use Rattle.text.specs.Lines.{field, label, line}

-- `refused`, number, place
abbrev pub refused_line : ℕ → ℕ → List ℕ
refused_line number place = ascii "refused " ++ line (number ∷ place ∷ [])

-- the same with a colon and a space at its end, before a sentence
abbrev pub refused_start : ℕ → ℕ → List ℕ
refused_start number place = ascii "refused " ++ (field number 32 ++ label place)

-- the same with any byte at its end
abbrev pub refused_with : ℕ → ℕ → ℕ → List ℕ
refused_with number place end = ascii "refused " ++ (field number 32 ++ field place end)

-- issuer, name, set, from, to
abbrev pub interval_line : ℕ → ℕ → ℕ → ℕ → List ℕ
interval_line role set from to = line (role / 32 ∷ role % 32 ∷ set ∷ from ∷ to ∷ [])

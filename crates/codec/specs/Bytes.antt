-- Entries of k bytes each, lowest byte first.
use Rattle.std.specs.Prelude.{Bool, List, [], ◌∷◌, ℕ, zero, suc, ◌+◌, ◌*◌, ◌/◌, ◌%◌, eqb, length, drop}
use Rattle.meaning.specs.Lists.{each}

-- the k bytes of an entry
abbrev pub bytes : ℕ → ℕ → List ℕ
bytes zero x = []
bytes (suc k) x = x % 256 ∷ bytes k (x / 256)

-- the entry that the first k bytes are
abbrev pub entry : ℕ → List ℕ → ℕ
entry zero bs = 0
entry (suc k) [] = 0
entry (suc k) (b ∷ bs) = b + 256 * entry k bs

-- the bytes of a list, and the first n entries of some bytes
abbrev pub bytes_of : ℕ → List ℕ → List ℕ
bytes_of k xs = each (bytes k) xs

abbrev pub first_entries : ℕ → ℕ → List ℕ → List ℕ
first_entries k zero bs = []
first_entries k (suc n) bs = entry k bs ∷ first_entries k n (drop k bs)

-- all entries, and whether the bytes are whole entries
abbrev pub entries : ℕ → List ℕ → List ℕ
entries k bs = first_entries k (length bs / k) bs

abbrev pub whole : ℕ → List ℕ → Bool
whole k bs = eqb (length bs % k) 0

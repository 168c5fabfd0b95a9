-- The withdrawal list (document 02, Four): a count of two bytes, then so many serials, then as many minutes, of four bytes each, lowest byte first.
use Rattle.std.specs.Prelude.{Bool, ◌||◌, not, List, [], ◌∷◌, ℕ, ◌+◌, ◌*◌, eqb, ltb, length}
use Rattle.meaning.specs.Lists.{if, any, below}
use Rattle.file.specs.Format.{two, four, N, serial_of}
use Rattle.withdrawals.specs.declared.Size.{Size}

-- how many withdrawals
abbrev pub count : List ℕ → ℕ
count w = two w 0

abbrev pub bytes_for : ℕ → ℕ
bytes_for n = 2 + 8 * n

-- the serial and the minute of withdrawal k
abbrev pub serial_at : List ℕ → ℕ → ℕ
serial_at w k = four w (2 + 4 * k)

abbrev pub minute_at : List ℕ → ℕ → ℕ
minute_at w k = four w (2 + 4 * count w + 4 * k)

-- the list of no withdrawals
abbrev pub none : List ℕ
none = 0 ∷ 0 ∷ []

-- 20: the list has under 2 bytes, its count is above 256, or its length is not 2 + 8 × count
abbrev pub misshapen : List ℕ → Bool
misshapen w = ltb (length w) 2 || (ltb 256 (count w) || not (eqb (length w) (bytes_for (count w))))

-- withdrawal k has the serial of an earlier one
abbrev pub repeated : List ℕ → ℕ → Bool
repeated w k = any (λ j. eqb (serial_at w j) (serial_at w k)) (below k)

-- some credential of the file has the serial
abbrev pub known : List ℕ → ℕ → Bool
known f s = any (λ i. eqb (serial_of f i) s) (below (N f))

-- 21: a serial is twice in the list, or on no credential
abbrev pub unfounded : List ℕ → List ℕ → Bool
unfounded f w = any (λ k. repeated w k || not (known f (serial_at w k))) (below (count w))

-- what reading a list's size answers: 20, or the count
abbrev pub size_in : List ℕ → Size
size_in w = if (misshapen w) (record { number = 20; count = 0 }) (record { number = 0; count = count w })

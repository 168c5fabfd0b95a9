-- Parts of a list written in the place of others, and the blocks of a credentials file: statements with and without a serial, periods.
use Rattle.std.specs.Prelude.{List, ◌++◌, ℕ, ◌+◌, ◌*◌, length, take, drop}
use Rattle.file.specs.Format.{four}
use Rattle.codec.specs.Bytes.{bytes}

-- a list with t in the place of as many of its elements from `at` on
abbrev pub written : List ℕ → ℕ → List ℕ → List ℕ
written d at t = take at d ++ t ++ drop (at + length t) d

-- statement i of 8 bytes each, with position plus one as serial
abbrev pub serialled : List ℕ → ℕ → List ℕ
serialled s i = take 8 (drop (6 + 8 * i) s) ++ bytes 4 (i + 1)

-- the first 8 bytes of statement i of 12 bytes each
abbrev pub bare : List ℕ → ℕ → List ℕ
bare s i = take 8 (drop (6 + 12 * i) s)

-- period i of those that start at `from`, its second number raised; of the sum the lowest 32 bits
abbrev pub raised : List ℕ → ℕ → ℕ → ℕ → List ℕ
raised s from by i = take 4 (drop (from + 8 * i) s) ++ bytes 4 (four s (from + 8 * i + 4) + by)

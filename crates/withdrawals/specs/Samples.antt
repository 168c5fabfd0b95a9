-- Withdrawal lists as bytes, and a file with more than 64 ends.
use Rattle.std.specs.Prelude.{List, [], ◌∷◌, ◌++◌, ℕ, ◌+◌, ◌*◌}
use Rattle.meaning.specs.Lists.{each, below}
use Rattle.file.specs.Samples.{small}

-- one withdrawal: of a serial from a minute on, both below 256
abbrev pub one : ℕ → ℕ → List ℕ
one serial minute = 0x01 ∷ 0x00 ∷ (small serial ++ small minute)

-- two
abbrev pub both : ℕ → ℕ → ℕ → ℕ → List ℕ
both serial serial' minute minute' = 0x02 ∷ 0x00 ∷ (small serial ++ (small serial' ++ (small minute ++ small minute')))

-- two of the file of all kinds, whose serials and minutes have four bytes each
abbrev pub wide : List ℕ
wide =
    0x02 ∷ 0x00 ∷ 0xB1 ∷ 0xB2 ∷ 0xB3 ∷ 0xB4 ∷ 0xC1 ∷ 0xC2 ∷ 0xC3 ∷ 0xC4
    ∷ 0x25 ∷ 0x26 ∷ 0x27 ∷ 0x28 ∷ 0x12 ∷ 0x12 ∷ 0x13 ∷ 0x14 ∷ []

-- 33 credentials, serials 1 to 33, of which number i is valid at minute 2 × i alone
abbrev pub spread : List ℕ
spread =
    0x01 ∷ 0x00 ∷ 0x01 ∷ 0x00 ∷ 0x21 ∷ 0x00
    ∷ (each (λ i. 0x00 ∷ 0x00 ∷ 0x00 ∷ 0x00 ∷ 0x00 ∷ 0x00 ∷ 0x00 ∷ 0x00 ∷ small (i + 1)) (below 33) ++ each (λ i. small (2 * i) ++ small (2 * i)) (below 33))

-- What a sentence names is at fault: of refusals 5 and 6, which look for the first of several bytes, and of 7 and 17, which have two sentences each.
use Rattle.std.specs.Prelude.{◌≡◌, ◌⊎◌, ℕ, ◌≤◌, ◌<◌}
use mathlib.Core.List.{List, Memᴰ as Mem}
use Rattle.text.specs.Ascii.{ascii}
use Rattle.text.specs.Lines.{decimal}
use Rattle.file.specs.Format.{E, R, field, serial_of, from_of, to_of}
use Rattle.file.specs.Reading.{uses}
use Rattle.sentences.specs.Words.{◌then◌, no_entity, no_name}
use Rattle.file_sentences.specs.FileSentences.{range_text, unused_text, period_text, serial_text}

-- 5: a used entity that is not below E
pub record EntityNamed (f : List ℕ) (i : ℕ) : Type 0 where
  pub at : ℕ
  pub used : Mem at (uses (field f i 0)).entities
  pub large : E f ≤ field f i at
  pub says : range_text f i ≡ ascii "entity " then no_entity f (field f i at)

-- 5: a used name that is not below R, where all used entities are below E
pub record NameNamed (f : List ℕ) (i : ℕ) : Type 0 where
  pub entities : (j : ℕ) → Mem j (uses (field f i 0)).entities → field f i j < E f
  pub at : ℕ
  pub used : Mem at (uses (field f i 0)).names
  pub large : R f ≤ field f i at
  pub says : range_text f i ≡ ascii "role name " then no_name f (field f i at)

-- 6: an unused byte that is not zero
pub record ByteNamed (f : List ℕ) (i : ℕ) : Type 0 where
  pub at : ℕ
  pub unused : Mem at (uses (field f i 0)).unused
  pub nonzero : ¬ (field f i at ≡ 0)
  pub says :
      unused_text f i
      ≡ ascii "byte " then decimal at then ascii " is " then decimal (field f i at) then ascii ", kind " then decimal (field f i 0)
      then ascii " has 0 there"

-- 7: from is above to; or to is the largest number, which is no minute
abbrev pub PeriodNamed : List ℕ → ℕ → Type 0
PeriodNamed f i =
    ((to_of f i < from_of f i) × (period_text f i ≡ ascii "from " then decimal (from_of f i) then ascii " is above to " then decimal (to_of f i)))
    ⊎ ((to_of f i ≡ 4294967295) × (period_text f i ≡ ascii "to " then decimal (to_of f i) then ascii ", the last minute is 4294967294"))

-- 17: the serial is zero; or an earlier credential has it
abbrev pub SerialNamed : List ℕ → ℕ → Type 0
SerialNamed f i =
    ((serial_of f i ≡ 0) × (serial_text f i ≡ ascii "the serial is 0"))
    ⊎ (((j : ℕ) × (j < i) × (serial_of f j ≡ serial_of f i)) × (serial_text f i ≡ ascii "serial " then decimal (serial_of f i) then ascii ", an earlier credential has it"))

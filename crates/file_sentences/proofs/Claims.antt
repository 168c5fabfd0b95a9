-- What the sentences are shown to name.
use mathlib.Core.Path.{◌≡◌, refl}
use mathlib.Core.Logic.{◌⊎◌}
use mathlib.Core.List.{List}
use Prim.Native.Nat.{ℕ}
use native.Mathlib.Omega.{arith}
use Rattle.file.specs.Conditions.{Refused, short, limits, wrong_length, kind, range, unused, period, serial, too_many_ends}
use Rattle.text.specs.Ascii.{ascii}
use Rattle.text.specs.Lines.{decimal}
use Rattle.sentences.specs.Words.{◌then◌}
use Rattle.file_sentences.specs.FileSentences.{longest}
use Rattle.file_sentences.specs.Named.{EntityNamed, NameNamed, ByteNamed, PeriodNamed, SerialNamed}
use Rattle.file_sentences.proofs.Naming as Naming

by-5 : {f : List ℕ} {n i : ℕ} → Refused f n i → n ≡ 5 → EntityNamed f i ⊎ NameNamed f i
by-5 (short h) e = absurd (omega arith)
by-5 (limits h k) e = absurd (omega arith)
by-5 (wrong_length h k l) e = absurd (omega arith)
by-5 (kind i r h) e = absurd (omega arith)
by-5 {f} (range i r h k) e = Naming.range-named f i h k
by-5 (unused i r h k l) e = absurd (omega arith)
by-5 (period i r h k l m) e = absurd (omega arith)
by-5 (serial i r h k l m n) e = absurd (omega arith)
by-5 (too_many_ends h k l) e = absurd (omega arith)

by-6 : {f : List ℕ} {n i : ℕ} → Refused f n i → n ≡ 6 → ByteNamed f i
by-6 (short h) e = absurd (omega arith)
by-6 (limits h k) e = absurd (omega arith)
by-6 (wrong_length h k l) e = absurd (omega arith)
by-6 (kind i r h) e = absurd (omega arith)
by-6 (range i r h k) e = absurd (omega arith)
by-6 {f} (unused i r h k l) e = Naming.byte-named f i l
by-6 (period i r h k l m) e = absurd (omega arith)
by-6 (serial i r h k l m n) e = absurd (omega arith)
by-6 (too_many_ends h k l) e = absurd (omega arith)

by-7 : {f : List ℕ} {n i : ℕ} → Refused f n i → n ≡ 7 → PeriodNamed f i
by-7 (short h) e = absurd (omega arith)
by-7 (limits h k) e = absurd (omega arith)
by-7 (wrong_length h k l) e = absurd (omega arith)
by-7 (kind i r h) e = absurd (omega arith)
by-7 (range i r h k) e = absurd (omega arith)
by-7 (unused i r h k l) e = absurd (omega arith)
by-7 {f} (period i r h k l m) e = Naming.period-named f i m
by-7 (serial i r h k l m n) e = absurd (omega arith)
by-7 (too_many_ends h k l) e = absurd (omega arith)

by-17 : {f : List ℕ} {n i : ℕ} → Refused f n i → n ≡ 17 → SerialNamed f i
by-17 (short h) e = absurd (omega arith)
by-17 (limits h k) e = absurd (omega arith)
by-17 (wrong_length h k l) e = absurd (omega arith)
by-17 (kind i r h) e = absurd (omega arith)
by-17 (range i r h k) e = absurd (omega arith)
by-17 (unused i r h k l) e = absurd (omega arith)
by-17 (period i r h k l m) e = absurd (omega arith)
by-17 {f} (serial i r h k l m n) e = Naming.serial-named f i n
by-17 (too_many_ends h k l) e = absurd (omega arith)

-- A file that is refused by 5 has the entity that the sentence names at fault, or, where all entities are in range, the name.
pub range-named : (f : List ℕ) (i : ℕ) → Refused f 5 i → EntityNamed f i ⊎ NameNamed f i
range-named f i r = by-5 r refl

-- A file that is refused by 6 has the byte that the sentence names at fault.
pub byte-named : (f : List ℕ) (i : ℕ) → Refused f 6 i → ByteNamed f i
byte-named f i r = by-6 r refl

-- A file that is refused by 7 has what the sentence names: from above to, or the largest number as to.
pub period-named : (f : List ℕ) (i : ℕ) → Refused f 7 i → PeriodNamed f i
period-named f i r = by-7 r refl

-- A file that is refused by 17 has what the sentence names: zero as serial, or that of an earlier credential.
pub serial-named : (f : List ℕ) (i : ℕ) → Refused f 17 i → SerialNamed f i
serial-named f i r = by-17 r refl

-- The length that the sentences of 1 and 3 name is that of the longest accepted file.
pub longest-text : ascii "more than 5126 bytes" ≡ (ascii "more than " then decimal longest then ascii " bytes")
unfolding decimal
longest-text = refl

-- Old files brought forward and back (document 02, Three): what each call answers, and every byte that it writes.
use Rattle.std.specs.Prelude.{not, List, [], ◌∷◌, ◌++◌, ℕ, zero, suc, ◌+◌, eqb, length, take, drop}
use Rattle.meaning.specs.Lists.{each, below}
use Rattle.file.specs.Refusals.{RefusalRow, Outcome, done, refused, first, ◌when◌, ◌at◌when◌, left}
use Rattle.file.specs.Format.{N, length_for, statement_at, period_at, serial_of, to_of}
use Rattle.file.specs.Reading.{reading}
use Rattle.codec.specs.Bytes.{bytes}
use Rattle.old_file.specs.OldFormat.{old_length, old_statement_at, old_period_at, old_to}
use Rattle.old_file.specs.OldReading.{old_reading}
use Rattle.carrying.specs.declared.Carried as C
use Rattle.carrying.specs.declared.Carried.TheVariants as A

-- ---- forward: position plus one as serial, `to` lowered by one

-- a `to` of 0, which 7 refuses, becomes the largest number, which 7 refuses as well
abbrev pub lowered : ℕ → ℕ
lowered zero = 4294967295
lowered (suc x) = x

abbrev pub new_statement : List ℕ → ℕ → List ℕ
new_statement f i = take 8 (drop (old_statement_at i) f) ++ bytes 4 (i + 1)

abbrev pub new_period : List ℕ → ℕ → List ℕ
new_period f i = take 4 (drop (old_period_at f i) f) ++ bytes 4 (lowered (old_to f i))

unfoldable pub forward_of : List ℕ → List ℕ
forward_of f = take 6 f ++ (each (new_statement f) (below (N f)) ++ each (new_period f) (below (N f)))

-- 1 to 8 of the old file, then 18, an output list of another length than the result; on success the count of the credentials
unfoldable pub going_forward : List ℕ → List ℕ → Outcome ℕ
going_forward f out = first (old_reading f ++ (18 when (not (eqb (length out) (length_for (N f)))) ∷ [])) (N f)

-- the output list as the call leaves it
unfoldable pub forward_left : List ℕ → List ℕ → List ℕ
forward_left f out = left (going_forward f out) out (forward_of f)

-- ---- back: no serials, `to` raised by one

abbrev pub old_statement : List ℕ → ℕ → List ℕ
old_statement f i = take 8 (drop (statement_at i) f)

abbrev pub raised_period : List ℕ → ℕ → List ℕ
raised_period f i = take 4 (drop (period_at f i) f) ++ bytes 4 (to_of f i + 1)

unfoldable pub back_of : List ℕ → List ℕ
back_of f = take 6 f ++ (each (old_statement f) (below (N f)) ++ each (raised_period f) (below (N f)))

-- 19: a serial that is not its position plus one
abbrev pub place_rows : List ℕ → ℕ → List RefusalRow
place_rows f i = 19 at i when (not (eqb (serial_of f i) (i + 1))) ∷ []

-- the file's own refusals, then 18, then 19 of the first such credential
unfoldable pub going_back : List ℕ → List ℕ → Outcome ℕ
going_back f out =
    first (reading f ++ (18 when (not (eqb (length out) (old_length (N f)))) ∷ each (place_rows f) (below (N f)))) (N f)

unfoldable pub back_left : List ℕ → List ℕ → List ℕ
back_left f out = left (going_back f out) out (back_of f)

-- an answer as an outcome
abbrev pub says_carried : C.Carried → Outcome ℕ
says_carried (A.Credentials n) = done n
says_carried (A.Refused n p) = refused n p

-- The documents' conditions for refusals 1 to 8 and 17, in propositions: when each is given, and when none is.
use Rattle.std.specs.Prelude.{◌≡◌, ◌⊎◌, ℕ, ◌+◌, ◌<◌, ◌≤◌, length}
use mathlib.Core.List.{List, Memᴰ as Mem}
use Rattle.meaning.specs.Table.{ends}
use Rattle.file.specs.Format.{byte, E, R, N, length_for, statement_at, field, serial_of, from_of, to_of, credentials}
use Rattle.file.specs.Reading.{uses}

-- E and R are 1 to 32, N is 0 to 256
pub record Limits (f : List ℕ) : Type 0 where
  pub entities : (1 ≤ E f) × (E f ≤ 32)
  pub names : (1 ≤ R f) × (R f ≤ 32)
  pub credentials : N f ≤ 256

pub record Head (f : List ℕ) : Type 0 where
  pub six : 6 ≤ length f
  pub limits : Limits f
  pub whole : length f ≡ length_for (N f)

-- A and every used entity below E, r and every used name below R
pub record Ranges (f : List ℕ) (i : ℕ) : Type 0 where
  pub entities : (j : ℕ) → Mem j (uses (field f i 0)).entities → field f i j < E f
  pub names : (j : ℕ) → Mem j (uses (field f i 0)).names → field f i j < R f

-- unused bytes and byte 7 zero
abbrev pub Zeros : List ℕ → ℕ → Type 0
Zeros f i = (j : ℕ) → Mem j (uses (field f i 0)).unused → field f i j ≡ 0

-- from is not above to, and to is a minute
pub record Dated (f : List ℕ) (i : ℕ) : Type 0 where
  pub order : from_of f i ≤ to_of f i
  pub minute : ¬ (to_of f i ≡ 4294967295)

-- from is above to, or to is no minute
abbrev pub Undated : List ℕ → ℕ → Type 0
Undated f i = (to_of f i < from_of f i) ⊎ (to_of f i ≡ 4294967295)

-- the serial is not zero, and no earlier credential has it
pub record Fresh (f : List ℕ) (i : ℕ) : Type 0 where
  pub some : ¬ (serial_of f i ≡ 0)
  pub new : (j : ℕ) → j < i → ¬ (serial_of f j ≡ serial_of f i)

-- the serial is zero, or some earlier credential has it
abbrev pub Taken : List ℕ → ℕ → Type 0
Taken f i = (serial_of f i ≡ 0) ⊎ ((j : ℕ) × (j < i) × (serial_of f j ≡ serial_of f i))

-- credential i passes 4 to 7 and 17
pub record Good (f : List ℕ) (i : ℕ) : Type 0 where
  pub kind : field f i 0 ≤ 5
  pub ranges : Ranges f i
  pub zeros : Zeros f i
  pub period : Dated f i
  pub serial : Fresh f i

abbrev pub GoodBelow : List ℕ → ℕ → Type 0
GoodBelow f n = (i : ℕ) → i < n → Good f i

-- refusals 1 to 8 and 17 are not given
pub record Accepted (f : List ℕ) : Type 0 where
  pub head : Head f
  pub good : GoodBelow f (N f)
  pub few : length (ends (credentials f)) ≤ 64

-- the head passes, and so do all credentials before credential i
pub record Reached (f : List ℕ) (i : ℕ) : Type 0 where
  pub head : Head f
  pub below : i < N f
  pub good : GoodBelow f i

-- `Refused f n p`: the condition of refusal n holds at place p, and none above it does
pub data Refused (f : List ℕ) : ℕ → ℕ → Type 0 where
  short : length f < 6 → Refused f 1 0
  limits : 6 ≤ length f → ¬ Limits f → Refused f 2 0
  wrong_length : 6 ≤ length f → Limits f → ¬ (length f ≡ length_for (N f)) → Refused f 3 0
  kind : (i : ℕ) → Reached f i → 5 < field f i 0 → Refused f 4 i
  range : (i : ℕ) → Reached f i → field f i 0 ≤ 5 → ¬ Ranges f i → Refused f 5 i
  unused : (i : ℕ) → Reached f i → field f i 0 ≤ 5 → Ranges f i → ¬ Zeros f i → Refused f 6 i
  period : (i : ℕ) → Reached f i → field f i 0 ≤ 5 → Ranges f i → Zeros f i → Undated f i → Refused f 7 i
  serial : (i : ℕ) → Reached f i → field f i 0 ≤ 5 → Ranges f i → Zeros f i → Dated f i → Taken f i → Refused f 17 i
  too_many_ends : Head f → GoodBelow f (N f) → 64 < length (ends (credentials f)) → Refused f 8 0

-- byte k is in no serial of the file: those are bytes 8 to 11 of each statement
abbrev pub OutsideSerials : List ℕ → ℕ → Type 0
OutsideSerials f k = (i : ℕ) → i < N f → (k < statement_at i + 8) ⊎ (statement_at i + 12 ≤ k)

-- two files are alike but for the bytes of serials
abbrev pub AlikeOutside : List ℕ → List ℕ → Type 0
AlikeOutside f g = (k : ℕ) → OutsideSerials f k → byte f k ≡ byte g k

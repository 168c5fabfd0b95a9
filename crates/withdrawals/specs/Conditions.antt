-- The documents' conditions for the refusals of a file with a withdrawal list, in propositions: when each is given, and when none is.
use Rattle.std.specs.Prelude.{◌≡◌, ◌⊎◌, List, ℕ, ◌<◌, ◌≤◌, length}
use Rattle.meaning.specs.Table.{ends}
use Rattle.file.specs.Format.{serial_of}
use Rattle.file.specs.Conditions as F
use Rattle.file.specs.Conditions.{Head, GoodBelow}
use Rattle.withdrawals.specs.List.{count, bytes_for, serial_at}
use Rattle.withdrawals.specs.Source.{Source, N, credentials}

-- a count up to 256, and as many bytes as it takes
pub record Shaped (w : List ℕ) : Type 0 where
  pub two : 2 ≤ length w
  pub few : count w ≤ 256
  pub whole : length w ≡ bytes_for (count w)

-- under 2 bytes, a count above 256, or another length
abbrev pub Misshapen : List ℕ → Type 0
Misshapen w = (length w < 2) ⊎ ((256 < count w) ⊎ (¬ (length w ≡ bytes_for (count w))))

-- each serial of the list is on a credential, and no two are the same
pub record Founded (s : Source) : Type 0 where
  pub known : (k : ℕ) → k < count s.withdrawals → (i : ℕ) × (i < N s) × (serial_of s.file i ≡ serial_at s.withdrawals k)
  pub once : (j k : ℕ) → j < k → k < count s.withdrawals → ¬ (serial_at s.withdrawals j ≡ serial_at s.withdrawals k)

-- a serial is twice in the list
abbrev pub Twice : List ℕ → Type 0
Twice w = (j : ℕ) × (k : ℕ) × (j < k) × (k < count w) × (serial_at w j ≡ serial_at w k)

-- a serial of the list is on no credential
abbrev pub Unknown : Source → Type 0
Unknown s = (k : ℕ) × (k < count s.withdrawals) × ((i : ℕ) → i < N s → ¬ (serial_of s.file i ≡ serial_at s.withdrawals k))

-- the file passes 1 to 7 and 17
pub record Readable (s : Source) : Type 0 where
  pub head : Head s.file
  pub good : GoodBelow s.file (N s)

-- refusals 1 to 8, 17, 20 and 21 are not given
pub record Accepted (s : Source) : Type 0 where
  pub readable : Readable s
  pub shaped : Shaped s.withdrawals
  pub founded : Founded s
  pub few : length (ends (credentials s)) ≤ 64

-- `Refused s n p`: the condition of refusal n holds at place p, and none above it does
pub data Refused (s : Source) : ℕ → ℕ → Type 0 where
  file : {n p : ℕ} → F.Refused s.file n p → ¬ (n ≡ 8) → Refused s n p
  list : Readable s → Misshapen s.withdrawals → Refused s 20 0
  serials : Readable s → Shaped s.withdrawals → Twice s.withdrawals ⊎ Unknown s → Refused s 21 0
  too_many_ends : Readable s → Shaped s.withdrawals → Founded s → 64 < length (ends (credentials s)) → Refused s 8 0

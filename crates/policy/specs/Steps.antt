-- What the private functions do.
use Rattle.std.specs.Prelude.{◌≡◌, List, ℕ, ◌+◌, ◌*◌, ◌^◌, ◌<◌, eqb, get_or, set}
use Rattle.meaning.specs.Lists.{if}
use Rattle.meaning.specs.Credentials.{◌·◌}
use Rattle.file.specs.declared.Refusal.{Refusal}
use Rattle.file.specs.Format.{N, byte, field, from_of, to_of}
use Rattle.file.specs.Reading.{credential_rows, check_rows, credentials_rows}
use Rattle.file.specs.Values.{first_number, first_refusal}

-- a body as a number, of b, s, c, t
abbrev pub body_number : ℕ → ℕ → ℕ → ℕ → ℕ → ℕ
body_number kind b s c t = if (eqb kind 0) (2 ^ b) ((b · s) * 1024 + (c · t))

-- the body whose bytes start at p
abbrev pub body_at : List ℕ → ℕ → ℕ → ℕ
body_at f kind p = body_number kind (byte f p) (byte f (p + 1)) (byte f (p + 2)) (byte f (p + 2 + 1))

-- a statement as a number
abbrev pub statement_number : ℕ → ℕ → ℕ → ℕ
statement_number kind head body = kind * 4398046511104 + head * 4294967296 + body

-- the statement at position i
abbrev pub word_in : List ℕ → ℕ → ℕ
word_in f i =
    statement_number (field f i 0) (field f i 1 · field f i 2) (body_number (field f i 0) (field f i 3) (field f i 4) (field f i 5) (field f i 6))

-- a period as a number
abbrev pub period_number : ℕ → ℕ → ℕ
period_number from until = from * 4294967296 + until

-- the numbers of credential i put into a list
abbrev pub stored : List ℕ → ℕ → ℕ → ℕ → List ℕ
stored p i statement period = set (set p (2 * i) statement) (2 * i + 1) period

-- the numbers of credential i, which passes 4 to 7
pub record Worded (f p : List ℕ) (i : ℕ) : Type 0 where
  pub passed : first_number (credential_rows f i) ≡ 0
  pub statement : get_or p (2 * i) 0 ≡ word_in f i
  pub period : get_or p (2 * i + 1) 0 ≡ period_number (from_of f i) (to_of f i + 1)
  pub narrow : to_of f i + 1 < 4294967296

-- r is the number of the refusal of credential i, or the credential was stored after those below it
pub record OneDecoded (f : List ℕ) (i : ℕ) (p p' : List ℕ) (r : ℕ) : Type 0 where
  pub number : r ≡ first_number (check_rows f i)
  pub stored : r ≡ 0 → Worded f p' i
  pub kept : (j : ℕ) → j < i → Worded f p j → Worded f p' j

-- r is the first refusal, or all credentials were stored
pub record AllDecoded (f p : List ℕ) (r : Refusal) : Type 0 where
  pub refusal : r ≡ first_refusal (credentials_rows f)
  pub each : r.number ≡ 0 → (i : ℕ) → i < N f → Worded f p i

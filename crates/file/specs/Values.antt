-- What the reader's answers hold: the head, a refusal, a period and a credential, as values.
use Rattle.std.specs.Prelude.{◌≡◌, Bool, ◌&&◌, List, [], ◌∷◌, ℕ, ◌<◌, ◌≤◌, eqb, ltb, length}
use Rattle.std.proofs.Math.Option.{Option, none, some}
use Rattle.meaning.specs.Lists.{if, any}
use Rattle.meaning.specs.Credentials as M
use Rattle.meaning.specs.Credentials.{◌⟵◌, ◌during◌}
use Rattle.file.specs.Refusals.{RefusalRow, Outcome, first, number_of, place_of}
use Rattle.file.specs.Format.{stated_by, credential_in, E, R, N, length_for, field, serial_of, from_of, to_of, role_of, role_number, meaning_of, body_in, period_of}
use Rattle.file.specs.Reading.{uses, head_rows, credential_rows}
use Rattle.file.specs.declared.Used.{Used}
use Rattle.file.specs.declared.Head.{Head}
use Rattle.file.specs.declared.Refusal.{Refusal}
use Rattle.file.specs.declared.Period.{Period}
use Rattle.file.specs.declared.Dates.{Dates}
use Rattle.file.specs.declared.Credential.{Credential}
use Rattle.file.specs.declared.Body.{Body}
use Rattle.file.specs.declared.Found as D
use Rattle.file.specs.declared.Found.TheVariants as F

-- the first refusal of some rows, and its number; 0 where there is none
abbrev pub refusal_of : {A : Type 0} → Outcome A → Refusal
refusal_of o = record { number = number_of o; place = place_of o }

abbrev pub first_refusal : List RefusalRow → Refusal
first_refusal rows = refusal_of {A = ℕ} (first rows 0)

abbrev pub first_number : List RefusalRow → ℕ
first_number rows = (first_refusal rows).number

-- no row holds
abbrev pub clear : List RefusalRow → Bool
clear rows = eqb (first_number rows) 0

-- which of s, c and t a kind uses
abbrev pub used_by : ℕ → Used
used_by kind = record { s = any (eqb 4) (uses kind).names; c = any (eqb 5) (uses kind).entities; t = any (eqb 6) (uses kind).names }

abbrev pub no_sizes : ℕ → Head
no_sizes number = record { number = number; entities = 0; names = 0; credentials = 0 }

-- the sizes of a file that passes 1 to 3; otherwise the refusal's number
abbrev pub head_in : List ℕ → Head
head_in f = if (clear (head_rows f)) (record { number = 0; entities = E f; names = R f; credentials = N f }) (no_sizes (first_number (head_rows f)))

-- h has the sizes of a file that passes 1 to 3
pub record Headed (f : List ℕ) (h : Head) : Type 0 where
  pub entities : h.entities ≡ E f
  pub names : h.names ≡ R f
  pub credentials : h.credentials ≡ N f
  pub few : N f ≤ 256
  pub narrow : (E f ≤ 32) × (R f ≤ 32)
  pub long : length f ≡ length_for (N f)

-- statement i is in the file, and its kind is one of the six
pub record Stated (f : List ℕ) (i : ℕ) : Type 0 where
  pub low : i < N f
  pub few : N f ≤ 256
  pub long : length f ≡ length_for (N f)
  pub kind : field f i 0 ≤ 5

-- from and to of credential i, and its period
abbrev pub dates_in : List ℕ → ℕ → Dates
dates_in f i = record { from = from_of f i; to = to_of f i }

abbrev pub period_in : List ℕ → ℕ → Period
period_in f i = record { from = (period_of f i).from; until = (period_of f i).until }

-- a credential that can be read: the head passes 1 to 3, the position is below N, and the credential passes 4 to 7
abbrev pub readable : List ℕ → ℕ → Bool
readable f i = clear (head_rows f) && ltb i (N f) && clear (credential_rows f i)

abbrev pub value_of : List ℕ → ℕ → Body → Credential
value_of f i e = record { serial = serial_of f i; head = role_of (field f i 1) (field f i 2); body = e; period = period_in f i }

abbrev pub found : Credential → D.Found
found c = F.Credential c

abbrev pub found_of : List ℕ → ℕ → Option Body → D.Found
found_of f i none = F.End
found_of f i (some e) = found (value_of f i e)

abbrev pub found_in : List ℕ → ℕ → D.Found
found_in f i = if (readable f i) (found_of f i (body_in f i)) F.End

-- what a credential's value means
abbrev pub meant_by : Credential → M.Credential
meant_by c = role_number c.head ⟵ meaning_of c.body during record { from = c.period.from; until = c.period.until }

-- What is read at a position: a value that means the credential there, states the bytes of its statement and has its serial.
pub record Read (f : List ℕ) (i : ℕ) : Type 0 where
  pub value : Credential
  pub found : found_in f i ≡ F.Credential value
  pub means : meant_by value ≡ credential_in f i
  pub states : stated_by value.body ≡ field f i 0 ∷ field f i 3 ∷ field f i 4 ∷ field f i 5 ∷ field f i 6 ∷ []
  pub serial : value.serial ≡ serial_of f i

-- What completing, ends, intervals, querying and checking read: a credentials file with a withdrawal list. Its credentials, and refusals 1 to 8, 17, 20 and 21.
use Rattle.std.specs.Prelude.{Bool, ◌||◌, List, [], ◌∷◌, ◌++◌, map, ℕ, eqb, ltb, length}
use Rattle.meaning.specs.Lists.{below}
use Rattle.meaning.specs.Credentials.{Credential}
use Rattle.meaning.specs.Table.{ends}
use Rattle.file.specs.Refusals.{RefusalRow, Outcome, first, ◌when◌}
use Rattle.file.specs.Format as F
use Rattle.file.specs.Format.{serial_of}
use Rattle.file.specs.Reading.{head_rows, credentials_rows, of_file}
use Rattle.withdrawals.specs.List.{misshapen, unfounded}
use Rattle.withdrawals.specs.Cut.{withdrawn}

pub record Source : Type 0 where
  pub file : List ℕ
  pub withdrawals : List ℕ

infix 70 ◌without◌
-- the file without what the list withdraws
abbrev pub ◌without◌ : List ℕ → List ℕ → Source
f without w = record { file = f; withdrawals = w }

-- the file's sizes
abbrev pub E : Source → ℕ
E s = F.E s.file

abbrev pub R : Source → ℕ
R s = F.R s.file

abbrev pub N : Source → ℕ
N s = F.N s.file

-- the credential at position i, its period cut
abbrev pub credential_in : Source → ℕ → Credential
credential_in s i = withdrawn s.withdrawals (serial_of s.file i) (F.credential_in s.file i)

-- the credentials that memberships, minutes, proofs and levels are judged by
unfoldable pub credentials : Source → List Credential
credentials s = map (credential_in s) (below (N s))

-- 20, then 21
abbrev pub list_rows : Source → List RefusalRow
list_rows s = 20 when (misshapen s.withdrawals) ∷ 21 when (unfounded s.file s.withdrawals) ∷ []

-- 8: the ends after the cut
abbrev pub ends_row : Source → RefusalRow
ends_row s = 8 when (ltb 64 (length (ends (credentials s))))

-- the file's 1 to 7 and 17, then 20 and 21, then 8
unfoldable pub reading : Source → List RefusalRow
reading s = head_rows s.file ++ (credentials_rows s.file ++ (list_rows s ++ ends_row s ∷ []))

-- what reading answers, where its value on success is a
abbrev pub read : {A : Type 0} → Source → A → Outcome A
read s a = first (reading s) a

-- the numbers of these refusals
abbrev pub of_source : ℕ → Bool
of_source n = of_file n || (eqb n 20 || eqb n 21)

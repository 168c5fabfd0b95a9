-- Completing the table (document 01): the reply, and what the three lent lists then hold.
use Rattle.std.specs.Prelude.{Bool, ◌&&◌, not, List, [], ◌∷◌, ◌++◌, ℕ, eqb, ltb, length}
use Rattle.meaning.specs.Table.{table}
use Rattle.file.specs.Refusals as R
use Rattle.file.specs.Refusals.{Outcome, done, refused, first, ◌when◌, left}
use Rattle.file.specs.Reading.{between}
use Rattle.withdrawals.specs.Source.{Source, credentials, reading}
use Rattle.writing.specs.Columns.{column}
use Rattle.completing.specs.declared.Completed.{Completed}
use Rattle.completing.specs.declared.Completed.TheVariants as C

-- the lent lists
pub record Lent : Type 0 where
  pub roles : List ℕ
  pub sets : List ℕ
  pub spans : List ℕ

abbrev pub lent : List ℕ → List ℕ → List ℕ → Lent
lent roles sets spans = record { roles = roles; sets = sets; spans = spans }

-- the lists are of one length, from 1 to 1,024
abbrev pub three_of_one_length : Lent → Bool
three_of_one_length t = eqb (length t.sets) (length t.roles) && eqb (length t.spans) (length t.roles) && between 1 1024 (length t.roles)

-- 9: unequal lengths, or L outside 1 to 1,024
abbrev pub lent_row : Lent → R.RefusalRow
lent_row t = 9 when (not (three_of_one_length t))

-- 10: more than L memberships over all minutes
abbrev pub table_full_row : Source → Lent → R.RefusalRow
table_full_row f t = 10 when (ltb (length t.roles) (length (table (credentials f))))

-- the count of memberships valid at one minute or more
unfoldable pub reply_to : Source → Lent → Outcome ℕ
reply_to f t = first (reading f ++ (lent_row t ∷ table_full_row f t ∷ [])) (length (table (credentials f)))

-- how a call ends: its reply, and the lists as it leaves them
pub record TableEnding : Type 0 where
  pub reply : Outcome ℕ
  pub lists : Lent

abbrev pub table_ending : Outcome ℕ → List ℕ → List ℕ → List ℕ → TableEnding
table_ending reply roles sets spans = record { reply = reply; lists = lent roles sets spans }

-- the memberships ascending by role, then by set, each with all its spans; zeros after the last
unfoldable pub completing : Source → Lent → TableEnding
completing f t =
    table_ending (reply_to f t)
    (left (reply_to f t) t.roles (column (λ x. x.role) (length t.roles) (table (credentials f))))
    (left (reply_to f t) t.sets (column (λ x. x.set) (length t.roles) (table (credentials f))))
    (left (reply_to f t) t.spans (column (λ x. x.spans) (length t.roles) (table (credentials f))))

-- document 01's number and values for each case of the answer
abbrev pub says_completed : Completed → Outcome ℕ
says_completed (C.Memberships n) = done n
says_completed (C.Refused n p) = refused n p

-- The ending of completing in lists of one length, by the table of some credentials.
use Rattle.std.specs.Prelude.{List, [], ◌∷◌, ℕ, ltb, length}
use Rattle.meaning.specs.Credentials.{Credential}
use Rattle.meaning.specs.Table.{table}
use Rattle.file.specs.Refusals.{Outcome, first, ◌when◌, left}
use Rattle.writing.specs.Columns.{column}
use Rattle.completing.specs.Completing.{Lent, TableEnding, table_ending}

-- The ending after 1 to 9, 17, 20 and 21, by the table of some credentials: refusal 10, or the count of its rows.
abbrev pub last_reply : List Credential → Lent → Outcome ℕ
last_reply cs t = first (10 when (ltb (length t.roles) (length (table cs))) ∷ []) (length (table cs))

abbrev pub ending_by : List Credential → Lent → Outcome ℕ → TableEnding
ending_by cs t o =
    table_ending o (left o t.roles (column (λ x. x.role) (length t.roles) (table cs)))
    (left o t.sets (column (λ x. x.set) (length t.roles) (table cs))) (left o t.spans (column (λ x. x.spans) (length t.roles) (table cs)))

abbrev pub last_ending : List Credential → Lent → TableEnding
last_ending cs t = ending_by cs t (last_reply cs t)

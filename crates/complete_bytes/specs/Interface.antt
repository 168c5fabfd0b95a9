-- Completing on bytes (document 01): lists of bytes in place of the lent lists.
use Rattle.std.specs.Prelude.{Bool, ◌&&◌, ℕ}
use Rattle.meaning.specs.Lists.{if}
use Rattle.meaning.specs.Table.{table}
use Rattle.file.specs.Refusals.{Outcome, left}
use Rattle.withdrawals.specs.Source.{Source, credentials}
use Rattle.writing.specs.Columns.{column}
use Rattle.completing.specs.Completing.{Lent, lent, reply_to, TableEnding, table_ending}
use Rattle.codec.specs.Bytes.{bytes_of, entries, whole}
use Rattle.replies.specs.Interface.{not_whole, entry_count}

abbrev pub whole_lent : Lent → Bool
whole_lent b = whole 4 b.roles && whole 4 b.sets && whole 8 b.spans

abbrev pub lent_in : Lent → Lent
lent_in b = lent (entries 4 b.roles) (entries 4 b.sets) (entries 8 b.spans)

unfoldable pub complete_reply : Source → Lent → Outcome ℕ
complete_reply f b = if (whole_lent b) (reply_to f (lent_in b)) (not_whole f 0)

-- the reply and the bytes as the call leaves them
unfoldable pub complete_bytes : Source → Lent → TableEnding
complete_bytes f b =
    table_ending (complete_reply f b)
    (left (complete_reply f b) b.roles (bytes_of 4 (column (λ x. x.role) (entry_count b.roles) (table (credentials f)))))
    (left (complete_reply f b) b.sets (bytes_of 4 (column (λ x. x.set) (entry_count b.roles) (table (credentials f)))))
    (left (complete_reply f b) b.spans (bytes_of 8 (column (λ x. x.spans) (entry_count b.roles) (table (credentials f)))))

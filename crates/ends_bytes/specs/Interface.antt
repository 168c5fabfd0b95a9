-- The ends on bytes: one lent list of 256 bytes, 64 entries of 4 bytes.
use Rattle.std.specs.Prelude.{not, List, [], ◌∷◌, ◌++◌, ℕ, eqb, length}
use Rattle.meaning.specs.Table.{ends}
use Rattle.file.specs.Refusals.{Outcome, first, ◌when◌, left}
use Rattle.withdrawals.specs.Source.{Source, credentials, reading}
use Rattle.survey.specs.Ends.{padded}
use Rattle.codec.specs.Bytes.{bytes_of}

-- 1 to 8, 17, 20 and 21, then 9 for any other length; on success the count of the ends
unfoldable pub ends_reply : Source → List ℕ → Outcome ℕ
ends_reply f b = first (reading f ++ (9 when (not (eqb (length b) 256)) ∷ [])) (length (ends (credentials f)))

-- the bytes as the call leaves them: on success the ends, and zeros after them
unfoldable pub ends_bytes : Source → List ℕ → List ℕ
ends_bytes f b = left (ends_reply f b) b (bytes_of 4 (padded 64 (ends (credentials f))))

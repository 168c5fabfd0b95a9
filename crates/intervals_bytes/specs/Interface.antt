-- The intervals of a span number on bytes: one lent list of 256 bytes, 32 pairs of 4-byte numbers.
use Rattle.std.specs.Prelude.{not, List, [], ◌∷◌, ◌++◌, ℕ, ◌^◌, eqb, leb, length}
use Rattle.meaning.specs.Credentials.{Period}
use Rattle.meaning.specs.Table.{ends, span_count, intervals}
use Rattle.file.specs.Refusals.{Outcome, first, ◌when◌, left}
use Rattle.withdrawals.specs.Source.{Source, credentials, reading}
use Rattle.survey.specs.Ends.{padded}
use Rattle.codec.specs.Bytes.{bytes_of}

-- from and to of each, in turn
abbrev pub bounds : List Period → List ℕ
bounds [] = []
bounds (v ∷ vs) = v.from ∷ v.until ∷ bounds vs

-- and back: the pairs that numbers are, in turn
abbrev pub pairs_in : List ℕ → List Period
pairs_in [] = []
pairs_in (x ∷ []) = []
pairs_in (x ∷ y ∷ l) = record { from = x; until = y } ∷ pairs_in l

-- 1 to 8, 17, 20 and 21, then 9 for any other length, then 11 for a bit beyond the last span; on success the count of the intervals
unfoldable pub intervals_reply : Source → ℕ → List ℕ → Outcome ℕ
intervals_reply f spans b =
    let es : List ℕ = ends (credentials f) in
    first (reading f ++ (9 when (not (eqb (length b) 256)) ∷ 11 when (leb (2 ^ span_count es) spans) ∷ [])) (length (intervals es spans))

-- the bytes as the call leaves them: on success the pairs, and zeros after them
unfoldable pub intervals_bytes : Source → ℕ → List ℕ → List ℕ
intervals_bytes f spans b = left (intervals_reply f spans b) b (bytes_of 4 (padded 64 (bounds (intervals (ends (credentials f)) spans))))

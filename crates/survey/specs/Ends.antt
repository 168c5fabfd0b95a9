-- The ends of a file's periods after its withdrawals, and how a list of 64 places has them.
use Rattle.std.specs.Prelude.{List, ◌++◌, ℕ, ◌-◌, length, replicate}
use Rattle.meaning.specs.Table.{ends}
use Rattle.file.specs.Refusals.{Outcome}
use Rattle.file.specs.Format as F
use Rattle.file.specs.Reading as Reading
use Rattle.withdrawals.specs.Source.{Source, credentials, read}

-- the values, then zeros up to n places
abbrev pub padded : ℕ → List ℕ → List ℕ
padded n xs = xs ++ replicate (n - length xs) 0

-- reading a file with its withdrawals for the ends
abbrev pub ends_read : Source → Outcome (List ℕ)
ends_read f = read f (ends (credentials f))

-- reading a file by itself
abbrev pub file_read : List ℕ → Outcome (List ℕ)
file_read f = Reading.read f (ends (F.credentials f))

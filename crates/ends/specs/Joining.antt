-- The intervals of a span number as far as the spans are joined.
use Rattle.std.specs.Prelude.{List, ℕ}
use Rattle.meaning.specs.Table.{intervals_to}
use Rattle.file.specs.Refusals.{done}
use Rattle.ends.specs.declared.Intervals.{Intervals}
use Rattle.ends.specs.Intervals.{intervals_out}

-- the intervals of the first n spans
abbrev pub joined_to : List ℕ → ℕ → ℕ → Intervals
joined_to es spans n = intervals_out (done (intervals_to es spans n))

-- The intervals of a span number, by value.
use Rattle.std.specs.Prelude.{List, [], ◌∷◌, ◌++◌, map, ℕ, ◌-◌, ◌^◌, leb, length, replicate}
use Rattle.meaning.specs.Credentials.{Period}
use Rattle.meaning.specs.Table.{ends, span_count, intervals}
use Rattle.file.specs.Refusals.{Outcome, done, refused, first, ◌when◌}
use Rattle.withdrawals.specs.Source.{Source, credentials, reading}
use Rattle.ends.specs.declared.Interval.{Interval}
use Rattle.ends.specs.declared.Intervals.{Intervals}

-- 11, after 8, for a bit beyond the last span
abbrev pub intervals_read : Source → ℕ → Outcome (List Period)
intervals_read f spans =
    let es : List ℕ = ends (credentials f) in
    first (reading f ++ (11 when (leb (2 ^ span_count es) spans) ∷ [])) (intervals es spans)

abbrev pub pair : Period → Interval
pair v = record { from = v.from; to = v.until }

abbrev pub no_pair : Interval
no_pair = record { from = 0; to = 0 }

abbrev pub pairs : List Period → List Interval
pairs vs = map pair vs ++ replicate (32 - length vs) no_pair

-- in 32 pairs with their count, zeros after them; refused, zeros
abbrev pub intervals_out : Outcome (List Period) → Intervals
intervals_out (done vs) = record { number = 0; place = 0; count = length vs; intervals = pairs vs }
intervals_out (refused n p) = record { number = n; place = p; count = 0; intervals = replicate 32 no_pair }

unfoldable pub intervals_in : Source → ℕ → Intervals
intervals_in f spans = intervals_out (intervals_read f spans)

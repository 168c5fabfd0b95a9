-- Intervals by value as the numbers that are written, and the refusal's number by the length of the list.
use Rattle.std.specs.Prelude.{◌&&◌, ◌||◌, not, List, [], ◌∷◌, ℕ, eqb}
use Rattle.meaning.specs.Lists.{if}
use Rattle.ends.specs.declared.Interval.{Interval}

abbrev pub bounds_in : List Interval → List ℕ
bounds_in [] = []
bounds_in (v ∷ vs) = v.from ∷ v.to ∷ bounds_in vs

-- 9 stands after the refusals of a file with its withdrawals and before 11
abbrev pub number_for : ℕ → ℕ → ℕ
number_for number size = if (not (eqb size 256) && (eqb number 0 || eqb number 11)) 9 number

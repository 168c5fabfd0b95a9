-- The marked entries as proof steps: their numbers, their words, and the lists that hold them.
use Rattle.std.specs.Prelude.{List, [], ◌∷◌, ◌++◌, map, ℕ, zero, suc, ◌-◌, ltb, length, get_or}
use Rattle.meaning.specs.Lists.{if, only, below}
use Rattle.meaning.specs.Proofs.{Step}
use Rattle.store.specs.Entries.{set_in}
use Rattle.store.specs.Notes.{word}

-- the marked entries below i
abbrev pub kept : List ℕ → ℕ → List ℕ
kept marks zero = []
kept marks (suc i) = kept marks i ++ only (ltb 0 (get_or marks i 0)) (i ∷ [])

-- the number of a marked entry's step: as many steps are before it
abbrev pub number : List ℕ → ℕ → ℕ
number marks i = length (kept marks i)

-- the number of the step of the entry that a word cites, 0 where it cites none
abbrev pub cited_step : List ℕ → ℕ → ℕ
cited_step marks w = if (ltb 0 w) (number marks (w - 1)) 0

-- entry i as a step
abbrev pub step_from : List ℕ → List ℕ → List ℕ → ℕ → Step
step_from keys notes marks i =
    record { credential = word notes i 0; first = cited_step marks (word notes i 1); second = cited_step marks (word notes i 2); set = set_in (get_or keys i 0) }

-- the steps of the marked entries below i
unfoldable pub steps_below : List ℕ → List ℕ → List ℕ → ℕ → List Step
steps_below keys notes marks i = map (step_from keys notes marks) (kept marks i)

-- place i of the entries kept, as a step: its words cite steps by their numbers
abbrev pub step_at : List ℕ → List ℕ → ℕ → Step
step_at keys notes i = record { credential = word notes i 0; first = word notes i 1; second = word notes i 2; set = set_in (get_or keys i 0) }

-- the first n places as steps
unfoldable pub steps_in : List ℕ → List ℕ → ℕ → List Step
steps_in keys notes n = map (step_at keys notes) (below n)

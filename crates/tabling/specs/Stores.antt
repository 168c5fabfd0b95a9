-- What filling a store and writing the table leave.
use Rattle.std.specs.Prelude.{Result, Ok, Err, List, ℕ, ◌+◌, ◌≤◌}
use Rattle.meaning.specs.Credentials.{Credential}
use Rattle.store.specs.declared.Store.{Store}
use Rattle.store.specs.declared.Full.{Full}
use Rattle.store.specs.Store.{reached, Fits}
use Rattle.tabling.specs.Tabling.{Worked, Filled}

-- closed entries with nothing left to do; or there was no room
pub record FilledIn (cs : List Credential) (limit : ℕ) (s : Store) (r : Result Unit Full) : Type 0 where
  pub filled : Filled cs limit s.keys s.spans s.slots s.links (reached limit s.count r)
  pub within : Fits limit s.count r

-- how many rows there are, or one more than there is room for
abbrev pub counted : ℕ → Result ℕ Full → ℕ
counted size (Ok n) = n
counted size (Err e) = size + 1

abbrev pub CountFits : ℕ → Result ℕ Full → Type 0
CountFits size (Ok n) = n ≤ size
CountFits size (Err e) = Unit

-- the columns of the table and its count; or there was no room
pub record WorkedTo (cs : List Credential) (size : ℕ) (roles sets spans : List ℕ) (r : Result ℕ Full) : Type 0 where
  pub worked : Worked cs size roles sets spans (counted size r)
  pub within : CountFits size r

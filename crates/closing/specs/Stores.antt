-- What entries that give in a pass leave, of a store as one value.
use Rattle.std.specs.Prelude.{◌≡◌, Bool, false, Result, Ok, Err, List, ℕ, ◌+◌, ◌≤◌}
use Rattle.store.specs.declared.Store.{Store}
use Rattle.store.specs.declared.Full.{Full}
use Rattle.rules.specs.declared.UseLists.{UseLists}
use Rattle.closing.specs.Passes.{GaveAny}

-- how many entries there are, or one more than the limit; and whether any gave
abbrev pub reached_by : ℕ → ℕ → Result Bool Full → ℕ
reached_by limit n (Ok any) = n
reached_by limit n (Err e) = limit + 1

abbrev pub any_in : Result Bool Full → Bool
any_in (Ok any) = any
any_in (Err e) = false

abbrev pub FitsBy : ℕ → ℕ → Result Bool Full → Type 0
FitsBy limit n (Ok any) = n ≤ limit
FitsBy limit n (Err e) = n ≡ limit

-- some entries gave, if any
pub record GaveAnyIn (limit : ℕ) (u : UseLists) (s : Store) (done : List ℕ) (any : Bool) (s' : Store) (done' : List ℕ) (r : Result Bool Full) : Type 0 where
  pub gave : GaveAny limit u.codes u.valid u.lists s.keys s.spans done s.count any s'.keys s'.spans s'.slots s'.links s'.notes done' (reached_by limit s'.count r) (any_in r)
  pub within : FitsBy limit s'.count r

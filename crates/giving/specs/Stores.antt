-- What giving leaves, of a store as one value.
use Rattle.std.specs.Prelude.{Result, List, ℕ}
use Rattle.store.specs.declared.Store.{Store}
use Rattle.store.specs.declared.Full.{Full}
use Rattle.store.specs.Store.{reached, Fits}
use Rattle.rules.specs.declared.UseLists.{UseLists}
use Rattle.giving.specs.declared.Visit.{Visit}
use Rattle.giving.specs.Giving.{Closes, Gave}

-- what closing some entries comes to
pub record ClosesIn (limit : ℕ) (u : UseLists) (s : Store) (done : List ℕ) (s' : Store) (done' : List ℕ) (r : Result Unit Full) : Type 0 where
  pub closes : Closes limit u.codes u.valid u.lists s.keys s.spans done s.count s'.keys s'.spans s'.slots s'.links s'.notes done' (reached limit s'.count r)
  pub within : Fits limit s'.count r

-- entry e gave
pub record GaveIn (u : UseLists) (s : Store) (done : List ℕ) (v : Visit) (s' : Store) (done' : List ℕ) (r : Result Unit Full) : Type 0 where
  pub gave : Gave u.codes u.valid u.lists s.keys s.spans s.notes done s.count v s'.keys s'.spans s'.slots s'.links s'.notes done' (reached v.limit s'.count r)
  pub within : Fits v.limit s'.count r

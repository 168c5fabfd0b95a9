-- Entries that give one after the other, of a store as one value.
use Rattle.std.specs.Prelude.{Result, List, ℕ}
use Rattle.store.specs.declared.Store.{Store}
use Rattle.store.specs.declared.Full.{Full}
use Rattle.store.specs.Store.{reached, Fits}
use Rattle.rules.specs.declared.UseLists.{UseLists}
use Rattle.levels.specs.Levels.{AtStart, FiredAll}

-- entries of level 1, none of which is done
abbrev pub AtStartIn : Store → List ℕ → UseLists → Type 0
AtStartIn s done u = AtStart s.keys s.spans s.slots s.links s.notes done u.codes u.valid u.lists s.count

-- all entries gave, in list order; or there was no room
pub record FiredAllIn (limit : ℕ) (u : UseLists) (s : Store) (done : List ℕ) (s' : Store) (done' : List ℕ) (r : Result Unit Full) : Type 0 where
  pub fired : FiredAll limit u.codes u.valid u.lists s.keys s.spans s.notes done s.count s'.keys s'.spans s'.slots s'.links s'.notes done' (reached limit s'.count r)
  pub within : Fits limit s'.count r

-- What is said of a store as one value, and of the lists of uses beside it.
use Rattle.std.specs.Prelude.{Result, ℕ}
use Rattle.store.specs.declared.Store.{Store}
use Rattle.store.specs.declared.Full.{Full}
use Rattle.store.specs.Store.{reached, Fits}
use Rattle.rules.specs.declared.UseLists.{UseLists}
use Rattle.heads.specs.Gaining.{Spanned, Origin, Kept, Gains}
use Rattle.heads.specs.Heads.{Ready}

-- entries, none without spans, each noted
abbrev pub KeptIn : Store → Type 0
KeptIn s = Kept s.keys s.spans s.slots s.links s.notes s.count

-- entries, and lists of uses that have the body
abbrev pub ReadyIn : Store → ℕ → UseLists → ℕ → Type 0
ReadyIn s limit u body = Ready s.keys s.spans s.slots s.links s.notes s.count limit u.codes u.valid u.lists body

-- Exactly the keys and spans in New were added, new entries by By, and nothing was lost; or there was no room, since there are too many keys.
pub record Adds (limit : ℕ) (s : Store) (New : Spanned) (By : Origin) (s' : Store) (r : Result Unit Full) : Type 0 where
  pub gains : Gains limit s.keys s.spans s.notes s.count New By s'.keys s'.spans s'.slots s'.links s'.notes (reached limit s'.count r)
  pub within : Fits limit s'.count r

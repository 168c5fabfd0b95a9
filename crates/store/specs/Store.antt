-- The store as one value.
use Rattle.std.specs.Prelude.{◌≡◌, Result, Ok, Err, Option, None, Some, suc, ℕ, ◌+◌, ◌≤◌, length, replicate}
use Rattle.store.specs.Entries.{Stored}
use Rattle.store.specs.declared.Store.{Store}
use Rattle.store.specs.declared.Full.{Full}

-- a store without entries
abbrev pub blank : Store
blank = record { keys = replicate 1024 0; spans = replicate 1024 0; slots = replicate 3072 0; links = replicate 2048 0; notes = replicate 3072 0; count = 0 }

-- its entries can be looked up, and there is room for their spans
abbrev pub StoredIn : Store → Type 0
StoredIn s = Stored s.keys s.slots s.links s.count × (length s.spans ≡ 1024)

-- the same entries, whatever is noted of them
pub record SameEntries (s s' : Store) : Type 0 where
  pub keys : s'.keys ≡ s.keys
  pub spans : s'.spans ≡ s.spans
  pub slots : s'.slots ≡ s.slots
  pub links : s'.links ≡ s.links
  pub count : s'.count ≡ s.count

-- the same spans, slots, links and count, whatever stands in keys and notes
pub record SameLists (s s' : Store) : Type 0 where
  pub spans : s'.spans ≡ s.spans
  pub slots : s'.slots ≡ s.slots
  pub links : s'.links ≡ s.links
  pub count : s'.count ≡ s.count

-- what adding comes to: how many entries there are, or one more than the limit
abbrev pub reached : ℕ → ℕ → Result Unit Full → ℕ
reached limit n (Ok u) = n
reached limit n (Err e) = limit + 1

-- there are no more entries than the limit, and as many where there is no room
abbrev pub Fits : ℕ → ℕ → Result Unit Full → Type 0
Fits limit n (Ok u) = n ≤ limit
Fits limit n (Err e) = n ≡ limit

-- one more than a number, 0 for none
abbrev pub one_more : Option ℕ → ℕ
one_more None = 0
one_more (Some i) = suc i

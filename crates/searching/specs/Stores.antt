-- What loading and the search at one minute leave, of a store as one value.
use Rattle.std.specs.Prelude.{Result, OnOk, List, ℕ, ◌≤◌}
use Rattle.meaning.specs.Credentials.{Credential}
use Rattle.store.specs.declared.Store.{Store}
use Rattle.store.specs.declared.Full.{Full}
use Rattle.store.specs.Store.{reached}
use Rattle.rules.specs.declared.UseLists.{UseLists}
use Rattle.searching.specs.Searching.{Loaded, Searched}

-- the credentials were loaded at the minute m; or there was no room, since there are too many sets
pub record LoadedIn (cs : List Credential) (m limit : ℕ) (s : Store) (u : UseLists) (r : Result Unit Full) : Type 0 where
  pub loaded : Loaded cs m limit s.keys s.spans s.slots s.links s.notes u.codes u.valid u.lists (reached limit s.count r)
  pub within : OnOk r (s.count ≤ limit)

-- all memberships at the minute, each once; or there was no room, since there are more than the limit
pub record SearchedIn (cs : List Credential) (m limit : ℕ) (s : Store) (r : Result Unit Full) : Type 0 where
  pub searched : Searched cs m limit s.keys s.slots s.notes (reached limit s.count r)
  pub within : OnOk r (s.count ≤ limit)

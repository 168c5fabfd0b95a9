-- What firing what was loaded comes to, whatever policy it was loaded from.
use mathlib.Core.Path.{◌≡◌, subst}
use mathlib.Core.List.{List}
use Prim.Native.Nat.{ℕ, ◌≤◌, ◌<◌}
use lib.ListN.{replicate}
use Rattle.meaning.specs.Credentials.{Credential}
use Rattle.policy.specs.Policy.{credentials_of}
use Rattle.levels.specs.Levels.{AtStart, FiredAll}
use Rattle.searching.specs.Searching.{Loaded, Searched}
use Rattle.searching.proofs.Searches as Searches

module _ {cs : List Credential} {m limit : ℕ} {keys spans slots links notes codes valid lists : List ℕ} {count : ℕ} (w : Loaded cs m limit keys spans slots links notes codes valid lists count) where
  pub over : limit < count → Searched cs m limit keys slots notes count
  over l =
      subst (λ (x : List Credential). Searched x m limit keys slots notes count) w.means
      (subst (λ (x : ℕ). Searched (credentials_of w.policy w.n) x limit keys slots notes count) w.minute (Searches.searched-over w.policy w.n w.ends w.decoded w.gains w.uses l))

  module _ (few : count ≤ limit) {done : List ℕ} (blank : done ≡ replicate 1024 0) where
    pub started : AtStart keys spans slots links notes done codes valid lists count
    started = Searches.started w.policy w.n w.ends w.decoded w.gains w.uses few blank

    pub searched : {keys' spans' slots' links' notes' done' : List ℕ} {r : ℕ} → FiredAll limit codes valid lists keys spans notes done count keys' spans' slots' links' notes' done' r → Searched cs m limit keys' slots' notes' r
    searched {keys'} {spans'} {slots'} {links'} {notes'} {done'} {r} f =
        subst (λ (x : List Credential). Searched x m limit keys' slots' notes' r) w.means
        (subst (λ (x : ℕ). Searched (credentials_of w.policy w.n) x limit keys' slots' notes' r) w.minute (Searches.searched w.policy w.n w.ends w.decoded w.gains w.uses few blank f))

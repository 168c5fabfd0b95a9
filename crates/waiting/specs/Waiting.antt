-- Sets that wait in a list of 97 places: place i has the word of a partner × 2 ^ 32 + the set, place 24 + i the spans; the places from 48 on are a tree by which a set is looked for.
use Rattle.std.specs.Prelude.{◌≡◌, ◌⊎◌, ◌↔◌, List, ℕ, ◌+◌, ◌-◌, ◌≤◌, ◌<◌, length, get_or}
use Rattle.std.specs.Int.Bits.{bit_and}
use Rattle.meaning.specs.Table.{bit}
use Rattle.store.specs.Entries.{key_of, role_in, set_in}
use Rattle.heads.specs.Walks.{On, From}
use Rattle.waiting.specs.declared.Offer.{Offer}
use Rattle.waiting.specs.declared.Pair.{Pair}
use Rattle.waiting.specs.declared.Queue.{Queue}
use Rattle.waiting.specs.declared.Gathered.{Gathered}
use Rattle.waiting.specs.Pairs.{role_of, WithPair, Pairing}

-- the entries below n are in lists by role
abbrev pub RoleLists : List ℕ → List ℕ → ℕ → Type 0
RoleLists keys links n = (i : ℕ) → i < n → On (role_of keys) (role_of keys i) i (get_or links i 0) × ((j : ℕ) → get_or links i 0 ≤ j → j < i → role_of keys j ≡ role_of keys i → ⊥)

-- the list has room, and at most 24 sets wait
pub record Waiting (w : List ℕ) (count : ℕ) : Type 0 where
  pub room : length w ≡ 97
  pub few : count ≤ 24

-- a set that waits, in span s
pub record Waits (w : List ℕ) (count X s : ℕ) : Type 0 where
  pub place : ℕ
  pub low : place < count
  pub set : X ≡ set_in (get_or w place 0)
  pub spans : bit (get_or w (24 + place) 0) s ≡ 1

-- a set that waits, with the word of its partner
pub record Partnered (w : List ℕ) (count X other : ℕ) : Type 0 where
  pub place : ℕ
  pub low : place < count
  pub set : X ≡ set_in (get_or w place 0)
  pub word : other ≡ role_in (get_or w place 0)

-- a place below count with the set, or the count
pub record Placed (w : List ℕ) (count set r : ℕ) : Type 0 where
  pub within : r ≤ count
  pub equal : r < count → set_in (get_or w r 0) ≡ set

-- only the tree changed
pub record Settled (w w' : List ℕ) : Type 0 where
  pub room : length w' ≡ length w
  pub same : (i : ℕ) → i < 48 → get_or w' i 0 ≡ get_or w i 0

-- exactly the set of a pair was added in its spans; a set has the partner that it had, or that of the pair
pub record United (w : List ℕ) (q : Queue) (x : Pair) (w' : List ℕ) (q' : Queue) : Type 0 where
  pub waiting : Waiting w' q'.count
  pub exact : (X s : ℕ) → Waits w' q'.count X s ↔ (Waits w q.count X s ⊎ ((X ≡ x.set) × (bit x.spans s ≡ 1)))
  pub partners : (i : ℕ) → i < q'.count → ((i < q.count) × (get_or w' i 0 ≡ get_or w i 0)) ⊎ ((x.spans ≡ 0 → ⊥) × (get_or w' i 0 ≡ key_of x.other x.set))

-- what waits is exactly what the entries from place r .at up to start give, and the walk goes on there
pub record Gathers (keys done : List ℕ) (o : Offer) (start : ℕ) (w : List ℕ) (r : Gathered) : Type 0 where
  pub waiting : Waiting w r.count
  pub exact : (X s : ℕ) → Waits w r.count X s ↔ From (role_of keys) (role_of keys (start - 1)) start r.at (λ j. WithPair o.kind o.set (set_in (get_or keys j 0)) (bit_and o.spans (get_or done j 0))) X s
  pub partners : (i : ℕ) → i < r.count → Pairing keys done start o.kind o.set (set_in (get_or w i 0)) (role_in (get_or w i 0))
  pub on : On (role_of keys) (role_of keys (start - 1)) start r.at
  pub less : (start ≡ 0 → ⊥) → r.at < start

-- Entries: memberships found so far, each a key (role × 2 ^ 32 + set) with the spans in which it was found.
use Rattle.std.specs.Prelude.{◌≡◌, ◌⊎◌, ◌↔◌, List, ℕ, zero, suc, ◌+◌, ◌*◌, ◌/◌, ◌%◌, ◌≤◌, ◌<◌, eqb, length, get_or, set}
use Rattle.meaning.specs.Lists.{if}
use Rattle.meaning.specs.Table.{bit}

abbrev pub key_of : ℕ → ℕ → ℕ
key_of Ar X = Ar * 4294967296 + X

abbrev pub role_in : ℕ → ℕ
role_in key = key / 4294967296

abbrev pub set_in : ℕ → ℕ
set_in key = key % 4294967296

-- among the first n entries, one has the key, and its spans have bit s
abbrev pub Has : List ℕ → List ℕ → ℕ → ℕ → ℕ → Type 0
Has keys spans n key s = (i : ℕ) × (i < n) × (get_or keys i 0 ≡ key) × (bit (get_or spans i 0) s ≡ 1)

-- one more than the latest item below n of the family r, 0 where there is none
abbrev pub latest : (ℕ → ℕ) → ℕ → ℕ → ℕ
latest family r zero = 0
latest family r (suc n) = if (eqb (family n) r) (suc n) (latest family r n)

-- n items of some families in lists: `last r` is the latest of family r, `prev i` the one before item i
pub record Chained (family : ℕ → ℕ) (families n : ℕ) (last prev : ℕ → ℕ) : Type 0 where
  pub lasts : (r : ℕ) → r < families → last r ≡ latest family r n
  pub prevs : (i : ℕ) → i < n → prev i ≡ latest family (family i) i

-- the bits by which a key is looked for
abbrev pub product : ℕ → ℕ
product key = set_in key * 2654435761 + role_in key % 1024 * 2246822519

unfoldable pub mixed : ℕ → ℕ
mixed key = product key / 4194304 + product key % 4194304 * 4398046511104

-- A search for the key that stands at place p of the slots, with further bits x, comes to place q and meets no entry of the key before it. A slot
-- has one more than an entry's number, or 0; from entry i the search goes on at one of its two slots.
pub data Leads (keys slots : List ℕ) (key : ℕ) : ℕ → ℕ → ℕ → Type 0 where
  here : {p x : ℕ} → Leads keys slots key p x p
  next : {p x q : ℕ} (i : ℕ) → get_or slots p 0 ≡ suc i → (get_or keys i 0 ≡ key → ⊥) → Leads keys slots key (1024 + 2 * i + x % 2) (x / 2) q → Leads keys slots key p x q

-- the search from its start
abbrev pub Comes : List ℕ → List ℕ → ℕ → ℕ → Type 0
Comes keys slots key q = Leads keys slots key (mixed key % 1024) (mixed key / 1024) q

-- every entry is found by its key, and the slots of an entry lead to later ones
pub record Searchable (keys slots : List ℕ) (n : ℕ) : Type 0 where
  pub reached : (i : ℕ) → i < n → (p : ℕ) × Comes keys slots (get_or keys i 0) p × (get_or slots p 0 ≡ suc i)
  pub within : (p i : ℕ) → get_or slots p 0 ≡ suc i → i < n
  pub later : (p i : ℕ) → get_or slots p 0 ≡ suc i → p < 1024 + 2 * i

-- one more than the latest entry of the role r, or 0
abbrev pub latest_in : List ℕ → ℕ → ℕ
latest_in links r = get_or links (1024 + r) 0

-- the links after entry n of the role r
abbrev pub pushed : List ℕ → ℕ → ℕ → List ℕ
pushed links n r = set (set links n (latest_in links r)) (1024 + r) (n + 1)

-- n entries with their slots, and their lists by role: places 0 to 1,023 of `links` are `prev`, the others `last`
pub record Stored (keys slots links : List ℕ) (n : ℕ) : Type 0 where
  pub room : (length keys ≡ 1024) × (length slots ≡ 3072) × (length links ≡ 2048)
  pub few : n ≤ 1024
  pub roles : (i : ℕ) → i < n → role_in (get_or keys i 0) < 1024
  pub searchable : Searchable keys slots n
  pub chained : Chained (λ i. role_in (get_or keys i 0)) 1024 n (latest_in links) (λ i. get_or links i 0)

-- entries are below 1,024, and the slots of an entry lead to later ones: every search ends
abbrev pub Leading : List ℕ → Type 0
Leading slots = (p i : ℕ) → get_or slots p 0 ≡ suc i → (i < 1024) × (p < 1024 + 2 * i)

-- the place where a search ends: an empty slot, or that of an entry with the key
pub record At (keys slots : List ℕ) (key p : ℕ) : Type 0 where
  pub comes : Comes keys slots key p
  pub within : p < 3072
  pub stops : (i : ℕ) → get_or slots p 0 ≡ suc i → get_or keys i 0 ≡ key

-- r is one more than the number of the entry with the key among the first n, or 0 where there is none
pub record EntryOf (keys : List ℕ) (n key r : ℕ) : Type 0 where
  pub absent : r ≡ 0 → (i : ℕ) → i < n → get_or keys i 0 ≡ key → ⊥
  pub present : (i : ℕ) → r ≡ suc i → (i < n) × (get_or keys i 0 ≡ key)

-- the same, for every n of which the first n entries can be searched
pub record LookedUp (keys slots : List ℕ) (key r : ℕ) : Type 0 where
  pub within : r ≤ 1024
  pub entry : (n : ℕ) → Searchable keys slots n → EntryOf keys n key r

-- among the first n entries, one has the key, and its spans have all of m
abbrev pub HasAll : List ℕ → List ℕ → ℕ → ℕ → ℕ → Type 0
HasAll keys spans n key m = (i : ℕ) × (i < n) × (get_or keys i 0 ≡ key) × ((s : ℕ) → bit m s ≡ 1 → bit (get_or spans i 0) s ≡ 1)

-- the first n entries keep their keys and all their spans
pub record Grown (keys spans : List ℕ) (n : ℕ) (keys' spans' : List ℕ) (n' : ℕ) : Type 0 where
  pub more : n ≤ n'
  pub same : (i : ℕ) → i < n → get_or keys' i 0 ≡ get_or keys i 0
  pub kept : (i s : ℕ) → i < n → bit (get_or spans i 0) s ≡ 1 → bit (get_or spans' i 0) s ≡ 1

-- Spans m were added to the entry of a key, or to a new one; or, for an answer above the limit, there was no room for a new one.
pub record Added (limit key m : ℕ) (keys spans : List ℕ) (n : ℕ) (keys' spans' slots' links' : List ℕ) (r : ℕ) : Type 0 where
  pub stored : r ≤ limit → Stored keys' slots' links' r
  pub grown : r ≤ limit → Grown keys spans n keys' spans' r
  pub exact : r ≤ limit → (k s : ℕ) → Has keys' spans' r k s ↔ (Has keys spans n k s ⊎ ((k ≡ key) × (bit m s ≡ 1)))
  pub some : r ≤ limit → (i : ℕ) → i < r → get_or spans' i 0 ≡ 0 → (i < n) × (get_or spans i 0 ≡ 0)
  pub over : limit < r → (n ≡ limit) × (m ≡ 0 → ⊥) × ((i : ℕ) → i < n → get_or keys i 0 ≡ key → ⊥)
  pub room : length spans' ≡ length spans

-- Keys with their spans that are added to the entries.
use Rattle.std.specs.Prelude.{◌≡◌, ◌⊎◌, ◌↔◌, List, ℕ, ◌≤◌, ◌<◌, length, get_or}
use Rattle.store.specs.Entries.{Has, Stored, Grown}
use Rattle.store.specs.Notes.{word, Leveled, SameWords}

-- keys with their spans
abbrev pub Spanned : Type 1
Spanned = ℕ → ℕ → Type 0

-- how an entry may come about: its key, a credential, and the words of the two entries that it cites
abbrev pub Origin : Type 1
Origin = ℕ → ℕ → ℕ → ℕ → Type 0

-- entries, none without spans, each noted
pub record Kept (keys spans slots links notes : List ℕ) (n : ℕ) : Type 0 where
  pub stored : Stored keys slots links n
  pub room : (length spans ≡ 1024) × (length notes ≡ 3072)
  pub some : (i : ℕ) → i < n → get_or spans i 0 ≡ 0 → ⊥
  pub leveled : (i : ℕ) → i < n → Leveled notes i

-- more distinct keys than the limit, all of one kind
pub record Over (limit : ℕ) (P : ℕ → Type 0) : Type 0 where
  pub keys : ℕ → ℕ
  pub distinct : (i j : ℕ) → i ≤ limit → j ≤ limit → keys i ≡ keys j → i ≡ j
  pub each : (i : ℕ) → i ≤ limit → P (keys i)

-- the notes of the first n entries stay, and those from n up to r say how By makes these entries
pub record Noted (notes : List ℕ) (n : ℕ) (By : Origin) (keys' notes' : List ℕ) (r : ℕ) : Type 0 where
  pub same : SameWords notes n notes'
  pub by : (i : ℕ) → n ≤ i → i < r → By (get_or keys' i 0) (word notes' i 0) (word notes' i 1) (word notes' i 2)

-- Exactly the keys and spans in New were added, new entries by By, and nothing was lost; or, for an answer above the limit, there are too many keys.
pub record Gains (limit : ℕ) (keys spans notes : List ℕ) (n : ℕ) (New : Spanned) (By : Origin) (keys' spans' slots' links' notes' : List ℕ) (r : ℕ) : Type 0 where
  pub kept : r ≤ limit → Kept keys' spans' slots' links' notes' r
  pub grown : r ≤ limit → Grown keys spans n keys' spans' r
  pub exact : r ≤ limit → (k s : ℕ) → Has keys' spans' r k s ↔ (Has keys spans n k s ⊎ New k s)
  pub noted : r ≤ limit → Noted notes n By keys' notes' r
  pub over : limit < r → Over limit (λ k. (s : ℕ) × (Has keys spans n k s ⊎ New k s))

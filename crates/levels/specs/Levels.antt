-- Entries that give one after the other, in list order, in one span.
use Rattle.std.specs.Prelude.{◌≡◌, ℕ, suc, ◌≤◌, ◌<◌, max, get_or}
use mathlib.Core.List.{List, Memᴰ as Mem}
use Rattle.meaning.specs.Credentials.{Body, set, role, link, ◌∩◌, ◌⊙◌, ◌⊗◌, Statement}
use Rattle.meaning.specs.Sequence.{Gives}
use Rattle.store.specs.Entries.{key_of}
use Rattle.store.specs.Notes.{word, level_of, SameWords}
use Rattle.rules.specs.Uses.{Listed, Formed}
use Rattle.closure.specs.Closure.{Held, Policy, TooMany, Closed}
use Rattle.premises.specs.Combining.{Keyed}
use Rattle.giving.specs.Giving.{FromEntry}

-- entries of level 1, none of which is done
pub record AtStart (keys spans slots links notes done codes valid lists : List ℕ) (n : ℕ) : Type 0 where
  pub held : Held keys spans slots links notes done n
  pub fresh : (i : ℕ) → get_or done i 0 ≡ 0
  pub one : (i : ℕ) → i < n → level_of notes i ≡ 1
  pub listed : Listed codes valid lists
  pub formed : Formed codes lists

-- the levels of the first n entries never fall
abbrev pub Rising : List ℕ → ℕ → Type 0
Rising notes n = (i j : ℕ) → i ≤ j → j < n → level_of notes i ≤ level_of notes j

-- The note of entry i: entry e, which is before it, gave it, with entries up to e.
pub record NotedBy (codes lists keys notes : List ℕ) (i : ℕ) : Type 0 where
  pub e : ℕ
  pub low : e < i
  pub done : List ℕ
  pub upto : (j : ℕ) → e < j → get_or done j 0 ≡ 0
  pub n : ℕ
  pub few : n ≤ i
  pub from : FromEntry codes lists keys done n e (get_or keys i 0) (word notes i 0) (word notes i 1) (word notes i 2)

-- the premises that a body takes: none, one, which counts for both here, or two
abbrev pub Premises : Body → ℕ → ℕ → Type 0
Premises (set X) i j = ⊥
Premises (role Bs) i j = i ≡ j
Premises (link Bs t) i j = Unit {0}
Premises (Bs ∩ Ct) i j = Unit {0}
Premises (Bs ⊙ Ct) i j = Unit {0}
Premises (Bs ⊗ Ct) i j = Unit {0}

-- no statement is valid outside span 0
abbrev pub OneSpan : (ℕ → List Statement) → Type 0
OneSpan ss = (s : ℕ) → (s ≡ 0 → ⊥) → (st : Statement) → Mem st (ss s) → ⊥

-- an entry has the key, at a level up to k
abbrev pub HasUpTo : List ℕ → List ℕ → ℕ → ℕ → ℕ → Type 0
HasUpTo keys notes n k key = (i : ℕ) × (i < n) × (get_or keys i 0 ≡ key) × (level_of notes i ≤ k)

-- what a statement gives from two of the first e entries is there, at most one level above them
abbrev pub Leveling : List Statement → List ℕ → List ℕ → ℕ → ℕ → Type 0
Leveling ss keys notes n e =
    (st : Statement) → Mem st ss → (i j X : ℕ) → i < e → j < e → Premises st.body i j → Gives (Keyed (get_or keys i 0)) (Keyed (get_or keys j 0)) st.body X → HasUpTo keys notes n (suc (max (level_of notes i) (level_of notes j))) (key_of st.head X)

-- All entries gave, in list order: those after the first n are noted; and what the statements of the one span give stands at most one level above its premises.
pub record FiredAll (limit : ℕ) (codes valid lists keys spans notes done : List ℕ) (n : ℕ) (keys' spans' slots' links' notes' done' : List ℕ) (r : ℕ) : Type 0 where
  pub held : r ≤ limit → Held keys' spans' slots' links' notes' done' r
  pub keys_same : r ≤ limit → (i : ℕ) → i < n → get_or keys' i 0 ≡ get_or keys i 0
  pub notes_same : r ≤ limit → SameWords notes n notes'
  pub rising : r ≤ limit → Rising notes' r
  pub more : r ≤ limit → n ≤ r
  pub noted : r ≤ limit → (i : ℕ) → n ≤ i → i < r → NotedBy codes lists keys' notes' i
  pub closed : r ≤ limit → (ss : ℕ → List Statement) → Policy ss codes valid lists → Closed ss keys spans done n → Closed ss keys' spans' done' r
  pub leveling : r ≤ limit → (ss : ℕ → List Statement) → OneSpan ss → Policy ss codes valid lists → Closed ss keys spans done n → Leveling (ss 0) keys' notes' r r
  pub over : limit < r → (ss : ℕ → List Statement) → Policy ss codes valid lists → Closed ss keys spans done n → TooMany ss limit

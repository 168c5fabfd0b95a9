-- The entries of a query: memberships at one minute, each with how it was derived.
use Rattle.std.specs.Prelude.{◌≡◌, Bool, true, false, List, ℕ, suc, ◌-◌, ◌<◌, max, T, ltb, length, get_or}
use Rattle.meaning.specs.Lists.{if}
use Rattle.meaning.specs.Credentials.{Body, Credential, covers, credential_at}
use Rattle.meaning.specs.Proofs.{Step, Shown, nothing, cites_first, cites_second, follows}
use Rattle.store.specs.Entries.{role_in, set_in}
use Rattle.store.specs.Notes.{word, level_of}

-- ---- proof steps by their position

-- a cited step is an earlier one; an uncited word is zero
abbrev pub Citable : Bool → ℕ → ℕ → Type 0
Citable true i j = j < i
Citable false i j = j ≡ 0

-- `step i` is the step at position i, `shown i` what it shows
module _ (cs : List Credential) (m : ℕ) (step : ℕ → Step) (shown : ℕ → Shown) where
  abbrev pub credential_of : ℕ → Credential
  credential_of i = credential_at cs (step i).credential

  abbrev pub body_of : ℕ → Body
  body_of i = (credential_of i).statement.body

  -- the first and the second step that step i cites
  abbrev pub first_by : ℕ → Shown
  first_by i = if (cites_first (body_of i)) (shown (step i).first) nothing

  abbrev pub second_by : ℕ → Shown
  second_by i = if (cites_second (body_of i)) (shown (step i).second) nothing

  -- step i keeps the rules for a proof step at the minute m
  pub record StepHolds (i : ℕ) : Type 0 where
    pub known : (step i).credential < length cs
    pub valid : T (covers (credential_of i).period m)
    pub first : Citable (cites_first (body_of i)) i (step i).first
    pub second : Citable (cites_second (body_of i)) i (step i).second
    pub follows : T (follows (body_of i) (first_by i) (second_by i) (step i).set)
    pub shows : shown i ≡ record { role = (credential_of i).statement.head; set = (step i).set; level = suc (max (first_by i).level (second_by i).level) }

-- ---- the entries of a query

-- entry i as a proof step, and what it shows; its words cite entries by one more than their numbers
abbrev pub step_of : List ℕ → List ℕ → ℕ → Step
step_of keys notes i = record { credential = word notes i 0; first = word notes i 1 - 1; second = word notes i 2 - 1; set = set_in (get_or keys i 0) }

abbrev pub shown_of : List ℕ → List ℕ → ℕ → Shown
shown_of keys notes i = record { role = role_in (get_or keys i 0); set = set_in (get_or keys i 0); level = level_of notes i }

-- entry i is derived from entries before it
pub record Derived (cs : List Credential) (m : ℕ) (keys notes : List ℕ) (i : ℕ) : Type 0 where
  pub holds : StepHolds cs m (step_of keys notes) (shown_of keys notes) i
  pub firsts : cites_first (credential_at cs (word notes i 0)).statement.body ≡ ltb 0 (word notes i 1)
  pub seconds : cites_second (credential_at cs (word notes i 0)).statement.body ≡ ltb 0 (word notes i 2)

-- n entries, no membership twice, each derived from entries before it
pub record Derivation (cs : List Credential) (m : ℕ) (keys notes : List ℕ) (n : ℕ) : Type 0 where
  pub derived : (i : ℕ) → i < n → Derived cs m keys notes i
  pub distinct : (i j : ℕ) → i < n → j < n → get_or keys i 0 ≡ get_or keys j 0 → i ≡ j

-- What keeping the proof of one entry asks and leaves.
use Rattle.std.specs.Prelude.{List, ℕ, suc, ◌≤◌, ◌<◌, get_or}
use Rattle.meaning.specs.Credentials.{Credential}
use Rattle.store.specs.Entries.{role_in, set_in}
use Rattle.store.specs.Notes.{word, level_of}
use Rattle.derivation.specs.HandedOut.{HandedOut}
use Rattle.derivation.specs.Derivation.{Derivation}
use Rattle.answering.specs.Steps.{steps_in}

-- each of n entries cites entries before it
abbrev pub Citing : List ℕ → ℕ → Type 0
Citing notes n = (i : ℕ) → i < n → (word notes i 1 ≤ i) × (word notes i 2 ≤ i)

-- The first r places are the steps on which entry x rests, in the form that querying hands out.
pub record Keeps (keys notes : List ℕ) (x : ℕ) (keys' notes' : List ℕ) (r : ℕ) : Type 0 where
  pub few : r ≤ suc x
  pub handed : (cs : List Credential) (m : ℕ) → Derivation cs m keys notes (suc x) → HandedOut cs m (role_in (get_or keys x 0)) (set_in (get_or keys x 0)) (level_of notes x) (steps_in keys' notes' r)

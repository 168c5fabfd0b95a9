-- What loading and the search at one minute leave.
use Rattle.std.specs.Prelude.{◌≡◌, List, ℕ, ◌≤◌, ◌<◌, length, get_or}
use Rattle.meaning.specs.Credentials.{Credential, valid_at}
use Rattle.meaning.specs.Sequence.{S}
use Rattle.meaning.specs.Members.{members}
use Rattle.policy.specs.Policy.{credentials_of, Decoded}
use Rattle.store.specs.Entries.{key_of, Stored}
use Rattle.store.specs.Notes.{level_of, Leveled}
use Rattle.heads.specs.Gaining.{Gains}
use Rattle.facts.specs.Facts.{StatedBy, FactBy}
use Rattle.loading.specs.Loading.{UsesLoaded}
use Rattle.levels.specs.Levels.{Rising}
use Rattle.derivation.specs.Derivation.{Derivation}

-- The credentials cs were loaded at the minute m, from some decoded policy and a list of ends that begins with m: their sets as `count` entries, their other bodies as uses.
-- A count above the limit: there are too many sets.
pub record Loaded (cs : List Credential) (m limit : ℕ) (keys spans slots links notes codes valid lists : List ℕ) (count : ℕ) : Type 0 where
  pub policy : List ℕ
  pub n : ℕ
  pub ends : List ℕ
  pub decoded : Decoded policy n
  pub means : credentials_of policy n ≡ cs
  pub minute : get_or ends 0 0 ≡ m
  pub uses : UsesLoaded policy n ends 1 codes valid lists
  pub keys₀ : List ℕ
  pub spans₀ : List ℕ
  pub notes₀ : List ℕ
  pub gains : Gains limit keys₀ spans₀ notes₀ 0 (StatedBy policy n ends 1) (FactBy policy n ends 1) keys spans slots links notes count
  pub few : limit ≤ 1024

-- All memberships at the minute, each once, derived from entries before it at its least level; or, for an answer above the limit, there are more of them than the limit.
pub record Searched (cs : List Credential) (m limit : ℕ) (keys slots notes : List ℕ) (r : ℕ) : Type 0 where
  pub stored : r ≤ limit → (links : List ℕ) × Stored keys slots links r
  pub room : r ≤ limit → length notes ≡ 3072
  pub leveled : r ≤ limit → (i : ℕ) → i < r → Leveled notes i
  pub rising : r ≤ limit → Rising notes r
  pub derivation : r ≤ limit → Derivation cs m keys notes r
  pub complete : r ≤ limit → (k Ar X : ℕ) → S (valid_at cs m) k Ar X → (i : ℕ) × (i < r) × (get_or keys i 0 ≡ key_of Ar X) × (level_of notes i ≤ k)
  pub over : limit < r → limit < length (members cs m)

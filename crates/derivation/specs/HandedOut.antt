-- The proof that querying hands out (document 01, 'Querying and checking a proof').
use Rattle.std.specs.Prelude.{◌≡◌, List, [], ◌++◌, map, ℕ, ◌-◌, ◌<◌, length, get_or, replicate}
use Rattle.meaning.specs.Credentials.{Credential}
use Rattle.meaning.specs.Members.{Membership, member}
use Rattle.meaning.specs.Proofs.{Step, nothing, shown_by, Proof, RestsOn}

-- the membership that step i shows
abbrev pub membership_at : List Credential → List Step → ℕ → Membership
membership_at cs ss i = member (get_or (shown_by cs [] ss) i nothing).role (get_or (shown_by cs [] ss) i nothing).set

-- Its last step is the queried membership; it has no membership twice and no step that the last one doesn't rest on.
pub record HandedOut (cs : List Credential) (m Ar X k : ℕ) (ss : List Step) : Type 0 where
  pub proof : Proof cs m Ar X k ss
  pub once : (i j : ℕ) → i < length ss → j < length ss → membership_at cs ss i ≡ membership_at cs ss j → i ≡ j
  pub needed : (j : ℕ) → j < length ss → RestsOn cs ss (length ss - 1) j

-- a word of each step, then zeros up to n places
abbrev pub words : (Step → ℕ) → ℕ → List Step → List ℕ
words field n ss = map field ss ++ replicate (n - length ss) 0

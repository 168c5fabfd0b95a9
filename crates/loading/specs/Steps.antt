-- What the private functions require and do.
use Rattle.std.specs.Prelude.{◌≡◌, ◌⊎◌, ◌↔◌, Bool, List, ℕ, ◌+◌, ◌*◌, ◌≤◌, ◌<◌, eqb, get_or}
use Rattle.meaning.specs.Lists.{if}
use Rattle.meaning.specs.Credentials.{Body, Credential}
use Rattle.meaning.specs.Table.{bit}
use Rattle.policy.specs.declared.Statement.{Statement}
use Rattle.policy.specs.Policy.{credential_of}
use Rattle.rules.specs.declared.Use.{Use}
use Rattle.rules.specs.Uses.{use_of, UsedAs, Uses, Listed, Fitting, Formed, HeadOf, bodies_in, heads_in, source_in, source_of}
use Rattle.masks.specs.Masks.{During}
use Rattle.facts.specs.Facts.{Before}
use Rattle.loading.specs.Loading.{UsedIn, Sourced}

-- a statement within the format's numbers
pub record InFormat (s : Statement) : Type 0 where
  pub kind : s.kind ≤ 5
  pub head : s.head < 1024
  pub first : (s.kind ≡ 0 → ⊥) → s.first < 1024
  pub second : s.second < 1024
  pub name : s.kind ≡ 2 → s.second < 32

-- the use by the first premise, and by the second
abbrev pub first_use : Statement → Use
first_use s = use_of s.first s.kind (if (eqb s.kind 1) 0 s.second) s.head

abbrev pub second_use : Statement → Use
second_use s = use_of (if (eqb s.kind 2) (1024 + s.second) s.second) s.kind s.first s.head

-- room for n more uses
pub record Room (n : ℕ) (codes valid lists : List ℕ) : Type 0 where
  pub listed : Listed codes valid lists
  pub formed : Formed codes lists
  pub few : (bodies_in lists + n ≤ 512) × (heads_in lists + n ≤ 512)

-- a use in span s, with the word of its source
abbrev pub Sources : Type 1
Sources = Use → ℕ → ℕ → Type 0

-- the uses in New were added in their spans, at most n, each new head with its source; what was listed stays in its place
pub record UsesAdded (n : ℕ) (New : Sources) (codes valid lists codes' valid' lists' : List ℕ) : Type 0 where
  pub listed : Listed codes' valid' lists'
  pub formed : Formed codes' lists'
  pub few : (bodies_in lists' ≤ bodies_in lists + n) × (heads_in lists' ≤ heads_in lists + n)
  pub more : (bodies_in lists ≤ bodies_in lists') × (heads_in lists ≤ heads_in lists')
  pub bodies : (i : ℕ) → i < bodies_in lists → get_or codes' i 0 ≡ get_or codes i 0
  pub heads : (i : ℕ) → i < heads_in lists → (get_or codes' (512 + i) 0 ≡ get_or codes (512 + i) 0) × (source_in lists' i ≡ source_in lists i)
  pub new : (i : ℕ) → heads_in lists ≤ i → i < heads_in lists' → (u : Use) × HeadOf codes' u i × ((s : ℕ) × New u s (source_in lists' i))
  pub exact : (w : Use) (s : ℕ) → Fitting w → Uses codes' valid' lists' w s ↔ (Uses codes valid lists w s ⊎ ((o : ℕ) × New w s o))

-- the uses of a body in the spans v, for the credential at position i
abbrev pub BodyUses : Body → ℕ → ℕ → ℕ → Sources
BodyUses e Ar v i w s o = (bit v s ≡ 1) × ((second : Bool) × UsedAs second e Ar w × (o ≡ source_of second i))

-- the uses of a credential, at position i, in the spans that its period covers
abbrev pub UseOf : List ℕ → ℕ → ℕ → Credential → Sources
UseOf es count i c w s o = During es count c.period s × ((second : Bool) × UsedAs second c.statement.body c.statement.head w × (o ≡ source_of second i))

-- the uses of the first i credentials of a policy are listed
pub record Part (p es : List ℕ) (count i : ℕ) (codes valid lists : List ℕ) : Type 0 where
  pub listed : Listed codes valid lists
  pub formed : Formed codes lists
  pub small : (bodies_in lists ≤ 2 * i) × (heads_in lists ≤ 2 * i)
  pub exact : (w : Use) (s : ℕ) → Fitting w → Uses codes valid lists w s ↔ Before i (λ j. UsedIn es count (credential_of p j) w s)
  pub sourced : (j : ℕ) → j < heads_in lists → Sourced p i es count codes lists j

-- The sets that credentials state, and how their entries are noted.
use Rattle.std.specs.Prelude.{◌≡◌, List, ℕ, ◌<◌}
use Rattle.meaning.specs.Credentials.{Body, set, role, link, ◌∩◌, ◌⊙◌, ◌⊗◌, Credential}
use Rattle.policy.specs.Policy.{credential_of}
use Rattle.store.specs.Entries.{key_of}
use Rattle.heads.specs.Gaining.{Spanned, Origin}
use Rattle.masks.specs.Masks.{During}

-- for one of the positions below n
abbrev pub Before : ℕ → (ℕ → Type 0) → Type 0
Before n P = (j : ℕ) × (j < n) × P j

-- the key of the set that a body states for the head Ar
abbrev pub States : Body → ℕ → ℕ → Type 0
States (set X) Ar k = k ≡ key_of Ar X
States (role Bs) Ar k = ⊥
States (link Bs t) Ar k = ⊥
States (Bs ∩ Ct) Ar k = ⊥
States (Bs ⊙ Ct) Ar k = ⊥
States (Bs ⊗ Ct) Ar k = ⊥

-- what a credential states, in the spans that its period covers
abbrev pub StatedIn : List ℕ → ℕ → Credential → Spanned
StatedIn es count c k s = States c.statement.body c.statement.head k × During es count c.period s

-- the note of an entry that the credential at position i makes
abbrev pub FactAt : List ℕ → ℕ → Credential → ℕ → Origin
FactAt es count c i k at first second = (first ≡ 0) × (second ≡ 0) × (at ≡ i) × ((s : ℕ) × StatedIn es count c k s)

-- the sets that the first n credentials of a policy state, and how their entries are noted: by a credential that states the set in some span
abbrev pub StatedBy : List ℕ → ℕ → List ℕ → ℕ → Spanned
StatedBy p n es count k s = Before n (λ j. StatedIn es count (credential_of p j) k s)

abbrev pub FactBy : List ℕ → ℕ → List ℕ → ℕ → Origin
FactBy p n es count k at first second = (first ≡ 0) × (second ≡ 0) × (at < n) × ((s : ℕ) × StatedIn es count (credential_of p at) k s)

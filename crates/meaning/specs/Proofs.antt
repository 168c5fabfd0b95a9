-- Proofs (document 01, 'Querying and checking a proof'): finite lists of steps of four words, which are whole numbers without a width.
use Rattle.std.specs.Prelude.{◌≡◌, Bool, true, false, ◌&&◌, List, [], ◌∷◌, ◌++◌, ℕ, suc, max, ◌<◌, T, eqb, ltb, length, get_or}
use Rattle.std.specs.Int.Bits.{bit_and, bit_or}
use Rattle.meaning.specs.Credentials.{◌·◌, Body, set, role, link, ◌∩◌, ◌⊙◌, ◌⊗◌, covers, Credential, credential_at}
use Rattle.meaning.specs.Members.{entity, single}

pub record Step : Type 0 where
  pub credential : ℕ
  pub first : ℕ
  pub second : ℕ
  pub set : ℕ

-- the membership that a step shows, with the step's level
pub record Shown : Type 0 where
  pub role : ℕ
  pub set : ℕ
  pub level : ℕ

-- what an uncited word stands for; no step shows it, since a level is at least 1
abbrev pub nothing : Shown
nothing = record { role = 0; set = 0; level = 0 }

-- whether a body cites a first and a second step
abbrev pub cites_first : Body → Bool
cites_first (set X) = false
cites_first (role Bs) = true
cites_first (link Bs t) = true
cites_first (Bs ∩ Ct) = true
cites_first (Bs ⊙ Ct) = true
cites_first (Bs ⊗ Ct) = true

abbrev pub cites_second : Body → Bool
cites_second (set X) = false
cites_second (role Bs) = false
cites_second (link Bs t) = true
cites_second (Bs ∩ Ct) = true
cites_second (Bs ⊙ Ct) = true
cites_second (Bs ⊗ Ct) = true

-- The resulting set is what the kind's row gives from the cited sets.
abbrev pub follows : Body → Shown → Shown → ℕ → Bool
follows (set Y) p q X = eqb X Y
follows (role Bs) p q X = eqb p.role Bs && eqb X p.set
follows (link Bs t) p q X = eqb p.role Bs && single p.set && eqb q.role (entity p.set · t) && eqb X q.set
follows (Bs ∩ Ct) p q X = eqb p.role Bs && eqb q.role Ct && eqb p.set q.set && eqb X p.set
follows (Bs ⊙ Ct) p q X = eqb p.role Bs && eqb q.role Ct && eqb X (bit_or p.set q.set)
follows (Bs ⊗ Ct) p q X = eqb p.role Bs && eqb q.role Ct && eqb (bit_and p.set q.set) 0 && eqb X (bit_or p.set q.set)

-- A cited step is an earlier one; an uncited word is zero.
abbrev pub citable : Bool → List Shown → ℕ → Bool
citable true before i = ltb i (length before)
citable false before i = eqb i 0

abbrev pub cited : Bool → List Shown → ℕ → Shown
cited true before i = get_or before i nothing
cited false before i = nothing

-- the first and the second step that a step cites, of those before it
abbrev pub first_of : Body → List Shown → Step → Shown
first_of e before s = cited (cites_first e) before s.first

abbrev pub second_of : Body → List Shown → Step → Shown
second_of e before s = cited (cites_second e) before s.second

-- Its role is the credential's head; its level is 1 more than the highest cited, 1 where none is.
abbrev pub showing : Credential → List Shown → Step → Shown
showing c before s =
    let e = c.statement.body in
    record { role = c.statement.head; set = s.set; level = suc (max (first_of e before s).level (second_of e before s).level) }

-- the step keeps the rules at the minute, by its credential and the steps before it
abbrev pub keeps : ℕ → Credential → List Shown → Step → Bool
keeps m c before s =
    let e = c.statement.body in
    covers c.period m && citable (cites_first e) before s.first && citable (cites_second e) before s.second
    && follows e (first_of e before s) (second_of e before s) s.set

module _ (cs : List Credential) where
  -- what is shown after further steps
  abbrev pub shown_by : List Shown → List Step → List Shown
  shown_by before [] = before
  shown_by before (s ∷ ss) = shown_by (before ++ showing (credential_at cs s.credential) before s ∷ []) ss

  -- further steps that each keep the rules
  abbrev pub all_keep : ℕ → List Shown → List Step → Bool
  all_keep m before [] = true
  all_keep m before (s ∷ ss) =
      let c = credential_at cs s.credential in
      ltb s.credential (length cs) && keeps m c before s && all_keep m (before ++ showing c before s ∷ []) ss

-- A proof of A.r ← X at the minute, with its level: each step keeps the rules, and the last shows the membership.
pub record Proof (cs : List Credential) (m Ar X k : ℕ) (ss : List Step) : Type 0 where
  pub keeping : T (all_keep cs m [] ss)
  pub last : (before : List Shown) × (shown_by cs [] ss ≡ before ++ record { role = Ar; set = X; level = k } ∷ [])

-- some proof of the membership exists at the minute
abbrev pub Provable : List Credential → ℕ → ℕ → ℕ → Type 0
Provable cs m Ar X = (k : ℕ) × (ss : List Step) × Proof cs m Ar X k ss

abbrev pub step_at : List Step → ℕ → Step
step_at ss i = get_or ss i (record { credential = 0; first = 0; second = 0; set = 0 })

abbrev pub body_at : List Credential → List Step → ℕ → Body
body_at cs ss i = (credential_at cs (step_at ss i).credential).statement.body

-- `RestsOn cs ss i j`: step i rests on step j, which is itself, a step that it cites, or one that these rest on
pub data RestsOn (cs : List Credential) (ss : List Step) : ℕ → ℕ → Type 0 where
  itself : {i j : ℕ} → i < length ss → i ≡ j → RestsOn cs ss i j
  by_first : {i j : ℕ} → i < length ss → T (cites_first (body_at cs ss i)) → RestsOn cs ss (step_at ss i).first j → RestsOn cs ss i j
  by_second : {i j : ℕ} → i < length ss → T (cites_second (body_at cs ss i)) → RestsOn cs ss (step_at ss i).second j → RestsOn cs ss i j

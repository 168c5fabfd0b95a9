-- Credentials of RT^T_+ (document 003, section 2.1 and 3; document 01, 'Entities, roles, minutes').
-- Entities and role names are numbers; a set of entities is the number in which bit e stands for entity e.
use Rattle.std.specs.Prelude.{Bool, ◌&&◌, ℕ, ◌+◌, ◌*◌, ◌^◌, ◌<◌, leb, ltb, get_or}
use mathlib.Core.List.{List, [], ◌∷◌, Memᴰ as Mem}
use Rattle.meaning.specs.Lists.{only, each}

infix 90 ◌·◌
infix 85 ◌∩◌
infix 85 ◌⊙◌
infix 85 ◌⊗◌
infix 80 ◌⟵◌
infix 75 ◌during◌
-- The role A.r as one number. Names are below 32 in every file that is read (refusal 5), so the number determines both.
abbrev pub ◌·◌ : ℕ → ℕ → ℕ
A · r = A * 32 + r

-- What stands right of the arrow: a set of entities, a role B.s, a linked role B.s.t, or two roles joined.
pub data Body : Type 0 where
  set : ℕ → Body
  role : ℕ → Body
  link : ℕ → ℕ → Body
  ◌∩◌ ◌⊙◌ ◌⊗◌ : ℕ → ℕ → Body

-- a credential without its period
pub record Statement : Type 0 where
  pub head : ℕ
  pub body : Body

abbrev pub ◌⟵◌ : ℕ → Body → Statement
Ar ⟵ e = record { head = Ar; body = e }

-- The minutes from `from` on, up to and not including `until`. A period may be empty. A file has `from` and `to`, which both count (document 02, One):
-- reading makes `until` the minute after `to`.
pub record Period : Type 0 where
  pub from : ℕ
  pub until : ℕ

abbrev pub covers : Period → ℕ → Bool
covers v m = leb v.from m && ltb m v.until

-- 'c in v' of document 003
pub record Credential : Type 0 where
  pub statement : Statement
  pub period : Period

abbrev pub ◌during◌ : Statement → Period → Credential
s during v = record { statement = s; period = v }

-- the statements whose period covers the minute
abbrev pub valid_at : List Credential → ℕ → List Statement
valid_at cs m = each (λ c. only (covers c.period m) (c.statement ∷ [])) cs

-- stands past the last credential; it covers no minute
abbrev pub no_credential : Credential
no_credential = 0 ⟵ set 0 during record { from = 0; until = 0 }

abbrev pub credential_at : List Credential → ℕ → Credential
credential_at cs i = get_or cs i no_credential

-- Roles below 1,024 and sets below 2 ^ 32: what the file's format allows.
abbrev pub SetFits : Body → Type 0
SetFits (set X) = X < 2 ^ 32
SetFits (role Bs) = Unit {0}
SetFits (link Bs t) = Unit {0}
SetFits (Bs ∩ Ct) = Unit {0}
SetFits (Bs ⊙ Ct) = Unit {0}
SetFits (Bs ⊗ Ct) = Unit {0}

abbrev pub Fits : List Statement → Type 0
Fits ss = (s : Statement) → Mem s ss → (s.head < 1024) × SetFits s.body

abbrev pub FitsAll : List Credential → Type 0
FitsAll cs = (c : Credential) → Mem c cs → (c.statement.head < 1024) × SetFits c.statement.body

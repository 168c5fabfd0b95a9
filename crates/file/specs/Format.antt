-- The credentials file (document 01, 'The credentials file'; document 02, One and Two): its numbers, its statements and periods, and the credentials that they are.
-- Multi-byte numbers are lowest byte first.
use Rattle.std.specs.Prelude.{List, [], ◌∷◌, map, ℕ, ◌+◌, ◌*◌, ◌^◌, get_or}
use Rattle.std.proofs.Math.Option.{Option, none, some}
use Rattle.meaning.specs.Lists.{below}
use Rattle.meaning.specs.Credentials.{◌·◌, Body, set, role, link, ◌∩◌, ◌⊙◌, ◌⊗◌, ◌⟵◌, Period, Credential, ◌during◌, no_credential}
use Rattle.meaning.specs.Members.{entity}
use Rattle.file.specs.declared.Role.{Role}
use Rattle.file.specs.declared.Body as D
use Rattle.file.specs.declared.Body.TheVariants.{Set, Inclusion, Linked, Intersection, Union, Disjoint}

abbrev pub byte : List ℕ → ℕ → ℕ
byte f i = get_or f i 0

abbrev pub two : List ℕ → ℕ → ℕ
two f i = byte f i + 256 * byte f (i + 1)

abbrev pub four : List ℕ → ℕ → ℕ
four f i = two f i + 65536 * two f (i + 2)

-- the sizes: how many entities, role names and credentials
abbrev pub E : List ℕ → ℕ
E f = two f 0

abbrev pub R : List ℕ → ℕ
R f = two f 2

abbrev pub N : List ℕ → ℕ
N f = two f 4

-- N statements of 12 bytes follow the sizes, then N periods of 8 bytes
abbrev pub length_for : ℕ → ℕ
length_for n = 6 + 20 * n

abbrev pub statement_at : ℕ → ℕ
statement_at i = 6 + 12 * i

abbrev pub period_at : List ℕ → ℕ → ℕ
period_at f i = 6 + 12 * N f + 8 * i

-- byte j of statement i: 0 kind, 1 issuer A, 2 name r, 3 b, 4 s, 5 c, 6 t, 7 always zero
abbrev pub field : List ℕ → ℕ → ℕ → ℕ
field f i j = byte f (statement_at i + j)

-- the serial of credential i: the last four bytes of its statement
abbrev pub serial_of : List ℕ → ℕ → ℕ
serial_of f i = four f (statement_at i + 8)

-- the first and the last minute of the period of credential i
abbrev pub from_of : List ℕ → ℕ → ℕ
from_of f i = four f (period_at f i)

abbrev pub to_of : List ℕ → ℕ → ℕ
to_of f i = four f (period_at f i + 4)

-- a role as the file has it, and its number
abbrev pub role_of : ℕ → ℕ → Role
role_of A r = record { issuer = record { 0 = A }; name = record { 0 = r } }

abbrev pub role_number : Role → ℕ
role_number r = r.issuer.0 · r.name.0

-- the body of two roles, by kind: 3 to 5 and no other
abbrev pub joined_of : ℕ → Role → Role → Option D.Body
joined_of kind Bs Ct = get_or (none ∷ none ∷ none ∷ some (Intersection Bs Ct) ∷ some (Union Bs Ct) ∷ some (Disjoint Bs Ct) ∷ []) kind none

-- the body by kind, of b, s, c, t; there is none for a kind above 5
abbrev pub body_of : ℕ → ℕ → ℕ → ℕ → ℕ → Option D.Body
body_of kind b s c t =
    get_or (some (Set (2 ^ b)) ∷ some (Inclusion (role_of b s)) ∷ some (Linked (role_of b s) (record { 0 = t }))
    ∷ some (Intersection (role_of b s) (role_of c t)) ∷ some (Union (role_of b s) (role_of c t)) ∷ some (Disjoint (role_of b s) (role_of c t)) ∷ []) kind none

-- document 01's kind and the bytes b, s, c, t of each case of the enum; unused bytes are zero
abbrev pub stated_by : D.Body → List ℕ
stated_by (Set X) = 0 ∷ entity X ∷ 0 ∷ 0 ∷ 0 ∷ []
stated_by (Inclusion Bs) = 1 ∷ Bs.issuer.0 ∷ Bs.name.0 ∷ 0 ∷ 0 ∷ []
stated_by (Linked Bs t) = 2 ∷ Bs.issuer.0 ∷ Bs.name.0 ∷ 0 ∷ t.0 ∷ []
stated_by (Intersection Bs Ct) = 3 ∷ Bs.issuer.0 ∷ Bs.name.0 ∷ Ct.issuer.0 ∷ Ct.name.0 ∷ []
stated_by (Union Bs Ct) = 4 ∷ Bs.issuer.0 ∷ Bs.name.0 ∷ Ct.issuer.0 ∷ Ct.name.0 ∷ []
stated_by (Disjoint Bs Ct) = 5 ∷ Bs.issuer.0 ∷ Bs.name.0 ∷ Ct.issuer.0 ∷ Ct.name.0 ∷ []

-- what each case of the enum means: a set, B.s, B.s.t, B.s ∩ C.t, B.s ⊙ C.t, B.s ⊗ C.t
abbrev pub meaning_of : D.Body → Body
meaning_of (Set X) = set X
meaning_of (Inclusion Bs) = role (role_number Bs)
meaning_of (Linked Bs t) = link (role_number Bs) t.0
meaning_of (Intersection Bs Ct) = role_number Bs ∩ role_number Ct
meaning_of (Union Bs Ct) = role_number Bs ⊙ role_number Ct
meaning_of (Disjoint Bs Ct) = role_number Bs ⊗ role_number Ct

-- `to` itself is covered (document 02, One), so the period ends before the minute after it
abbrev pub period_of : List ℕ → ℕ → Period
period_of f i = record { from = from_of f i; until = to_of f i + 1 }

-- a statement without a body has no minutes; refusal 4 keeps it out of every file that is read
abbrev pub with_body : ℕ → Period → Option D.Body → Credential
with_body Ar v none = no_credential
with_body Ar v (some e) = Ar ⟵ meaning_of e during v

abbrev pub body_in : List ℕ → ℕ → Option D.Body
body_in f i = body_of (field f i 0) (field f i 3) (field f i 4) (field f i 5) (field f i 6)

-- the credential at position i
abbrev pub credential_in : List ℕ → ℕ → Credential
credential_in f i = with_body (role_number (role_of (field f i 1) (field f i 2))) (period_of f i) (body_in f i)

-- the credentials of a file, which all calls read
unfoldable pub credentials : List ℕ → List Credential
credentials f = map (credential_in f) (below (N f))

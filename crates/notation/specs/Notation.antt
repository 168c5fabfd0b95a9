-- Document 01's notation as bytes of UTF-8: roles, bodies, and credentials as lines.
use Rattle.std.specs.Prelude.{List, [], ◌∷◌, ◌++◌, ℕ, ◌-◌}
use Rattle.std.specs.Int.Count.{count_trailing_zeros}
use Rattle.text.specs.Lines.{decimal, field, label}
use Rattle.file.specs.declared.Role.{Role}
use Rattle.file.specs.declared.RoleName.{RoleName}
use Rattle.file.specs.declared.Period.{Period}
use Rattle.file.specs.declared.Credential.{Credential}
use Rattle.file.specs.declared.Body.{Body}
use Rattle.file.specs.declared.Body.TheVariants.{Set, Inclusion, Linked, Intersection, Union, Disjoint}

-- `←`, `∩`, `⊙` and `⊗`, each with a space on both sides
abbrev pub arrow : List ℕ
arrow = 32 ∷ 226 ∷ 134 ∷ 144 ∷ 32 ∷ []

abbrev pub meets : List ℕ
meets = 32 ∷ 226 ∷ 136 ∷ 169 ∷ 32 ∷ []

abbrev pub joins : List ℕ
joins = 32 ∷ 226 ∷ 138 ∷ 153 ∷ 32 ∷ []

abbrev pub joins_apart : List ℕ
joins_apart = 32 ∷ 226 ∷ 138 ∷ 151 ∷ 32 ∷ []

-- A.r
abbrev pub role_text : Role → List ℕ
role_text Ar = field Ar.issuer.0 46 ++ decimal Ar.name.0

-- b.s.t
abbrev pub linked_text : Role → RoleName → List ℕ
linked_text Bs t = role_text Bs ++ (46 ∷ decimal t.0)

-- the six forms; a set of one is written as its entity, the number of zeros below its bit
abbrev pub body_text : Body → List ℕ
body_text (Set X) = decimal (count_trailing_zeros 32 X)
body_text (Inclusion Bs) = role_text Bs
body_text (Linked Bs t) = linked_text Bs t
body_text (Intersection Bs Ct) = role_text Bs ++ (meets ++ role_text Ct)
body_text (Union Bs Ct) = role_text Bs ++ (joins ++ role_text Ct)
body_text (Disjoint Bs Ct) = role_text Bs ++ (joins_apart ++ role_text Ct)

-- A.r ← body
abbrev pub statement_text : Role → Body → List ℕ
statement_text Ar e = role_text Ar ++ (arrow ++ body_text e)

-- from..to, as the file has them, and a newline
abbrev pub period_text : Period → List ℕ
period_text v = field v.from 46 ++ (46 ∷ field (v.until - 1) 10)

-- #serial, a comma and a space
abbrev pub serial_text : ℕ → List ℕ
serial_text serial = 35 ∷ (field serial 44 ++ 32 ∷ [])

-- position, #serial, head, body, period
abbrev pub credential_line : ℕ → Credential → List ℕ
credential_line i c = label i ++ (serial_text c.serial ++ (statement_text c.head c.body ++ (44 ∷ 32 ∷ period_text c.period)))

-- Proof steps as lines.
use Rattle.std.specs.Prelude.{List, [], ◌∷◌, ◌++◌, ℕ, take}
use Rattle.text.specs.Lines.{decimal, field, label, line}
use Rattle.file.specs.declared.Role.{Role}
use Rattle.file.specs.declared.Credential.{Credential}
use Rattle.file.specs.declared.Body.{Body}
use Rattle.file.specs.declared.Body.TheVariants.{Set, Inclusion, Linked, Intersection, Union, Disjoint}
use Rattle.proof_lines.specs.declared.Step.{Step}

-- issuer, name, set, each with a space after it
abbrev pub membership_text : Role → ℕ → List ℕ
membership_text Ar X = field Ar.issuer.0 32 ++ (field Ar.name.0 32 ++ field X 32)

-- how many steps a step of a body cites
abbrev pub cited_by : Body → ℕ
cited_by (Set X) = 0
cited_by (Inclusion Bs) = 1
cited_by (Linked Bs t) = 2
cited_by (Intersection Bs Ct) = 2
cited_by (Union Bs Ct) = 2
cited_by (Disjoint Bs Ct) = 2

-- ` from ` and numbers of steps, if there are any, and a newline
abbrev pub from_text : List ℕ → List ℕ
from_text [] = line []
from_text (x ∷ xs) = 32 ∷ 102 ∷ 114 ∷ 111 ∷ 109 ∷ 32 ∷ line (x ∷ xs)

-- `by credential `
abbrev pub by : List ℕ
by = 98 ∷ 121 ∷ 32 ∷ 99 ∷ 114 ∷ 101 ∷ 100 ∷ 101 ∷ 110 ∷ 116 ∷ 105 ∷ 97 ∷ 108 ∷ 32 ∷ []

-- number, what the step shows, by which credential, from which steps; c is the credential that the step names
abbrev pub step_line : ℕ → Step → Credential → List ℕ
step_line i s c =
    label i ++ (membership_text c.head s.set ++ (by ++ (decimal s.credential ++ from_text (take (cited_by c.body) (s.first ∷ s.second ∷ [])))))

-- The uses of statements: for each role, the bodies in which an entry of that role can be a premise, and the heads of each body.
-- A use has a family: the role of the premise, or 1,024 + t for the second premise of a link by the name t.
use Rattle.std.specs.Prelude.{◌≡◌, ◌⊎◌, ◌↔◌, Bool, true, false, List, ℕ, ◌+◌, ◌*◌, ◌/◌, ◌%◌, ◌≤◌, ◌<◌, length, get_or}
use Rattle.meaning.specs.Table.{bit}
use Rattle.meaning.specs.Credentials.{Body, set, role, link, ◌∩◌, ◌⊙◌, ◌⊗◌}
use Rattle.store.specs.Entries.{Chained}
pub use Rattle.rules.specs.declared.Use.{Use}

abbrev pub use_of : ℕ → ℕ → ℕ → ℕ → Use
use_of family kind other head = record { family = family; kind = kind; other = other; head = head }

-- the use of a statement by its first premise, or by its second; an inclusion has only the first, a set none
abbrev pub UsedAs : Bool → Body → ℕ → Use → Type 0
UsedAs second (set X) Ar u = ⊥
UsedAs false (role Bs) Ar u = u ≡ use_of Bs 1 0 Ar
UsedAs true (role Bs) Ar u = ⊥
UsedAs false (link Bs t) Ar u = u ≡ use_of Bs 2 t Ar
UsedAs true (link Bs t) Ar u = u ≡ use_of (1024 + t) 2 Bs Ar
UsedAs false (Bs ∩ Ct) Ar u = u ≡ use_of Bs 3 Ct Ar
UsedAs true (Bs ∩ Ct) Ar u = u ≡ use_of Ct 3 Bs Ar
UsedAs false (Bs ⊙ Ct) Ar u = u ≡ use_of Bs 4 Ct Ar
UsedAs true (Bs ⊙ Ct) Ar u = u ≡ use_of Ct 4 Bs Ar
UsedAs false (Bs ⊗ Ct) Ar u = u ≡ use_of Bs 5 Ct Ar
UsedAs true (Bs ⊗ Ct) Ar u = u ≡ use_of Ct 5 Bs Ar

-- the uses of a statement
abbrev pub UsedBy : Body → ℕ → Use → Type 0
UsedBy e Ar u = (second : Bool) × UsedAs second e Ar u

-- a source as a word: the position of a credential that has a use, and which premise it is
abbrev pub source_of : Bool → ℕ → ℕ
source_of false at = at
source_of true at = at + 256

-- a use within the format's numbers, as the codes need it
pub record Fitting (u : Use) : Type 0 where
  pub family : u.family < 1056
  pub kind : u.kind < 8
  pub other : u.other < 1024
  pub head : u.head < 1024

-- a use as the format allows it: kinds 1 to 5, and the families of links by a name for kind 2 alone
pub record Proper (u : Use) : Type 0 where
  pub fitting : Fitting u
  pub kind : (1 ≤ u.kind) × (u.kind ≤ 5)
  pub named : 1024 ≤ u.family → u.kind ≡ 2
  pub name : u.kind ≡ 2 → u.family < 1024 → u.other < 32

-- one number for a family, a kind and an other, and one for a body's place and a head
abbrev pub body_code : ℕ → ℕ → ℕ → ℕ
body_code family kind other = family * 8192 + kind * 1024 + other

abbrev pub head_code : ℕ → ℕ → ℕ
head_code b head = b * 1024 + head

abbrev pub family_in : ℕ → ℕ
family_in code = code / 8192

abbrev pub kind_in : ℕ → ℕ
kind_in code = code / 1024 % 8

abbrev pub other_in : ℕ → ℕ
other_in code = code % 1024

abbrev pub body_in : ℕ → ℕ
body_in code = code / 1024

-- The bodies are in places 0 to 511 of `codes`, the heads in places 512 to 1,023; `valid` has the spans of each head.
-- `lists` has the bodies by family (prev from 0, last from 512 on), the heads by body (prev from 1,568, last from 2,080 on), the sources of the heads
-- (from 2,592 on), and how many bodies and heads there are (3,104 and 3,105).
abbrev pub family_of : List ℕ → ℕ → ℕ
family_of codes i = family_in (get_or codes i 0)

abbrev pub kind_of : List ℕ → ℕ → ℕ
kind_of codes i = kind_in (get_or codes i 0)

abbrev pub other_of : List ℕ → ℕ → ℕ
other_of codes i = other_in (get_or codes i 0)

abbrev pub body_of_head : List ℕ → ℕ → ℕ
body_of_head codes i = body_in (get_or codes (512 + i) 0)

abbrev pub head_of : List ℕ → ℕ → ℕ
head_of codes i = get_or codes (512 + i) 0 % 1024

abbrev pub source_in : List ℕ → ℕ → ℕ
source_in lists i = get_or lists (2592 + i) 0

abbrev pub bodies_in : List ℕ → ℕ
bodies_in lists = get_or lists 3104 0

abbrev pub heads_in : List ℕ → ℕ
heads_in lists = get_or lists 3105 0

pub record Listed (codes valid lists : List ℕ) : Type 0 where
  pub room : (length codes ≡ 1024) × (length valid ≡ 512) × (length lists ≡ 3106)
  pub few : (bodies_in lists ≤ 512) × (heads_in lists ≤ 512)
  pub families : (i : ℕ) → i < bodies_in lists → family_of codes i < 1056
  pub bodies : (i : ℕ) → i < heads_in lists → body_of_head codes i < bodies_in lists
  pub by_family : Chained (family_of codes) 1056 (bodies_in lists) (λ r. get_or lists (512 + r) 0) (λ i. get_or lists i 0)
  pub by_body : Chained (body_of_head codes) 512 (heads_in lists) (λ r. get_or lists (2080 + r) 0) (λ i. get_or lists (1568 + i) 0)

-- the use is listed, and is valid in span s
pub record Uses (codes valid lists : List ℕ) (u : Use) (s : ℕ) : Type 0 where
  pub body : ℕ
  pub head : ℕ
  pub low : (body < bodies_in lists) × (head < heads_in lists)
  pub body_coded : get_or codes body 0 ≡ body_code u.family u.kind u.other
  pub head_coded : get_or codes (512 + head) 0 ≡ head_code body u.head
  pub spans : bit (get_or valid head 0) s ≡ 1

-- head i is that of the use: its code has the use's head, and names a body with the use's code
pub record HeadOf (codes : List ℕ) (u : Use) (i : ℕ) : Type 0 where
  pub body_coded : get_or codes (body_of_head codes i) 0 ≡ body_code u.family u.kind u.other
  pub head_coded : get_or codes (512 + i) 0 ≡ head_code (body_of_head codes i) u.head

-- what every body in the lists has: kinds 1 to 5, the families of links by a name for kind 2 alone
pub record Formed (codes lists : List ℕ) : Type 0 where
  pub kinds : (i : ℕ) → i < bodies_in lists → (1 ≤ kind_of codes i) × (kind_of codes i ≤ 5)
  pub named : (i : ℕ) → i < bodies_in lists → 1024 ≤ family_of codes i → kind_of codes i ≡ 2
  pub names : (i : ℕ) → i < bodies_in lists → kind_of codes i ≡ 2 → family_of codes i < 1024 → other_of codes i < 32

-- spans were added to a use, or it was added with these and its source
pub record UseAdded (u : Use) (v source : ℕ) (codes valid lists codes' valid' lists' : List ℕ) : Type 0 where
  pub listed : Listed codes' valid' lists'
  pub one : (bodies_in lists' ≤ bodies_in lists + 1) × (heads_in lists' ≤ heads_in lists + 1)
  pub more : (bodies_in lists ≤ bodies_in lists') × (heads_in lists ≤ heads_in lists')
  pub bodies : (i : ℕ) → i < bodies_in lists → get_or codes' i 0 ≡ get_or codes i 0
  pub heads : (i : ℕ) → i < heads_in lists → get_or codes' (512 + i) 0 ≡ get_or codes (512 + i) 0
  pub sources : (i : ℕ) → i < heads_in lists → source_in lists' i ≡ source_in lists i
  pub new : (i : ℕ) → heads_in lists ≤ i → i < heads_in lists' → HeadOf codes' u i × (source_in lists' i ≡ source)
  pub coded : (i : ℕ) → i < bodies_in lists' → (get_or codes' i 0 ≡ body_code u.family u.kind u.other) ⊎ ((i < bodies_in lists) × (get_or codes' i 0 ≡ get_or codes i 0))
  pub exact : (w : Use) (s : ℕ) → Fitting w → Uses codes' valid' lists' w s ↔ (Uses codes valid lists w s ⊎ ((w ≡ u) × (bit v s ≡ 1)))

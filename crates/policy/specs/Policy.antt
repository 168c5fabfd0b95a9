-- A decoded policy: for credential i, entry 2 × i has its statement and entry 2 × i + 1 its period.
use Rattle.std.specs.Prelude.{◌≡◌, List, [], ◌∷◌, map, ◌++◌, ℕ, ◌+◌, ◌*◌, ◌/◌, ◌%◌, ◌<◌, ◌≤◌, get_or}
use Rattle.meaning.specs.Lists.{below}
use Rattle.meaning.specs.Credentials.{Body, set, role, link, ◌∩◌, ◌⊙◌, ◌⊗◌, ◌⟵◌, Period, Credential, ◌during◌}
use Rattle.file.specs.declared.Period as D
use Rattle.file.specs.Format.{E, R, N, credentials}
use Rattle.file.specs.Reading.{head_rows, credentials_rows}
use Rattle.file.specs.Values.{first_refusal}
use Rattle.policy.specs.declared.Statement.{Statement}
use Rattle.policy.specs.declared.Sizes.{Sizes}

-- A statement is kind × 2 ^ 42 + head × 2 ^ 32 + body; the body of kind 0 is a set, every other first × 1,024 + second.
abbrev pub stated_kind : ℕ → ℕ
stated_kind w = w / 4398046511104

abbrev pub stated_head : ℕ → ℕ
stated_head w = w / 4294967296 % 1024

abbrev pub stated_set : ℕ → ℕ
stated_set w = w % 4294967296

abbrev pub stated_first : ℕ → ℕ
stated_first w = stated_set w / 1024

abbrev pub stated_second : ℕ → ℕ
stated_second w = stated_set w % 1024

-- what the kind makes of a set, and of two roles or of a role and a name; refusal 4 keeps kinds above 5 out of every policy
abbrev pub body_by : ℕ → ℕ → ℕ → ℕ → Body
body_by kind X Bs Ct = get_or (set X ∷ role Bs ∷ link Bs Ct ∷ (Bs ∩ Ct) ∷ (Bs ⊙ Ct) ∷ []) kind (Bs ⊗ Ct)

abbrev pub stated_body : ℕ → Body
stated_body w = body_by (stated_kind w) (stated_set w) (stated_first w) (stated_second w)

-- a period is from × 2 ^ 32 + until, and may be empty
abbrev pub stated_period : ℕ → Period
stated_period v = record { from = v / 4294967296; until = v % 4294967296 }

-- the credential at position i, and the first n credentials
abbrev pub credential_of : List ℕ → ℕ → Credential
credential_of p i = stated_head (get_or p (2 * i) 0) ⟵ stated_body (get_or p (2 * i) 0) during stated_period (get_or p (2 * i + 1) 0)

unfoldable pub credentials_of : List ℕ → ℕ → List Credential
credentials_of p n = map (credential_of p) (below n)

-- a statement within the format's numbers
pub record WordFits (w : ℕ) : Type 0 where
  pub kind : stated_kind w ≤ 5
  pub first : (stated_kind w ≡ 0 → ⊥) → stated_first w < 1024
  pub name : stated_kind w ≡ 2 → stated_second w < 32

-- n credentials, their statements within the format's numbers
pub record Decoded (p : List ℕ) (n : ℕ) : Type 0 where
  pub few : n ≤ 256
  pub fits : (i : ℕ) → i < n → WordFits (get_or p (2 * i) 0)

-- the n credentials are those of a file
pub record PolicyOf (f p : List ℕ) (n : ℕ) : Type 0 where
  pub count : n ≡ N f
  pub decoded : Decoded p n
  pub means : credentials_of p n ≡ credentials f

-- A file that passes 1 to 7 and 17 was decoded, and these are its sizes; otherwise the refusal.
pub record Decodes (f p : List ℕ) (s : Sizes) : Type 0 where
  pub refusal : record { number = s.number; place = s.place } ≡ first_refusal (head_rows f ++ credentials_rows f)
  pub entities : s.number ≡ 0 → s.entities ≡ E f
  pub names : s.number ≡ 0 → s.names ≡ R f
  pub policy : s.number ≡ 0 → PolicyOf f p s.credentials

-- p with the period v at position i
pub record PeriodPut (p p' : List ℕ) (i : ℕ) (v : D.Period) : Type 0 where
  pub here : credential_of p' i ≡ (credential_of p i).statement during record { from = v.from; until = v.until }
  pub others : (j : ℕ) → ¬ (j ≡ i) → credential_of p' j ≡ credential_of p j
  pub words : (j : ℕ) → get_or p' (2 * j) 0 ≡ get_or p (2 * j) 0

-- what the readers of one entry answer
abbrev pub statement_in : List ℕ → ℕ → Statement
statement_in p i =
    let w : ℕ = get_or p (2 * i) 0 in
    record { kind = stated_kind w; head = stated_head w; set = stated_set w; first = stated_first w; second = stated_second w }

abbrev pub period_in : List ℕ → ℕ → D.Period
period_in p i = record { from = get_or p (2 * i + 1) 0 / 4294967296; until = get_or p (2 * i + 1) 0 % 4294967296 }

-- the body of a statement that was read
abbrev pub body_of : Statement → Body
body_of s = body_by s.kind s.set s.first s.second

-- Refusals 1 to 8 and 17 of any bytes (document 01, 'Where each refusal is checked', stages head, credential, whole file; 7 and 17 as document 02's requests One and Two have them).
use Rattle.std.specs.Prelude.{Bool, ◌&&◌, ◌||◌, not, List, [], ◌∷◌, ◌++◌, ℕ, eqb, leb, ltb, length, get_or}
use Rattle.meaning.specs.Lists.{each, all, any, below}
use Rattle.meaning.specs.Table.{ends}
use Rattle.file.specs.Refusals.{RefusalRow, Outcome, first, ◌when◌, ◌at◌when◌}
use Rattle.file.specs.Format.{E, R, N, length_for, field, serial_of, from_of, to_of, credentials}

abbrev pub between : ℕ → ℕ → ℕ → Bool
between low high x = leb low x && leb x high

-- 1 to 3
abbrev pub head_rows : List ℕ → List RefusalRow
head_rows f =
    1 when (ltb (length f) 6)
    ∷ 2 when (not (between 1 32 (E f) && between 1 32 (R f) && between 0 256 (N f)))
    ∷ 3 when (not (eqb (length f) (length_for (N f))))
    ∷ []

-- which bytes of a statement are entities, which are names, and which must be zero: the unused ones and byte 7
pub record Uses : Type 0 where
  pub entities : List ℕ
  pub names : List ℕ
  pub unused : List ℕ

abbrev pub two_roles : Uses
two_roles = record { entities = 1 ∷ 3 ∷ 5 ∷ []; names = 2 ∷ 4 ∷ 6 ∷ []; unused = 7 ∷ [] }

-- by kind; a kind above 5 uses nothing
abbrev pub uses : ℕ → Uses
uses kind = get_or (
    record { entities = 1 ∷ 3 ∷ []; names = 2 ∷ []; unused = 4 ∷ 5 ∷ 6 ∷ 7 ∷ [] }
    ∷ record { entities = 1 ∷ 3 ∷ []; names = 2 ∷ 4 ∷ []; unused = 5 ∷ 6 ∷ 7 ∷ [] }
    ∷ record { entities = 1 ∷ 3 ∷ []; names = 2 ∷ 4 ∷ 6 ∷ []; unused = 5 ∷ 7 ∷ [] }
    ∷ two_roles ∷ two_roles ∷ two_roles ∷ []) kind (record { entities = []; names = []; unused = [] })

abbrev pub in_range : List ℕ → ℕ → Bool
in_range f i =
    all (λ j. ltb (field f i j) (E f)) (uses (field f i 0)).entities && all (λ j. ltb (field f i j) (R f)) (uses (field f i 0)).names

abbrev pub zeros : List ℕ → ℕ → Bool
zeros f i = all (λ j. eqb (field f i j) 0) (uses (field f i 0)).unused

-- from is above to, or to is the largest number, which is no minute
abbrev pub undated : List ℕ → ℕ → Bool
undated f i = ltb (to_of f i) (from_of f i) || eqb (to_of f i) 4294967295

-- the serial of credential i is zero, or an earlier credential has it
abbrev pub taken : List ℕ → ℕ → Bool
taken f i = eqb (serial_of f i) 0 || any (λ j. eqb (serial_of f j) (serial_of f i)) (below i)

-- 4 to 7 of the credential at position i, by its own bytes alone
abbrev pub credential_rows : List ℕ → ℕ → List RefusalRow
credential_rows f i =
    4 at i when (ltb 5 (field f i 0))
    ∷ 5 at i when (not (in_range f i))
    ∷ 6 at i when (not (zeros f i))
    ∷ 7 at i when (undated f i)
    ∷ []

-- 17 of the credential at position i
abbrev pub serial_row : List ℕ → ℕ → RefusalRow
serial_row f i = 17 at i when (taken f i)

-- 4 to 7 and 17 of the credential at position i
abbrev pub check_rows : List ℕ → ℕ → List RefusalRow
check_rows f i = credential_rows f i ++ serial_row f i ∷ []

-- credentials in file order, each through 4 to 7 and 17
abbrev pub credentials_rows : List ℕ → List RefusalRow
credentials_rows f = each (check_rows f) (below (N f))

-- 8
abbrev pub ends_row : List ℕ → RefusalRow
ends_row f = 8 when (ltb 64 (length (ends (credentials f))))

-- 1 to 7 and 17, then 8
unfoldable pub reading : List ℕ → List RefusalRow
reading f = head_rows f ++ (credentials_rows f ++ ends_row f ∷ [])

-- what reading a file answers, where its value on success is a
abbrev pub read : {A : Type 0} → List ℕ → A → Outcome A
read f a = first (reading f) a

-- the numbers of these refusals
abbrev pub of_file : ℕ → Bool
of_file n = between 1 8 n || eqb n 17

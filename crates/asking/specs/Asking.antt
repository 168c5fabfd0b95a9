-- What querying and checking take (document 01): a role, a set and a minute, with four lists of proof steps; refusals 1 to 9, 11, 12, 17, 20 and 21.
use Rattle.std.specs.Prelude.{◌≡◌, Bool, true, ◌&&◌, not, List, [], ◌∷◌, ◌++◌, map, ℕ, ◌/◌, ◌%◌, ◌^◌, eqb, ltb, length, get_or}
use Rattle.meaning.specs.Lists.{below}
use Rattle.meaning.specs.Proofs.{Step}
use Rattle.file.specs.Refusals.{RefusalRow, ◌when◌}
use Rattle.file.specs.Reading.{between}
use Rattle.withdrawals.specs.Source.{Source, E, R, reading}
use Rattle.withdrawals.specs.Conditions.{Accepted}

pub record Request : Type 0 where
  pub role : ℕ
  pub set : ℕ
  pub minute : ℕ

abbrev pub request : ℕ → ℕ → ℕ → Request
request role set minute = record { role = role; set = set; minute = minute }

-- proof steps in four lists: credential, first and second cited step, resulting set
pub record StepLists : Type 0 where
  pub credential : List ℕ
  pub first : List ℕ
  pub second : List ℕ
  pub sets : List ℕ

abbrev pub step_lists : List ℕ → List ℕ → List ℕ → List ℕ → StepLists
step_lists credential first second sets = record { credential = credential; first = first; second = second; sets = sets }

-- the step at entry i, and the first n steps
abbrev pub step_in : StepLists → ℕ → Step
step_in t i = record { credential = get_or t.credential i 0; first = get_or t.first i 0; second = get_or t.second i 0; set = get_or t.sets i 0 }

abbrev pub steps_in : StepLists → ℕ → List Step
steps_in t n = map (step_in t) (below n)

-- the length L of the lists
abbrev pub size : StepLists → ℕ
size t = length t.credential

-- the lengths of four lists, all that querying and the refusals of a request read of them
pub record Sized (t : StepLists) (c f s r : ℕ) : Type 0 where
  pub credential : length t.credential ≡ c
  pub first : length t.first ≡ f
  pub second : length t.second ≡ s
  pub sets : length t.sets ≡ r

-- of one length, 1 to 1,024
abbrev pub one_length : StepLists → Bool
one_length t = eqb (length t.first) (size t) && eqb (length t.second) (size t) && eqb (length t.sets) (size t) && between 1 1024 (size t)

-- A role and a set are within a file's numbers when the issuer and every entity of the set are below E and the name is below R.
abbrev pub within : Source → ℕ → ℕ → Bool
within f Ar X = ltb (Ar / 32) (E f) && ltb (Ar % 32) (R f) && ltb X (2 ^ E f)

-- 9, 11 and 12
abbrev pub request_rows : Source → Request → StepLists → List RefusalRow
request_rows f q t =
    9 when (not (one_length t))
    ∷ 11 when (not (within f q.role q.set && not (eqb q.set 0)))
    ∷ 12 when (eqb q.minute 4294967295)
    ∷ []

-- 1 to 9, 11, 12, 17, 20 and 21
unfoldable pub asking : Source → Request → StepLists → List RefusalRow
asking f q t = reading f ++ request_rows f q t

-- none of these refusals is given
pub record Askable (f : Source) (q : Request) (t : StepLists) : Type 0 where
  pub accepted : Accepted f
  pub lists : one_length t ≡ true
  pub within : within f q.role q.set ≡ true
  pub some : q.set ≡ 0 → ⊥
  pub minute : q.minute ≡ 4294967295 → ⊥

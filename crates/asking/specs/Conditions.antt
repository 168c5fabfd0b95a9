-- The documents' conditions for refusals 9, 11 and 12 of a request, in propositions: when each is given.
use Rattle.std.specs.Prelude.{◌≡◌, Bool, ◌||◌, ℕ, ◌/◌, ◌%◌, ◌<◌, ◌≤◌, eqb, length}
use Rattle.meaning.specs.Table.{bit}
use Rattle.withdrawals.specs.Source.{Source, E, R, of_source}
use Rattle.withdrawals.specs.Conditions.{Accepted, Refused}
use Rattle.asking.specs.Asking.{Request, StepLists, size}

-- the four lists are of one length, from 1 to 1,024
pub record OneLength (t : StepLists) : Type 0 where
  pub first : length t.first ≡ size t
  pub second : length t.second ≡ size t
  pub sets : length t.sets ≡ size t
  pub limits : (1 ≤ size t) × (size t ≤ 1024)

-- the role's issuer is below E and its name below R; the set is not empty, and each of its entities is below E
pub record Numbers (f : Source) (q : Request) : Type 0 where
  pub issuer : q.role / 32 < E f
  pub name : q.role % 32 < R f
  pub some : ¬ (q.set ≡ 0)
  pub entities : (e : ℕ) → bit q.set e ≡ 1 → e < E f

-- `RefusedRequest f q t n p`: the condition of refusal n holds at place p, and none above it does
pub data RefusedRequest (f : Source) (q : Request) (t : StepLists) : ℕ → ℕ → Type 0 where
  file : {n p : ℕ} → Refused f n p → RefusedRequest f q t n p
  lengths : Accepted f → ¬ OneLength t → RefusedRequest f q t 9 0
  numbers : Accepted f → OneLength t → ¬ Numbers f q → RefusedRequest f q t 11 0
  minute : Accepted f → OneLength t → Numbers f q → q.minute ≡ 4294967295 → RefusedRequest f q t 12 0

-- the numbers of these refusals: those of a file with its withdrawals, 9, 11 and 12
abbrev pub of_request : ℕ → Bool
of_request n = of_source n || eqb n 9 || eqb n 11 || eqb n 12

-- The documents' conditions for the refusals of querying, in propositions: when each is given.
use Rattle.std.specs.Prelude.{ℕ, ◌<◌, ◌≤◌, length}
use Rattle.meaning.specs.Members.{members}
use Rattle.meaning.specs.Proofs.{Provable}
use Rattle.withdrawals.specs.Source.{Source, credentials}
use Rattle.asking.specs.Asking.{Request, StepLists, size, Askable}
use Rattle.asking.specs.Conditions.{RefusedRequest}

-- how many memberships there are at the minute
abbrev pub members_for : Source → Request → ℕ
members_for f q = length (members (credentials f) q.minute)

-- `RefusedQuery f q t n p`: the condition of refusal n holds at place p, and none above it does; a request that is askable is refused none of 1 to 9, 11, 12, 17, 20 and 21
pub data RefusedQuery (f : Source) (q : Request) (t : StepLists) : ℕ → ℕ → Type 0 where
  request : {n p : ℕ} → RefusedRequest f q t n p → RefusedQuery f q t n p
  full : Askable f q t → size t < members_for f q → RefusedQuery f q t 10 0
  none : Askable f q t → members_for f q ≤ size t → ¬ Provable (credentials f) q.minute q.role q.set → RefusedQuery f q t 13 0

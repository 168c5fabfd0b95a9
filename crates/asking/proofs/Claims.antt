-- What judging a request is shown to mean. The laws behind each claim are in `Requests`.
use mathlib.Core.Path.{◌≡◌}
use mathlib.Core.Logic.{◌↔◌}
use mathlib.Core.Bool.{not}
use mathlib.Core.List.{List, ◌++◌}
use Prim.Native.Nat.{ℕ}
use lib.Dec.{T, eqb}
use Rattle.meaning.specs.Lists.{all}
use Rattle.file.specs.Refusals.{RefusalRow, Outcome, done, refused, first}
use Rattle.withdrawals.specs.Source.{Source}
use Rattle.withdrawals.specs.Conditions.{Accepted}
use Rattle.asking.specs.Asking.{Request, StepLists, asking, Askable}
use Rattle.asking.specs.Conditions.{OneLength, Numbers, RefusedRequest}
use Rattle.asking.proofs.Requests as Requests

module _ (f : Source) (q : Request) (t : StepLists) where
  -- A refusal of 1 to 9, 11, 12, 17, 20 and 21 is given exactly when its condition holds and none above it does, with its place. This is said of every call
  -- that takes a request: `more` are the call's further rows, which have other numbers.
  pub refusals-exact : {A : Type 0} (a : A) (more : List RefusalRow) (n p : ℕ) → T (all (λ (r : RefusalRow). not (eqb r.number n)) more)
      → ◌≡◌ {A = Outcome A} (first (asking f q t ++ more) a) (refused n p) ↔ RefusedRequest f q t n p
  refusals-exact = Requests.call-exact f q t

  -- None is given exactly when the request is askable.
  pub askable-exact : {A : Type 0} (a : A) → ◌≡◌ {A = Outcome A} (first (asking f q t) a) (done a) ↔ Askable f q t
  askable-exact = Requests.askable-exact f q t

  -- The condition of 9: the file and its withdrawals are accepted, and the four lists are not of one length from 1 to 1,024.
  pub nine-exact : RefusedRequest f q t 9 0 ↔ (Accepted f × ¬ OneLength t)
  nine-exact = Requests.nine f q t

  -- The condition of 11: none of 1 to 9, 17, 20 and 21, and issuer, name or an entity of the set is out of range, or the set is empty.
  pub eleven-exact : RefusedRequest f q t 11 0 ↔ (Accepted f × OneLength t × ¬ Numbers f q)
  eleven-exact = Requests.eleven f q t

  -- The condition of 12: none of 1 to 9, 11, 17, 20 and 21, and the minute is 4,294,967,295.
  pub twelve-exact : RefusedRequest f q t 12 0 ↔ (Accepted f × OneLength t × Numbers f q × (q.minute ≡ 4294967295))
  twelve-exact = Requests.twelve f q t

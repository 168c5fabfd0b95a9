-- What judging a request answers, and what it leaves.
use Rattle.std.specs.Prelude.{◌≡◌, List, ℕ}
use Rattle.file.specs.Values.{first_refusal}
use Rattle.withdrawals.specs.Source.{Source}
use Rattle.cutting.specs.Policy.{PolicyOf}
use Rattle.asking.specs.declared.Admission.{Admission}
use Rattle.asking.specs.Asking.{Request, StepLists, asking}

-- the first refusal of a request; where there is none, p is the policy of the file with its withdrawals
pub record Admits (f : Source) (q : Request) (t : StepLists) (p : List ℕ) (r : Admission) : Type 0 where
  pub refusal : record { number = r.number; place = r.place } ≡ first_refusal (asking f q t)
  pub policy : r.number ≡ 0 → PolicyOf f p r.credentials

-- What judging a request and loading leave, of a store as one value.
use Rattle.std.specs.Prelude.{◌≡◌}
use Rattle.file.specs.Values.{first_refusal}
use Rattle.withdrawals.specs.Source.{Source, credentials}
use Rattle.asking.specs.Asking.{Request, StepLists, size, asking}
use Rattle.store.specs.declared.Store.{Store}
use Rattle.rules.specs.declared.UseLists.{UseLists}
use Rattle.searching.specs.Stores.{LoadedIn}
use Rattle.finding.specs.declared.Prepared.{Prepared}

-- the first refusal of the request; where there is none, what is valid at the minute was loaded
pub record PreparesIn (f : Source) (q : Request) (t : StepLists) (s : Store) (u : UseLists) (r : Prepared) : Type 0 where
  pub refusal : record { number = r.number; place = r.place } ≡ first_refusal (asking f q t)
  pub loaded : r.number ≡ 0 → LoadedIn (credentials f) q.minute (size t) s u r.loaded

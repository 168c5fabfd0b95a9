-- What could not be loaded is not searched: there are too many sets. Else all entries give.
use mathlib.Core.List.{List}
use Prim.Native.Nat.{ℕ, ◌≤◌}
use native.Mathlib.Omega.{arith}
use Rattle.std.proofs.Common.{Result, Ok, Err}
use Rattle.std.specs.Result.{OnOk}
use Rattle.std.proofs.lemmas.Result.{err_from_is_err_and}
use Rattle.meaning.specs.Credentials.{Credential}
use Rattle.store.specs.declared.Store.{Store}
use Rattle.store.specs.declared.Full.{Full}
use Rattle.store.specs.Store.{Fits}
use Rattle.rules.specs.declared.UseLists.{UseLists}
use Rattle.searching.specs.Stores.{LoadedIn, SearchedIn}
use Rattle.searching.proofs.Loads.{over, started, searched}
use Rattle.searching.proofs.search.Goals as goal

not-searched : {cs : List Credential} {m limit : ℕ} {s : Store} {u : UseLists} {e e' : Full} → LoadedIn cs m limit s u (Err e) → SearchedIn cs m limit s (Err e')
not-searched w = record { searched = over w.loaded (omega arith); within = tt }

-- where there was room, there are no more than the limit
few : (limit n : ℕ) (r : Result Unit Full) → Fits limit n r → OnOk r (n ≤ limit)
few limit n (Ok u) f = f
few limit n (Err e) f = tt

pub returns-in_err-loaded-clause-searched : goal.returns-in_err-loaded-clause-searched
returns-in_err-loaded-clause-searched c = λ cs m w. let p = err_from_is_err_and c.from_residual.result c.from_residual.ensures.1 in rw p.1 (not-searched (rw c.in_err-loaded.was at w))

pub fire_all-requires-clause-start : goal.fire_all-requires-clause-start
fire_all-requires-clause-start c = let w = rw c.in_ok-loaded.was at c.requires.2 in started w.loaded w.within c.room_for_spans-done.ensures

pub returns-clause-searched : goal.returns-clause-searched
returns-clause-searched c = λ cs m l.
    let w = rw c.in_ok-loaded.was at l in
    record {
      searched = searched w.loaded w.within c.room_for_spans-done.ensures c.fire_all.ensures.fired;
      within = few c.args.limit c.fire_all.new.store.count c.fire_all.result c.fire_all.ensures.within;
    }

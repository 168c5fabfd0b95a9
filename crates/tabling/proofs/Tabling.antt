-- What loading, closing and writing come to: the columns of the table, or a table longer than the lists.
use mathlib.Core.Path.{◌≡◌, refl, sym, ap, ◌∙◌, subst, subst⁻¹}
use mathlib.Core.Logic.{◌↔◌}
use mathlib.Core.List.{List, Memᴰ as Mem}
use Prim.Native.Nat.{ℕ, ◌+◌, ◌≤◌, ◌<◌, zero-le}
use native.Mathlib.Omega.{arith}
use lib.ListN.{length, get_or, replicate}
use Rattle.std.proofs.Common.{Result, Ok, Err}
use Rattle.std.specs.Result.{IsErr, OnOk}
use Rattle.meaning.specs.Credentials.{Credential, FitsAll}
use Rattle.meaning.specs.Table.{Row, table}
use Rattle.policy.specs.Policy.{credentials_of}
use Rattle.store.specs.declared.Store.{Store}
use Rattle.store.specs.declared.Full.{Full}
use Rattle.store.specs.Store.{reached, blank}
use Rattle.store.proofs.Stores.{distinct-keys}
use Rattle.heads.specs.Gaining.{Kept, Gains}
use Rattle.heads.specs.Stores.{KeptIn}
use Rattle.closure.specs.Closure.{Held, Closed, Finished, TooMany}
use Rattle.giving.specs.Giving.{Closes}
use Rattle.masks.specs.Masks.{Spans}
use Rattle.facts.specs.Facts.{StatedBy, FactBy}
use Rattle.loading.specs.Loading.{UsesLoaded, by_span, Loaded}
use Rattle.loading.proofs.Wholes.{own-spans, loaded, loaded-own}
use Rattle.writing.specs.Columns.{column}
use Rattle.writing.specs.Rows.{row_at, rows_of, Written}
use Rattle.writing.proofs.Gathering.{rows-gathered}
use Rattle.tabling.specs.Tabling.{Worked, Loadable, Filled}
use Rattle.tabling.specs.Stores.{FilledIn, WorkedTo}
use Rattle.loading.proofs.Blank.{zero-at, zeros-length, no-entries}
use Rattle.tabling.proofs.Tables.{is-table, too_many}

-- a store without entries
pub blank-kept : {s : Store} → s ≡ blank → KeptIn s × (s.count ≡ 0)
blank-kept e = subst⁻¹ (λ (s : Store). KeptIn s × (s.count ≡ 0)) e (no-entries refl refl refl refl refl, refl)

-- nothing is done yet
pub held : {keys found slots links notes done : List ℕ} {n : ℕ} → Kept keys found slots links notes n → done ≡ replicate 1024 0 → Held keys found slots links notes done n
held k e = record { kept = k; room = zeros-length 1024 e; fresh = λ i _. zero-at 1024 e i }

module _ {p : List ℕ} {n : ℕ} {es : List ℕ} {count limit : ℕ} (l : Loadable p n es count limit) where
  -- the spans begin at the first of the ends
  pub spanned : Spans es count
  spanned = own-spans (credentials_of p n) l.held l.counted l.few

  -- the statements of the policy are loaded
  pub all-loaded : {codes valid lists keys found notes keys' found' slots' links' notes' : List ℕ} {m r : ℕ} → m ≡ 0 → UsesLoaded p n es count codes valid lists
      → Gains limit keys found notes m (StatedBy p n es count) (FactBy p n es count) keys' found' slots' links' notes' r
      → Loaded (by_span (credentials_of p n)) limit keys' found' slots' links' notes' codes valid lists r
  all-loaded {keys = keys} {found} {notes} {keys'} {found'} {slots'} {links'} {notes'} {r = r} e u g =
      loaded-own (credentials_of p n) l.held l.counted
      (loaded p n es count l.decoded u (subst (λ (m : ℕ). Gains limit keys found notes m (StatedBy p n es count) (FactBy p n es count) keys' found' slots' links' notes' r) e g))

module _ {cs : List Credential} {limit : ℕ} {keys found slots links notes codes valid lists : List ℕ} {n : ℕ} (d : Loaded (by_span cs) limit keys found slots links notes codes valid lists n) where
  -- more entries than the limit were loaded
  pub filled-over : limit < n → Filled cs limit keys found slots links n
  filled-over h = record {
    stored = λ l. absurd (omega arith);
    some = λ l. absurd (omega arith);
    finished = λ l. absurd (omega arith);
    room = λ l. absurd (omega arith);
    over = d.over;
  }

  -- what was loaded is closed
  pub filled : {done keys' found' slots' links' notes' done' : List ℕ} {r : ℕ} → n ≤ limit → done ≡ replicate 1024 0
      → Closes limit codes valid lists keys found done n keys' found' slots' links' notes' done' r → (r ≤ limit → Finished found' done' r) → Filled cs limit keys' found' slots' links' r
  filled {done} {done' = done'} h z c e = record {
    stored = λ l. (c.held l).kept.stored;
    some = λ l. (c.held l).kept.some;
    finished = λ l. (done', c.closed l (by_span cs) d.policy before, e l);
    room = λ l. (c.held l).kept.room.0;
    over = λ l. c.over l (by_span cs) d.policy before;
  }
    where
      before : Closed (by_span cs) keys found done n
      before = d.closed h done (zero-at 1024 z)

-- a call had no room
pub filled-full : {cs : List Credential} {limit : ℕ} {s : Store} {r : Result Unit Full} → IsErr r → s.count ≡ limit → Filled cs limit s.keys s.spans s.slots s.links (limit + 1) → FilledIn cs limit s r
filled-full {r = Err e} _ n f = record { filled = f; within = n }
filled-full {r = Ok u} x n f = absurd cc

pub worked-full : {cs : List Credential} {size : ℕ} {roles sets spans : List ℕ} {r : Result ℕ Full} → IsErr r → Worked cs size roles sets spans (size + 1) → WorkedTo cs size roles sets spans r
worked-full {r = Err e} _ w = record { worked = w; within = tt }
worked-full {r = Ok n} x w = absurd cc

-- all spans are done, where there was room
pub finished-in : (limit : ℕ) (s : Store) (done : List ℕ) (r : Result Unit Full) → OnOk r (Finished s.spans done s.count) → reached limit s.count r ≤ limit → Finished s.spans done (reached limit s.count r)
finished-in limit s done (Ok u) f l = f
finished-in limit s done (Err e) f l = absurd (omega arith)

module _ {cs : List Credential} (fits : FitsAll cs) (size : ℕ) where
  pub worked-over : {roles sets spans : List ℕ} {r : ℕ} → size < r → TooMany (by_span cs) size → Worked cs size roles sets spans r
  worked-over h t = record {
    count = λ l. absurd (omega arith);
    by_role = λ l. absurd (omega arith);
    by_set = λ l. absurd (omega arith);
    by_spans = λ l. absurd (omega arith);
    over = λ l. too_many cs fits size t;
  }

  pub worked : {keys found slots links roles sets spans : List ℕ} {r : ℕ} → r ≤ size → Filled cs size keys found slots links r → Written keys found r size roles sets spans → Worked cs size roles sets spans r
  worked {keys} {found} {slots} {links} {roles} {sets} {spans} {r} l f w = record {
    count = λ _. sym w.count ∙ ap length same;
    by_role = λ _. w.by_role ∙ ap (column (λ x. x.role) size) same;
    by_set = λ _. w.by_set ∙ ap (column (λ x. x.set) size) same;
    by_spans = λ _. w.by_spans ∙ ap (column (λ x. x.spans) size) same;
    over = λ k. absurd (omega arith);
  }
    where
      distinct : (i j : ℕ) → i < r → j < r → get_or keys i 0 ≡ get_or keys j 0 → i ≡ j
      distinct = distinct-keys (f.stored l)

      exact : (x : Row) → Mem x (rows_of keys found r) ↔ ((i : ℕ) × (i < r) × (x ≡ row_at keys found i))
      exact x =
          let g = rows-gathered keys found r distinct in (
            (λ m. let e = g.entry x m in (e.0, e.1, e.3)),
            λ e. subst (λ (y : Row). Mem y (rows_of keys found r)) (sym e.2) (g.listed e.0 e.1 zero-le),
          )

      same : rows_of keys found r ≡ table cs
      same =
          let e = f.finished l in
          is-table cs fits keys found slots links e.0 r (f.stored l) (f.some l) e.1 e.2 (rows_of keys found r)
          (rows-gathered keys found r distinct).ascending exact

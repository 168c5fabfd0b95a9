-- What the judging of a request, the search and the lookup come to: a refusal, or an entry.
use mathlib.Core.Path.{◌≡◌, refl, sym, ◌∙◌}
use mathlib.Core.Bool.{true, false}
use mathlib.Core.List.{List}
use Prim.Native.Nat.{ℕ, suc, ◌^◌, ◌≤◌, ◌<◌}
use native.Mathlib.Omega.{arith}
use Rattle.std.specs.Prelude.{Result, Ok, Err}
use Rattle.std.specs.Result.{is_err}
use lib.ListN.{get_or}
use Rattle.meaning.specs.Credentials.{Credential}
use Rattle.file.specs.declared.Refusal.{Refusal}
use Rattle.withdrawals.specs.Source.{Source, credentials}
use Rattle.asking.specs.Asking.{Request, StepLists, Sized, size, Askable}
use Rattle.asking.proofs.Asked.{askable, same-lengths, within-bits}
use Rattle.store.specs.Entries.{key_of, Stored, Leading, LookedUp}
use Rattle.store.specs.Notes.{level_of, Leveled}
use Rattle.store.specs.Store.{reached}
use Rattle.store.specs.declared.Store.{Store}
use Rattle.store.specs.declared.Full.{Full}
use Rattle.store.proofs.Searches.{leading}
use Rattle.rules.specs.declared.UseLists.{UseLists}
use Rattle.levels.specs.Levels.{Rising}
use Rattle.searching.specs.Searching.{Searched}
use Rattle.searching.specs.Stores.{LoadedIn, SearchedIn}
use Rattle.finding.specs.declared.Found.{Found}
use Rattle.finding.specs.declared.Prepared.{Prepared}
use Rattle.finding.specs.Finding.{Finds}
use Rattle.finding.specs.Stores.{PreparesIn}
use Rattle.finding.proofs.Searches as searches

-- a role of a request that is not refused is below 32 × 32
pub role-below : {f : Source} {q : Request} {t : StepLists} → Askable f q t → q.role < 1024
role-below {f} {q} {t} a = omega (arith, ((within-bits f q.role q.set).0 a.within).0, a.accepted.readable.head.limits.entities.1)

-- its lists have no more than 1,024 places
pub size_few : {f : Source} {q : Request} {t : StepLists} → Askable f q t → size t ≤ 1024
size_few {t = t} a = (same-lengths t a.lists).3

-- ---- a refusal of the request

pub request-refused : {f : Source} {q : Request} {t : StepLists} {s : Store} {u : UseLists} {p : Prepared} → PreparesIn f q t s u p → (p.number ≡ 0 → ⊥)
    → {g : Found} → g ≡ record { number = p.number; place = p.place; entry = 0; level = 0 } → Finds f q t s.keys s.notes g
request-refused {f} {q} {t} {p = p} d h o = searches.request-refused f q t (record { number = p.number; place = p.place }) d.refusal h o

-- ---- the search of a request that is not refused

-- without room for more there are more than the limit, and otherwise no more
over-limit : (limit n : ℕ) (r : Result Unit Full) → is_err r ≡ true → limit < reached limit n r
over-limit limit n (Ok u) e = let k : false ≡ true = e in absurd cc
over-limit limit n (Err x) e = omega arith

within-limit : {cs : List Credential} {m limit : ℕ} {s : Store} (r : Result Unit Full) → is_err r ≡ false → SearchedIn cs m limit s r → Searched cs m limit s.keys s.slots s.notes s.count × (s.count ≤ limit)
within-limit (Ok u) e h = (h.searched, h.within)
within-limit (Err x) e h = let k : true ≡ false = e in absurd cc

module _ {f : Source} {q : Request} {t : StepLists} {limit a b c : ℕ} (z : Sized t limit a b c) {s : Store} {u : UseLists} {p : Prepared} (d : PreparesIn f q t s u p) (n : p.number ≡ 0) where
  pub asked : Askable f q t
  asked = askable f q t (record { number = p.number; place = p.place }) d.refusal n

  pub loaded : LoadedIn (credentials f) q.minute limit s u p.loaded
  loaded = rw (← z.credential) (d.loaded n)

  -- the refusal of the request: none
  abbrev said : Refusal
  said = record { number = p.number; place = p.place }

  module _ {s' : Store} {r : Result Unit Full} (h : (cs : List Credential) (m : ℕ) → LoadedIn cs m limit s u p.loaded → SearchedIn cs m limit s' r) where
    found : SearchedIn (credentials f) q.minute (size t) s' r
    found = rw z.credential (h (credentials f) q.minute loaded)

    -- 10
    pub find-over : is_err r ≡ true → {g : Found} → g ≡ record { number = 10; place = 0; entry = 0; level = 0 } → Finds f q t s'.keys s'.notes g
    find-over e o = searches.find-over f q t said d.refusal n found.searched (over-limit (size t) s'.count r e) o

    module _ (e : is_err r ≡ false) where
      all : Searched (credentials f) q.minute (size t) s'.keys s'.slots s'.notes s'.count
      all = (within-limit r e found).0

      room : s'.count ≤ size t
      room = (within-limit r e found).1

      stored : (links : List ℕ) × Stored s'.keys s'.slots links s'.count
      stored = all.stored room

      pub leads : Leading s'.slots
      leads = leading s'.keys s'.slots s'.count stored.1.searchable stored.1.few

      module _ {key : ℕ} (k : key ≡ key_of q.role q.set) where
        -- 13
        pub find_none : q.set < 2 ^ 32 → LookedUp s'.keys s'.slots key 0 → {g : Found} → g ≡ record { number = 13; place = 0; entry = 0; level = 0 } → Finds f q t s'.keys s'.notes g
        find_none small l o =
            let absent : (i : ℕ) → i < s'.count → get_or s'.keys i 0 ≡ key_of q.role q.set → ⊥ = λ i h e. (l.entry s'.count stored.1.searchable).absent refl i h (e ∙ sym k) in
            searches.find_none f q t said d.refusal n all room small absent o

        -- an entry
        module _ {x : ℕ} (l : LookedUp s'.keys s'.slots key (suc x)) where
          at : (x < s'.count) × (get_or s'.keys x 0 ≡ key)
          at = (l.entry s'.count stored.1.searchable).present x refl

          pub found-leveled : (i : ℕ) → i ≤ x → Leveled s'.notes i
          found-leveled i h = all.leveled room i (omega (arith, at.0))

          pub found-rising : (n : ℕ) × (x < n) × Rising s'.notes n
          found-rising = (s'.count, at.0, all.rising room)

          pub find-entry : q.set < 2 ^ 32 → {level : ℕ} → level ≡ level_of s'.notes x → Finds f q t s'.keys s'.notes (record { number = 0; place = 0; entry = x; level = level })
          find-entry small o = searches.find-entry f q t said d.refusal n all room small x (at.0, at.1 ∙ k) o

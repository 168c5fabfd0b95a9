-- What a refusal of the request, a search and the entry that is looked up come to, for lists of entries.
use mathlib.Core.Path.{◌≡◌, refl, sym, ap, ◌∙◌, subst⁻¹}
use mathlib.Core.Bool.{Bool, false}
use mathlib.Core.List.{List, ◌++◌}
use Prim.Native.Nat.{ℕ, ◌^◌, ◌≤◌, ◌<◌}
use native.Mathlib.Omega.{arith}
use borrow.Author.Tests.{lt-ltb, le-ltb, ne_eqb}
use lib.Dec.{ltb}
use lib.ListN.{length, get_or}
use Rattle.meaning.specs.Lists.{if}
use Rattle.meaning.specs.Credentials.{Credential, FitsAll}
use Rattle.meaning.specs.Members.{member, members, least_level}
use Rattle.file.specs.declared.Refusal.{Refusal}
use Rattle.file.specs.Refusals.{RefusalRow, done, refused, first}
use Rattle.file.specs.Values.{first_refusal}
use Rattle.withdrawals.specs.Source.{Source, credentials}
use Rattle.withdrawals.proofs.Claims.{within-format}
use Rattle.asking.specs.Asking.{Request, StepLists, size, asking}
use Rattle.asking.proofs.Asked.{asked-refused, asked-passed, askable}
use Rattle.store.specs.Entries.{key_of}
use Rattle.store.specs.Notes.{level_of}
use Rattle.derivation.specs.Derivation.{Derivation}
use Rattle.searching.specs.Searching.{Searched}
use Rattle.finding.specs.declared.Found.{Found}
use Rattle.finding.specs.Finding.{search_rows, Finds}
use Rattle.finding.proofs.Entries.{members-few, entry_has, no-entry, entry-least}

-- the first of the entries are derived too
first-entries : {cs : List Credential} {m : ℕ} {keys notes : List ℕ} {n k : ℕ} → k ≤ n → Derivation cs m keys notes n → Derivation cs m keys notes k
first-entries l d = record { derived = λ i h. d.derived i (omega arith); distinct = λ i j h o. d.distinct i j (omega arith) (omega arith) }

module _ (f : Source) (q : Request) (t : StepLists) (r : Refusal) (e : r ≡ first_refusal (asking f q t)) where
  abbrev rows : List RefusalRow
  rows = search_rows (credentials f) q.minute q.role q.set (size t)

  abbrev least : ℕ
  least = least_level (credentials f) q.minute (member q.role q.set)

  -- a refusal of the request
  pub request-refused : (r.number ≡ 0 → ⊥) → {keys notes : List ℕ} {g : Found} → g ≡ record { number = r.number; place = r.place; entry = 0; level = 0 } → Finds f q t keys notes g
  request-refused h {keys} {notes} o =
      subst⁻¹ (Finds f q t keys notes) o
      record {
        reply = ap (λ (b : Bool). if b (done 0) (refused r.number r.place)) (ne_eqb r.number 0 h) ∙ sym (asked-refused f q t r e h rows least);
        shows = λ z. absurd (h z);
        asks = λ z. absurd (h z);
      }

  module _ (z : r.number ≡ 0) {keys slots notes : List ℕ} {n : ℕ} (s : Searched (credentials f) q.minute (size t) keys slots notes n) where
    fits : FitsAll (credentials f)
    fits = within-format f (askable f q t r e z).accepted

    passed : first rows least ≡ first (asking f q t ++ rows) least
    passed = sym (asked-passed f q t r e z rows least)

    -- 10
    pub find-over : size t < n → {g : Found} → g ≡ record { number = 10; place = 0; entry = 0; level = 0 } → Finds f q t keys notes g
    find-over h o = subst⁻¹ (Finds f q t keys notes) o record { reply = rw (lt-ltb (size t) (length (members (credentials f) q.minute)) (s.over h)) refl ∙ passed; shows = λ z. absurd (omega arith); asks = λ z. absurd (omega arith) }

    module _ (l : n ≤ size t) (small : q.set < 2 ^ 32) where
      few : ltb (size t) (length (members (credentials f) q.minute)) ≡ false
      few = le-ltb (size t) (length (members (credentials f) q.minute)) (omega (arith, members-few (credentials f) fits q.minute (size t) s l))

      -- 13
      pub find_none : ((i : ℕ) → i < n → get_or keys i 0 ≡ key_of q.role q.set → ⊥) → {g : Found} → g ≡ record { number = 13; place = 0; entry = 0; level = 0 } → Finds f q t keys notes g
      find_none h o = subst⁻¹ (Finds f q t keys notes) o record { reply = rw (few, no-entry (credentials f) fits q.minute (size t) s l q.role q.set small h) refl ∙ passed; shows = λ z. absurd (omega arith); asks = λ z. absurd (omega arith) }

      -- an entry
      pub find-entry : (x : ℕ) → (x < n) × (get_or keys x 0 ≡ key_of q.role q.set) → {level : ℕ} → level ≡ level_of notes x → Finds f q t keys notes (record { number = 0; place = 0; entry = x; level = level })
      find-entry x at o =
          record {
            reply = ap done (o ∙ entry-least (credentials f) fits q.minute (size t) s l q.role q.set small x at.0 at.1) ∙ rw (few, entry_has (credentials f) fits q.minute (size t) s l q.role q.set small x at.0 at.1) refl ∙ passed;
            shows = λ _. record { low = omega (arith, at.0, (s.stored l).1.few); room = ((s.stored l).1.room.0, s.room l); key = at.1; derivation = first-entries at.0 (s.derivation l); level = o };
            asks = λ _. askable f q t r e z;
          }

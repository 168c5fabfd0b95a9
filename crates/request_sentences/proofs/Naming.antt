-- The entity that the sentence of 11 names is in the set and not below E.
use mathlib.Core.Path.{◌≡◌, refl}
use mathlib.Core.Bool.{Bool, true, false}
use mathlib.Core.Logic.{⊎_elim}
use mathlib.Core.List.Memᴰ
use mathlib.Core.List.{List, Memᴰ as Mem}
use Prim.Native.Nat.{ℕ, zero, suc, ◌+◌, ◌-◌, ◌/◌, ◌%◌, ◌^◌, ◌≤◌, ◌<◌}
use native.Mathlib.Omega.{arith}
use borrow.Author.Tests.{ltb-true, ltb-false, lt-leb, eqb-true, eqb-false, ne_eqb}
use lib.Dec.{eqb, ltb}
use Rattle.meaning.specs.Lists.{up_from}
use Rattle.meaning.specs.Table.{bit}
use Rattle.meaning.proofs.Bits.{bit-above, bits_below}
use Rattle.text.specs.Ascii.{ascii}
use Rattle.sets.specs.Sets.{has}
use Rattle.file.specs.Format.{E, R}
use Rattle.sentences.specs.Words.{◌then◌, first_of, no_entity}
use Rattle.sentences.proofs.First.{Absent, found-or}
use Rattle.request_sentences.specs.RequestSentences.{asked_text}
use Rattle.request_sentences.specs.Named.{MemberNamed}

low : (a n : ℕ) {j : ℕ} → Mem j (up_from a n) → a ≤ j
low a zero m = absurd (Memᴰ.not-nil m)
low a (suc n) m = ⊎_elim (λ q. omega arith) (λ t. omega (arith, low (suc a) n t)) (Memᴰ.cases_cons m)

within_by : (a n j : ℕ) (b : Bool) → eqb j a ≡ b → (suc a ≤ j → Mem j (up_from (suc a) n)) → a ≤ j → Mem j (up_from a (suc n))
within_by a n j true e rec h = Mem.head (eqb-true j a e)
within_by a n j false e rec h = let d = eqb-false j a e in Mem.tail (rec (omega (arith, d)))

within : (a n j : ℕ) → a ≤ j → j < a + n → Mem j (up_from a n)
within a zero j h k = absurd (omega arith)
within a (suc n) j h k = within_by a n j (eqb j a) refl (λ l. within (suc a) n j l (omega arith)) h

-- a set that has no entity from e to 31 is below 2 ^ e
bit-none : (X e : ℕ) → X < 2 ^ 32 → Absent (has X) (up_from e (32 - e)) → (j : ℕ) (b : Bool) → ltb j 32 ≡ b → e ≤ j → bit X j ≡ 0
unfolding bit
bit-none X e h a j true t l =
    let d = eqb-false (X / 2 ^ j % 2) 1 (a.each j (within e (32 - e) j l (omega (arith, ltb-true j 32 t)))) in
    omega (arith, d)
bit-none X e h a j false t l = bit-above X 32 j h (ltb-false j 32 t)

module _ (f : List ℕ) (A r X : ℕ) where
  abbrev stray_member : ℕ
  stray_member = first_of (has X) (up_from (E f) (32 - E f))

  asked-says : A < E f → r < R f → ¬ (X ≡ 0) → asked_text f A r X ≡ ascii "the set has entity " then no_entity f stray_member
  asked-says a b x = rw (lt-leb _ _ a, lt-leb _ _ b, ne_eqb _ _ x)

  pub member-named : X < 2 ^ 32 → A < E f → r < R f → ¬ (X ≡ 0) → 2 ^ E f ≤ X → MemberNamed f A r X
  member-named h a b x l =
      ⊎_elim
      (λ q. record { at = stray_member; member = q.taken; large = low (E f) (32 - E f) q.in_list; says = asked-says a b x })
      (λ q. let n : X < 2 ^ E f = bits_below (E f) X (λ j k. bit-none X (E f) h q j (ltb j 32) refl k) in absurd (omega arith))
      (found-or (has X) (up_from (E f) (32 - E f)))

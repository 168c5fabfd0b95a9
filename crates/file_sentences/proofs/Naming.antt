-- What the sentences of 5, 6, 7 and 17 name is at fault.
use mathlib.Core.Path.{◌≡◌, refl, ap, subst}
use mathlib.Core.Bool.{Bool, true, false, not}
use mathlib.Core.Logic.{◌⊎◌, inl, inr, ⊎_elim}
use mathlib.Core.List.Memᴰ
use mathlib.Core.List.{List, [], ◌∷◌, Memᴰ as Mem}
use Prim.Native.Nat.{ℕ, ◌≤◌, ◌<◌}
use native.Mathlib.Omega.{arith}
use borrow.Author.Tests.{leb-true, leb-false, ltb-true, ltb-false, eqb-true, eqb-false, eq-eqb, ne_eqb, not-true, not-false}
use lib.Dec.{T, eqb, leb, ltb, ltb→lt}
use Rattle.meaning.specs.Lists.{if, all}
use Rattle.meaning.proofs.Tests.{and_left, and_right}
use Rattle.text.specs.Ascii.{ascii}
use Rattle.text.specs.Lines.{decimal}
use Rattle.file.specs.Format.{E, R, field, serial_of, from_of, to_of}
use Rattle.file.specs.Reading.{uses}
use Rattle.file.specs.Conditions.{Ranges, Zeros, Undated, Taken}
use Rattle.file.proofs.Uses.{by_kind}
use Rattle.sentences.specs.Words.{◌then◌, no_entity, no_name}
use Rattle.sentences.proofs.First.{Found, Absent, found-or}
use Rattle.file_sentences.specs.FileSentences.{stray_entity, stray_name, stray_byte, range_text}
use Rattle.file_sentences.specs.Named.{EntityNamed, NameNamed, ByteNamed, PeriodNamed, SerialNamed}

-- 0 is in no list of positive numbers
no_zero : (l : List ℕ) → T (all (λ x. ltb 0 x) l) → Mem 0 l → ⊥
no_zero [] t m = Memᴰ.not-nil m
no_zero (x ∷ l) t m =
    ⊎_elim (λ q. let h : 0 < x = ltb→lt 0 x (and_left (ltb 0 x) (all (λ x. ltb 0 x) l) t) in omega arith)
    (λ n. no_zero l (and_right (ltb 0 x) (all (λ x. ltb 0 x) l) t) n)
    (Memᴰ.cases_cons m)

-- the bytes of entities are none of them byte 0
no-entity-0 : (k : ℕ) → k ≤ 5 → Mem 0 (uses k).entities → ⊥
no-entity-0 =
    by_kind (λ k. Mem 0 (uses k).entities → ⊥)
    (no_zero (1 ∷ 3 ∷ []) tt) (no_zero (1 ∷ 3 ∷ []) tt) (no_zero (1 ∷ 3 ∷ []) tt)
    (no_zero (1 ∷ 3 ∷ 5 ∷ []) tt) (no_zero (1 ∷ 3 ∷ 5 ∷ []) tt) (no_zero (1 ∷ 3 ∷ 5 ∷ []) tt)

module _ (f : List ℕ) (i : ℕ) where
  abbrev large_entity : ℕ → Bool
  large_entity j = leb (E f) (field f i j)

  abbrev large_name : ℕ → Bool
  large_name j = leb (R f) (field f i j)

  abbrev stray : ℕ → Bool
  stray j = not (eqb (field f i j) 0)

  -- the sentence of 5, by whether an entity was found
  by : (b : Bool) → eqb (stray_entity f i) 0 ≡ b
      → range_text f i ≡ if b (ascii "role name " then no_name f (field f i (stray_name f i))) (ascii "entity " then no_entity f (field f i (stray_entity f i)))
  by b h =
      ap (λ (t : Bool). if t (ascii "role name " then no_name f (field f i (stray_name f i))) (ascii "entity " then no_entity f (field f i (stray_entity f i)))) h

  module _ (k : field f i 0 ≤ 5) where
    entity-named : Found large_entity (uses (field f i 0)).entities → EntityNamed f i
    entity-named r =
        let z : stray_entity f i ≡ 0 → ⊥ = λ e. no-entity-0 (field f i 0) k (subst (λ (y : ℕ). Mem y (uses (field f i 0)).entities) e r.in_list) in
        record { at = stray_entity f i; used = r.in_list; large = leb-true (E f) (field f i (stray_entity f i)) r.taken; says = by false (ne_eqb (stray_entity f i) 0 z) }

    name-named : Absent large_entity (uses (field f i 0)).entities → Found large_name (uses (field f i 0)).names → NameNamed f i
    name-named a r = record {
      entities = λ j m. leb-false (E f) (field f i j) (a.each j m);
      at = stray_name f i;
      used = r.in_list;
      large = leb-true (R f) (field f i (stray_name f i)) r.taken;
      says = by true (eq-eqb (stray_entity f i) 0 a.none);
    }

    pub range-named : ¬ Ranges f i → EntityNamed f i ⊎ NameNamed f i
    range-named n =
        ⊎_elim (λ r. inl (entity-named r))
        (λ a.
        ⊎_elim (λ r. inr (name-named a r))
        (λ b.
        absurd (n (record {
          entities = λ j m. leb-false (E f) (field f i j) (a.each j m);
          names = λ j m. leb-false (R f) (field f i j) (b.each j m);
        })))
        (found-or large_name (uses (field f i 0)).names))
        (found-or large_entity (uses (field f i 0)).entities)

  pub byte-named : ¬ Zeros f i → ByteNamed f i
  byte-named n =
      ⊎_elim
      (λ r. record { at = stray_byte f i; unused = r.in_list; nonzero = eqb-false _ _ (not-true _ r.taken); says = refl })
      (λ a. absurd (n (λ j m. eqb-true (field f i j) 0 (not-false _ (a.each j m)))))
      (found-or stray (uses (field f i 0)).unused)

  -- the sentence of 7, by whether from is above to
  abbrev dates_text : Bool → List ℕ
  dates_text b =
      if b (ascii "from " then decimal (from_of f i) then ascii " is above to " then decimal (to_of f i))
      (ascii "to " then decimal (to_of f i) then ascii ", the last minute is 4294967294")

  pub period-named : Undated f i → PeriodNamed f i
  period-named u = go (ltb (to_of f i) (from_of f i)) refl
    where
      go : (b : Bool) → ltb (to_of f i) (from_of f i) ≡ b → PeriodNamed f i
      go true h = inl (ltb-true (to_of f i) (from_of f i) h, ap dates_text h)
      go false h = ⊎_elim (λ l. let g = ltb-false (to_of f i) (from_of f i) h in absurd (omega arith)) (λ e. inr (e, ap dates_text h)) u

  -- the sentence of 17, by whether the serial is zero
  abbrev text_of : Bool → List ℕ
  text_of b = if b (ascii "the serial is 0") (ascii "serial " then decimal (serial_of f i) then ascii ", an earlier credential has it")

  pub serial-named : Taken f i → SerialNamed f i
  serial-named u = go (eqb (serial_of f i) 0) refl
    where
      go : (b : Bool) → eqb (serial_of f i) 0 ≡ b → SerialNamed f i
      go true h = inl (eqb-true (serial_of f i) 0 h, ap text_of h)
      go false h = ⊎_elim (λ e. absurd (eqb-false (serial_of f i) 0 h e)) (λ j. inr (j, ap text_of h)) u

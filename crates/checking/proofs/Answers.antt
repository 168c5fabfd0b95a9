-- The answers of checking: the first step that breaks the rules, another membership, or the level.
use mathlib.Core.Path.{◌≡◌, refl, sym, ap, ◌∙◌, subst}
use mathlib.Core.Bool.{Bool, true, false, ◌&&◌, not}
use mathlib.Core.List.{List, [], ◌∷◌, ◌++◌, map}
use Prim.Native.Nat.{ℕ, zero, suc, ◌+◌, ◌<◌, ◌≤◌}
use native.Mathlib.Omega.{arith}
use borrow.Author.Tests.{ltb-true, ltb-false}
use lib.Dec.{eqb, ltb}
use lib.ListN.{length}
use Rattle.meaning.specs.Lists.{if, up_from, below}
use Rattle.meaning.specs.Credentials.{Credential}
use Rattle.meaning.specs.Proofs.{Shown}
use Rattle.policy.specs.Policy.{credentials_of}
use Rattle.file.specs.declared.Refusal.{Refusal}
use Rattle.file.specs.Refusals.{RefusalRow, Outcome, done, refused, first, ◌at◌when◌}
use Rattle.file.specs.Reading.{between}
use Rattle.withdrawals.specs.Source.{Source, credentials}
use Rattle.asking.specs.Asking.{Request, StepLists, step_in, steps_in, size, Sized, Askable}
use Rattle.asking.specs.declared.Admission.{Admission}
use Rattle.asking.specs.Admitting.{Admits}
use Rattle.asking.proofs.Asked.{askable-passes}
use Rattle.checking.specs.declared.Kept.{Kept}
use Rattle.checking.specs.Checking.{step_holds, last_shown, last_row, part_before, proof_rows, checking}
use Rattle.checking.specs.Walks.{Walkable, Walked, concluded_by, concluding}
use Rattle.checking.proofs.Refusals as refusals

-- ---- the rows of 15, where `test i` says that step i holds

module _ {A : Type 0} (a : A) (test : ℕ → Bool) where
  abbrev broken_row : ℕ → RefusalRow
  broken_row i = 15 at i when (not (test i))

  rows_pass : (n i : ℕ) (more : List RefusalRow) → ((j : ℕ) → i ≤ j → j < i + n → test j ≡ true) → first (map broken_row (up_from i n) ++ more) a ≡ first more a
  rows_pass zero i more h = refl
  rows_pass (suc n) i more h = rw (h i (omega arith) (omega arith)) (rows_pass n (suc i) more (λ j k l. h j (omega arith) (omega arith)))

  rows-give : (k n i : ℕ) (more : List RefusalRow) → k < n → ((j : ℕ) → i ≤ j → j < i + k → test j ≡ true) → test (i + k) ≡ false
      → ◌≡◌ {A = Outcome A} (first (map broken_row (up_from i n) ++ more) a) (refused 15 (i + k))
  rows-give k zero i more l h e = absurd (omega arith)
  rows-give zero (suc n) i more l h e =
      let z : i ≡ i + 0 = omega arith in
      let q : test i ≡ false = ap test z ∙ e in
      rw q (ap (λ (x : ℕ). refused 15 x) z)
  rows-give (suc k) (suc n) i more l h e =
      let z : suc i + k ≡ i + suc k = omega arith in
      rw (h i (omega arith) (omega arith))
      (rows-give k n (suc i) more (omega arith) (λ j m o. h j (omega arith) (omega arith)) (ap test z ∙ e) ∙ ap (λ (x : ℕ). refused 15 x) z)

  pub steps-pass : (n : ℕ) (more : List RefusalRow) → ((j : ℕ) → j < n → test j ≡ true) → first (map broken_row (below n) ++ more) a ≡ first more a
  steps-pass n more h = rows_pass n 0 more (λ j k l. h j (omega arith))

  pub steps-give : (p n : ℕ) (more : List RefusalRow) → p < n → ((j : ℕ) → j < p → test j ≡ true) → test p ≡ false
      → ◌≡◌ {A = Outcome A} (first (map broken_row (below n) ++ more) a) (refused 15 p)
  steps-give p n more l h e =
      let z : 0 + p ≡ p = omega arith in
      rows-give p n 0 more l (λ j k m. h j (omega arith)) (ap test z ∙ e) ∙ ap (λ (x : ℕ). refused 15 x) z

-- ---- from what the walk leaves

-- whether step i holds
abbrev pub holds_at : List Credential → ℕ → StepLists → ℕ → Bool
holds_at cs m t i = step_holds cs m (steps_in t i) (step_in t i)

-- the queried membership is shown
abbrev pub asked : Request → Shown → Bool
asked q x = eqb x.role q.role && eqb x.set q.set

module _ (cs : List Credential) (q : Request) (t : StepLists) (n : ℕ) where
  abbrev holds : ℕ → Bool
  holds = holds_at cs q.minute t

  pub broken-at : (p : ℕ) → p < n → ((j : ℕ) → j < p → holds j ≡ true) → holds p ≡ false → concluding cs q t n ≡ refused 15 p
  unfolding concluding
  broken-at p l h e = steps-give (last_shown cs t n).level holds p n (last_row cs q t n ∷ []) l h e

  module _ (all : (j : ℕ) → j < n → holds j ≡ true) where
    pub other_last : asked q (last_shown cs t n) ≡ false → concluding cs q t n ≡ refused 16 0
    unfolding concluding
    other_last e = steps-pass (last_shown cs t n).level holds n (last_row cs q t n ∷ []) all ∙ rw e refl

    pub level-last : asked q (last_shown cs t n) ≡ true → concluding cs q t n ≡ done (last_shown cs t n).level
    unfolding concluding
    level-last e = steps-pass (last_shown cs t n).level holds n (last_row cs q t n ∷ []) all ∙ rw e refl

  -- by how many steps keep the rules
  module _ {k : Kept} (w : Walked cs q.minute t n k) where
    pub walk-concludes : concluded_by k q.role q.set n ≡ concluding cs q t n
    walk-concludes = go (ltb k.count n) refl
      where
        by_last : n ≤ k.count → (b : Bool) → asked q (record { role = k.role; set = k.set; level = k.level }) ≡ b → if b (done k.level) (refused 16 0) ≡ concluding cs q t n
        by_last l true e = sym (level-last (λ j h. w.kept j (omega arith)) (ap (asked q) (sym (w.last l)) ∙ e) ∙ ap (λ (x : Shown). done x.level) (sym (w.last l)))
        by_last l false e = sym (other_last (λ j h. w.kept j (omega arith)) (ap (asked q) (sym (w.last l)) ∙ e))

        go : (b : Bool) → ltb k.count n ≡ b → if b (refused 15 k.count) (if (eqb k.role q.role && eqb k.set q.set) (done k.level) (refused 16 0)) ≡ concluding cs q t n
        go true e = let l = ltb-true k.count n e in sym (broken-at k.count l w.kept (w.stops l))
        go false e = by_last (ltb-false k.count n e) (eqb k.role q.role && eqb k.set q.set) refl

-- ---- from the refusals of the request

module _ (f : Source) (q : Request) (t : StepLists) (n : ℕ) where
  -- the level, where nothing is refused
  abbrev pub level : ℕ
  level = (last_shown (credentials f) (part_before n t) n).level

  -- no refusal of the request is given
  pub after-request : Askable f q t → checking f q t n ≡ first (proof_rows (credentials f) q t n) level
  unfolding checking
  after-request a = askable-passes f q t a (proof_rows (credentials f) q t n) level

  -- what the judge of the request says
  module _ {p : List ℕ} {j : Admission} (judged : (u : StepLists) → Sized u (length t.credential) (length t.first) (length t.second) (length t.sets) → Admits f q u p j) where
    e : Admits f q t p j
    e = judged t (record { credential = refl; first = refl; second = refl; sets = refl })

    -- its refusal, or none
    abbrev said : Refusal
    said = record { number = j.number; place = j.place }

    pub request-refused : (j.number ≡ 0 → ⊥) → refused j.number j.place ≡ checking f q t n
    request-refused h = refusals.request-refused f q t n said e.refusal h

    module _ (z : j.number ≡ 0) where
      pub count-refused : between 1 (size t) n ≡ false → refused 14 0 ≡ checking f q t n
      count-refused b = refusals.count-refused f q t n said e.refusal z b

      module _ (b : between 1 (size t) n ≡ true) where
        pub walkable : Walkable j.credentials (part_before n t) n
        walkable = refusals.walkable f q t n said e.refusal z b (e.policy z).decoded.few

        -- the answer, from the steps
        pub walked-concludes : {k : Kept} → Walked (credentials_of p j.credentials) q.minute (part_before n t) n k → concluded_by k q.role q.set n ≡ checking f q t n
        walked-concludes {k} w =
            walk-concludes (credentials f) q (part_before n t) n (subst (λ (cs : List Credential). Walked cs q.minute (part_before n t) n k) (e.policy z).means w)
            ∙ refusals.count-passed f q t n said e.refusal z b

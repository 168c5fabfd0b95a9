-- Steps at and past the count play no part.
use mathlib.Core.Path.{◌≡◌, sym, ap, ap₂, ◌∙◌}
use mathlib.Core.Bool.{Bool, ◌&&◌, not}
use mathlib.Core.List.{List, [], ◌∷◌, ◌++◌}
use Prim.Native.Nat.{ℕ, ◌-◌, ◌<◌, ◌≤◌}
use native.Mathlib.Nat.{le_refl}
use native.Mathlib.Omega.{arith}
use lib.Dec.{eqb}
use lib.ListN.{length, get_or}
use lib.Seq.{get_or-take}
use Rattle.meaning.specs.Credentials.{Credential}
use Rattle.meaning.specs.Proofs.{Step, Shown, nothing, shown_by}
use Rattle.file.specs.Refusals.{RefusalRow, first, ◌when◌, ◌at◌when◌}
use Rattle.file.specs.Reading.{between}
use Rattle.withdrawals.specs.Source.{Source, credentials, reading}
use Rattle.asking.specs.Asking.{Request, StepLists, step_in, steps_in, size, one_length, within, asking}
use Rattle.checking.specs.Checking.{step_holds, step_row, step_rows, last_shown, part_before, checking}
use Rattle.checking.specs.Walks.{concluding}
use Rattle.steps.proofs.Counting.{counted_same}

-- of one length, and the same entries below n
pub record Agree (n : ℕ) (l k : List ℕ) : Type 0 where
  pub long : length l ≡ length k
  pub same : (i : ℕ) → i < n → get_or l i 0 ≡ get_or k i 0

-- in all four lists
pub record AgreeBelow (n : ℕ) (t u : StepLists) : Type 0 where
  pub credential : Agree n t.credential u.credential
  pub first : Agree n t.first u.first
  pub second : Agree n t.second u.second
  pub sets : Agree n t.sets u.sets

-- steps that are the same below n
module _ (n : ℕ) (t u : StepLists) (same : (i : ℕ) → i < n → step_in t i ≡ step_in u i) where
  same-steps : (k : ℕ) → k ≤ n → steps_in t k ≡ steps_in u k
  same-steps k l = counted_same (step_in t) (step_in u) k (λ i h. same i (omega arith))

  module _ (cs : List Credential) (q : Request) where
    same-last : last_shown cs t n ≡ last_shown cs u n
    same-last = ap (λ (ss : List Step). get_or (shown_by cs [] ss) (n - 1) nothing) (same-steps n (le_refl n))

    same_rows : step_rows cs q t n ≡ step_rows cs q u n
    same_rows =
        ap₂ (λ (l : List RefusalRow) (x : Shown). l ++ 16 when (not (eqb x.role q.role && eqb x.set q.set)) ∷ [])
        (counted_same (step_row cs q.minute t) (step_row cs q.minute u) n
        (λ i h. ap₂ (λ (ss : List Step) (s : Step). 15 at i when (not (step_holds cs q.minute ss s))) (same-steps i (omega arith)) (same i h)))
        same-last

-- the part before n has the steps before n
module _ (n : ℕ) (t : StepLists) where
  part_step : (i : ℕ) → i < n → step_in (part_before n t) i ≡ step_in t i
  part_step i h =
      λ j.
      record {
        credential = get_or-take n t.credential i 0 h j;
        first = get_or-take n t.first i 0 h j;
        second = get_or-take n t.second i 0 h j;
        set = get_or-take n t.sets i 0 h j;
      }

  pub part-concludes : (cs : List Credential) (q : Request) → concluding cs q (part_before n t) n ≡ concluding cs q t n
  unfolding concluding
  part-concludes cs q = ap₂ (λ (l : List RefusalRow) (x : Shown). first l x.level) (same_rows n (part_before n t) t part_step cs q) (same-last n (part_before n t) t part_step cs q)

module _ {n : ℕ} {t u : StepLists} (a : AgreeBelow n t u) where
  part_same : (i : ℕ) → i < n → step_in (part_before n t) i ≡ step_in (part_before n u) i
  part_same i h =
      part_step n t i h
      ∙ (λ j. record { credential = a.credential.same i h j; first = a.first.same i h j; second = a.second.same i h j; set = a.sets.same i h j })
      ∙ sym (part_step n u i h)

  same_size : size t ≡ size u
  same_size = a.credential.long

  same-lengths : one_length t ≡ one_length u
  same-lengths = λ j. eqb (a.first.long j) (same_size j) && eqb (a.second.long j) (same_size j) && eqb (a.sets.long j) (same_size j) && between 1 1024 (same_size j)

  module _ (f : Source) (q : Request) where
    same-asking : asking f q t ≡ asking f q u
    unfolding asking
    same-asking =
        ap (λ (b : Bool). reading f ++ (9 when (not b) ∷ 11 when (not (within f q.role q.set && not (eqb q.set 0))) ∷ 12 when (eqb q.minute 4294967295) ∷ [])) same-lengths

    pub same_answer : checking f q t n ≡ checking f q u n
    unfolding checking
    same_answer = λ j. first (same-asking j ++ (14 when (not (between 1 (same_size j) n)) ∷ same_rows n (part_before n t) (part_before n u) part_same (credentials f) q j)) (same-last n (part_before n t) (part_before n u) part_same (credentials f) q j).level

-- What the test of step lists says: the sizes of the lists where it holds, and 9 where it does not.
use mathlib.Core.Path.{◌≡◌, refl, sym, ap, ◌∙◌, subst⁻¹}
use mathlib.Core.Bool.{Bool, true, false, ◌&&◌, not}
use mathlib.Core.List.{List, [], ◌∷◌, ◌++◌, append_assoc}
use Prim.Native.Nat.{ℕ, ◌/◌, ◌%◌}
use native.Mathlib.Omega.{arith}
use borrow.Author.Tests.{eq-eqb}
use lib.Dec.{T, eqb, leb, eqb→eq, leb→le}
use lib.ListN.{length}
use Rattle.meaning.specs.Lists.{if}
use Rattle.meaning.proofs.Tests.{and_left, and_right}
use Rattle.file.specs.Refusals.{RefusalRow, first, ◌when◌}
use Rattle.file.specs.Reading.{between}
use Rattle.withdrawals.specs.Source.{Source, reading}
use Rattle.asking.specs.Asking.{Request, StepLists, one_length, within, request_rows, asking}
use Rattle.codec.proofs.Entries.{length-entries}
use Rattle.replies.specs.Interface.{not_whole, whole_steps, step_lists_in}
use Rattle.replies.specs.Lengths.{steps_fit, StepSizes}
use Rattle.replies.proofs.Refusing.{nine-decides}

pub steps-whole : (b : StepLists) (n : ℕ) → StepSizes b n → whole_steps b ≡ true
steps-whole b n z =
    rw (
      eq-eqb (length b.credential % 4) 0 (omega (arith, z.credential)),
      eq-eqb (length b.first % 4) 0 (omega (arith, z.first)),
      eq-eqb (length b.second % 4) 0 (omega (arith, z.second)),
      eq-eqb (length b.sets % 4) 0 (omega (arith, z.sets)),
    ) refl

-- 9 comes first after the refusals of a file with its withdrawals
pub asked-nine : (f : Source) (q : Request) (t : StepLists) → one_length t ≡ false → {X : Type 0} (more : List RefusalRow) (a b : X)
    → first (asking f q t ++ more) a ≡ first (reading f ++ (9 when true ∷ [])) b
unfolding asking
asked-nine f q t e {X} more a b =
    ap (λ (rows : List RefusalRow). first rows a) (append_assoc (reading f) (request_rows f q t) more)
    ∙ ap (λ (o : Bool). first (reading f ++ (9 when (not o) ∷ (11 when (not (within f q.role q.set && not (eqb q.set 0))) ∷ 12 when (eqb q.minute 4294967295) ∷ more))) a) e
    ∙ nine-decides (reading f) (11 when (not (within f q.role q.set && not (eqb q.set 0))) ∷ 12 when (eqb q.minute 4294967295) ∷ more) a b

module _ (b : StepLists) where
  abbrev m : ℕ
  m = length b.credential / 4

  -- the test by the lists' numbers of bytes
  abbrev pub fit : Bool
  fit = steps_fit (length b.credential) (length b.first) (length b.second) (length b.sets)

  fit_is : fit ≡ (whole_steps b && one_length (step_lists_in b))
  fit_is =
      let c = sym (length-entries 4 b.credential) in
      λ j. whole_steps b && (eqb (sym (length-entries 4 b.first) j) (c j) && eqb (sym (length-entries 4 b.second) j) (c j) && eqb (sym (length-entries 4 b.sets) j) (c j) && between 1 1024 (c j))

  pub steps-sizes : fit ≡ true → StepSizes b m
  steps-sizes e =
      let t : T fit = subst⁻¹ T e tt in
      let c = eqb (length b.credential % 4) 0 in
      let f = eqb (length b.first % 4) 0 in
      let s = eqb (length b.second % 4) 0 in
      let r = eqb (length b.sets % 4) 0 in
      let x = eqb (length b.first / 4) m in
      let y = eqb (length b.second / 4) m in
      let z = eqb (length b.sets / 4) m in
      let u = between 1 1024 m in
      let w = and_left (c && f && s && r) (x && y && z && u) t in
      let l = and_right (c && f && s && r) (x && y && z && u) t in
      let cfs = and_left (c && f && s) r w in
      let cf = and_left (c && f) s cfs in
      let xyz = and_left (x && y && z) u l in
      let xy = and_left (x && y) z xyz in
      let c4 = eqb→eq (length b.credential % 4) 0 (and_left c f cf) in
      let f4 = eqb→eq (length b.first % 4) 0 (and_right c f cf) in
      let s4 = eqb→eq (length b.second % 4) 0 (and_right (c && f) s cfs) in
      let r4 = eqb→eq (length b.sets % 4) 0 (and_right (c && f && s) r w) in
      let fm = eqb→eq (length b.first / 4) m (and_left x y xy) in
      let sm = eqb→eq (length b.second / 4) m (and_right x y xy) in
      let rm = eqb→eq (length b.sets / 4) m (and_right (x && y) z xyz) in
      let few = leb→le m 1024 (and_right (leb 1 m) (leb m 1024) (and_right (x && y && z) u l)) in
      record { credential = omega arith; first = omega arith; second = omega arith; sets = omega arith; few = few }

  -- a reply that has the rows of a request first
  pub steps-unfit : (f : Source) (q : Request) → fit ≡ false → {X : Type 0} (more : List RefusalRow) (x y : X)
      → if (whole_steps b) (first (asking f q (step_lists_in b) ++ more) x) (not_whole f y) ≡ not_whole f y
  steps-unfit f q e {X} more x y = go (whole_steps b) (sym fit_is ∙ e)
    where
      go : (w : Bool) → (w && one_length (step_lists_in b)) ≡ false → if w (first (asking f q (step_lists_in b) ++ more) x) (not_whole f y) ≡ not_whole f y
      go true e = asked-nine f q (step_lists_in b) e more x y
      go false e = refl

-- What checking answers by the first refusal of the request: that refusal, 14, or what the steps come to.
use mathlib.Core.Path.{◌≡◌, refl, sym, ◌∙◌, subst⁻¹}
use mathlib.Core.Bool.{true, false, ◌&&◌}
use mathlib.Core.List.{List}
use Prim.Native.Nat.{ℕ, ◌≤◌}
use native.Mathlib.Omega.{arith}
use lib.Dec.{T, eqb, leb, leb→le, eqb→eq}
use lib.ListN.{length, take}
use lib.Seq.{length-take-le}
use Rattle.meaning.proofs.Tests.{and_left, and_right}
use Rattle.file.specs.declared.Refusal.{Refusal}
use Rattle.file.specs.Refusals.{refused}
use Rattle.file.specs.Values.{first_refusal}
use Rattle.file.specs.Reading.{between}
use Rattle.withdrawals.specs.Source.{Source, credentials}
use Rattle.asking.specs.Asking.{Request, StepLists, size, one_length, asking}
use Rattle.asking.proofs.Asked.{asked-refused, asked-passed, askable}
use Rattle.checking.specs.Checking.{last_shown, part_before, proof_rows, checking}
use Rattle.checking.specs.Walks.{Walkable, concluding}

module _ (f : Source) (q : Request) (t : StepLists) (n : ℕ) where
  -- the level, where nothing is refused
  abbrev level : ℕ
  level = (last_shown (credentials f) (part_before n t) n).level

  module _ (r : Refusal) (e : r ≡ first_refusal (asking f q t)) where
    pub request-refused : (r.number ≡ 0 → ⊥) → refused r.number r.place ≡ checking f q t n
    unfolding checking
    request-refused h = sym (asked-refused f q t r e h (proof_rows (credentials f) q t n) level)

    module _ (z : r.number ≡ 0) where
      pub count-refused : between 1 (size t) n ≡ false → refused 14 0 ≡ checking f q t n
      unfolding checking
      count-refused b = sym (asked-passed f q t r e z (proof_rows (credentials f) q t n) level ∙ rw b refl)

      module _ (b : between 1 (size t) n ≡ true) where
        pub count-passed : concluding (credentials f) q (part_before n t) n ≡ checking f q t n
        unfolding checking concluding
        count-passed = sym (asked-passed f q t r e z (proof_rows (credentials f) q t n) level ∙ rw b refl)

        counted : (1 ≤ n) × (n ≤ size t)
        counted = let s : T (between 1 (size t) n) = subst⁻¹ T b tt in (leb→le 1 n (and_left (leb 1 n) (leb n (size t)) s), leb→le n (size t) (and_right (leb 1 n) (leb n (size t)) s))

        pub walkable : {c : ℕ} → c ≤ 256 → Walkable c (part_before n t) n
        walkable m =
            let a = askable f q t r e z in
            let s : T (one_length t) = subst⁻¹ T a.lists tt in
            let x = eqb (length t.first) (size t) in
            let y = eqb (length t.second) (size t) in
            let v = eqb (length t.sets) (size t) in
            let u = between 1 1024 (size t) in
            let xyv = and_left (x && y && v) u s in
            let xy = and_left (x && y) v xyv in
            let ef = eqb→eq (length t.first) (size t) (and_left x y xy) in
            let es = eqb→eq (length t.second) (size t) (and_right x y xy) in
            let ev = eqb→eq (length t.sets) (size t) (and_right (x && y) v xyv) in
            let few = leb→le (size t) 1024 (and_right (leb 1 (size t)) (leb (size t) 1024) (and_right (x && y && v) u s)) in
            let c = counted in
            let part : (l : List ℕ) → length l ≡ size t → length (take n l) ≡ n = λ l o. length-take-le n l (omega arith) in
            record { credentials = m; credential = part t.credential refl; first = part t.first ef; second = part t.second es; sets = part t.sets ev; some = c.0; few = omega arith }

-- The bytes of a statement that passes 4 to 7: entities and names are below 32, also where the kind does not use them.
use mathlib.Core.Path.{◌≡◌, refl, sym, ◌∙◌, subst}
use mathlib.Core.Bool.{Bool, true, false, ◌||◌, not}
use mathlib.Core.List.{List}
use Prim.Native.Nat.{ℕ, ◌≤◌, ◌<◌}
use native.Mathlib.Omega.{arith}
use lib.Dec.{T, eqb, ltb, eqb→eq, ltb→lt}
use Rattle.meaning.specs.Credentials.{◌·◌}
use Rattle.meaning.proofs.Tests.{and_left, and_right}
use Rattle.file.specs.declared.Head.{Head}
use Rattle.file.specs.Format.{E, R, byte, statement_at, field}
use Rattle.file.specs.Reading.{credential_rows}
use Rattle.file.specs.Values.{used_by, first_number, Headed}
use Rattle.file.proofs.Uses.{ranged, blank, kind_at, in-range-kind, zeros-kind}
use Rattle.file.proofs.Faults.{passed}

-- the kind, and the roles as numbers; a kind 2 has a name where other kinds have a second role
pub record Small (f : List ℕ) (i : ℕ) : Type 0 where
  pub kind : field f i 0 ≤ 5
  pub head : field f i 1 · field f i 2 < 1024
  pub entity : field f i 3 < 32
  pub first : field f i 3 · field f i 4 < 1024
  pub second : field f i 5 · field f i 6 < 1024
  pub name : field f i 0 ≡ 2 → (field f i 5 · field f i 6 ≡ field f i 6) × (field f i 6 < 32)

-- a byte that is in range where it is used, and zero where it is not
either : (u : Bool) (x l : ℕ) → l ≤ 32 → T (not u || ltb x l) → T (u || eqb x 0) → x < 32
either true x l h r z = omega (arith, ltb→lt x l r)
either false x l h r z = omega (arith, eqb→eq x 0 z)

ruleset parts = (and_left, and_right, ltb→lt)

pub small : (f : List ℕ) (h : Head) (i : ℕ) → Headed f h → first_number (credential_rows f i) ≡ 0 → Small f i
small f h i d e =
    let p = passed f i e in
    let n = d.narrow in
    let k : ℕ = byte f (statement_at i) in
    let r : T (ranged k (λ j. ltb (field f i j) (E f)) (λ j. ltb (field f i j) (R f))) = subst T (in-range-kind f i (E f) (R f) p.kind refl refl) p.ranged in
    let z : T (blank k (λ j. eqb (field f i j) 0)) = subst T (zeros-kind f i p.kind) p.zeroed in
    let a : field f i 1 < E f = search parts in
    let q : field f i 2 < R f = search parts in
    let b : field f i 3 < E f = search parts in
    let unused_c : T ((used_by k).c || eqb (field f i 5) 0) = search parts in
    let s = either (used_by k).s (field f i 4) (R f) n.1 (search parts) (search parts) in
    let c = either (used_by k).c (field f i 5) (E f) n.0 (search parts) unused_c in
    let t = either (used_by k).t (field f i 6) (R f) n.1 (search parts) (search parts) in
    record {
      kind = p.kind;
      head = omega arith;
      entity = omega arith;
      first = omega arith;
      second = omega arith;
      name = λ two.
          let l : field f i 5 ≡ 0 = eqb→eq (field f i 5) 0 (subst (λ (m : ℕ). T ((used_by m).c || eqb (field f i 5) 0)) (sym (kind_at f i) ∙ two) unused_c) in
          (omega arith, t);
    }

-- Refusals 4 to 7 of one credential: the number by the tests, and what number 0 tells.
use mathlib.Core.Path.{◌≡◌, subst⁻¹}
use mathlib.Core.Bool.{Bool, true, false, ◌&&◌, not}
use mathlib.Core.List.{List}
use Prim.Native.Nat.{ℕ, ◌≤◌, ◌<◌}
use lib.Dec.{T, ltb, nltb→le}
use borrow.Author.Tests.{lt-ltb, le-ltb}
use Rattle.file.specs.declared.Head.{Head}
use Rattle.file.specs.Format.{byte, N, statement_at, field}
use Rattle.file.specs.Reading.{in_range, zeros, undated, credential_rows}
use Rattle.file.specs.Conditions.{Dated, Undated}
use Rattle.file.proofs.Dating.{undated-true, undated-false, not-undated}
use Rattle.file.specs.Values.{first_number, Headed, Stated}
use Rattle.meaning.proofs.Tests.{and_left, and_right}
use Rattle.file.proofs.First.{not-not, clear-holds}
use Rattle.file.proofs.Uses.{kind_at}

module _ (f : List ℕ) (i : ℕ) where
  pub fault-4 : 5 < field f i 0 → first_number (credential_rows f i) ≡ 4
  fault-4 k = simp (lt-ltb _ _ k)

  module _ (k : field f i 0 ≤ 5) where
    pub fault-5 : in_range f i ≡ false → first_number (credential_rows f i) ≡ 5
    fault-5 r = simp (le-ltb _ _ k, r)

    module _ (r : in_range f i ≡ true) where
      pub fault-6 : zeros f i ≡ false → first_number (credential_rows f i) ≡ 6
      fault-6 z = simp (le-ltb _ _ k, r, z)

      module _ (z : zeros f i ≡ true) where
        pub fault-7 : Undated f i → first_number (credential_rows f i) ≡ 7
        fault-7 p = let u = undated-true f i p in simp (le-ltb _ _ k, r, z, u)

        pub fault-none : Dated f i → first_number (credential_rows f i) ≡ 0
        fault-none p = let u = undated-false f i p in simp (le-ltb _ _ k, r, z, u)

-- what a credential that passes 4 to 7 has
pub record Passed (f : List ℕ) (i : ℕ) : Type 0 where
  pub kind : field f i 0 ≤ 5
  pub ranged : T (in_range f i)
  pub zeroed : T (zeros f i)
  pub dated : Dated f i

pub passed : (f : List ℕ) (i : ℕ) → first_number (credential_rows f i) ≡ 0 → Passed f i
passed f i e =
    let a : Bool = not (ltb 5 (field f i 0)) in
    let b : Bool = not (not (in_range f i)) in
    let c : Bool = not (not (zeros f i)) in
    let d : Bool = not (undated f i) in
    let t : T (a && (b && (c && (d && true)))) = clear-holds (credential_rows f i) tt e in
    let u = and_right a (b && (c && (d && true))) t in
    let v = and_right b (c && (d && true)) u in
    record {
      kind = nltb→le 5 (field f i 0) (and_left a (b && (c && (d && true))) t);
      ranged = not-not (in_range f i) (and_left b (c && (d && true)) u);
      zeroed = not-not (zeros f i) (and_left c (d && true) v);
      dated = not-undated f i (and_left d true (and_right c (d && true) v));
    }

pub stated : (f : List ℕ) (h : Head) (i : ℕ) → Headed f h → i < N f → byte f (statement_at i) ≤ 5 → Stated f i
stated f h i d l k = record { low = l; few = d.few; long = d.long; kind = subst⁻¹ (λ (n : ℕ). n ≤ 5) (kind_at f i) k }

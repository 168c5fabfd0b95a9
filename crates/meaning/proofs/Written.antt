-- Written validity is what the one row with the role and the set says.
use mathlib.Core.Path.{◌≡◌, refl, subst}
use mathlib.Core.Logic.{◌↔◌}
use mathlib.Core.Bool.{Bool, ◌&&◌}
use mathlib.Core.List.{List, Memᴰ as Mem}
use Prim.Native.Nat.{ℕ}
use lib.Dec.{T, eqb, eqb→eq}
use Rattle.meaning.specs.Credentials.{Credential}
use Rattle.meaning.specs.Table.{Row, ends, table, in_spans, written}
use Rattle.meaning.proofs.Tests.{and_in, and_left, and_right, eq-in, any-in, any_out}
use Rattle.meaning.proofs.OrderLaws.{same-membership}
use Rattle.meaning.proofs.Rows as Rows

module _ (es : List ℕ) (R : List Row) (m : ℕ) where
  -- some row has the role and the set, and a span with the minute
  pub written_row : (Ar X : ℕ) → T (written es R Ar X m) ↔ ((x : Row) × Mem x R × (x.role ≡ Ar) × (x.set ≡ X) × T (in_spans es x.spans m))
  written_row Ar X = (to, back)
    where
      same : Row → Bool
      same x = eqb x.role Ar && eqb x.set X

      says : Row → Bool
      says x = same x && in_spans es x.spans m

      to : T (written es R Ar X m) → (x : Row) × Mem x R × (x.role ≡ Ar) × (x.set ≡ X) × T (in_spans es x.spans m)
      to t =
          let (x, h, u) = any_out says R t in
          let s = and_left (same x) (in_spans es x.spans m) u in
          (x, h, eqb→eq _ _ (and_left (eqb x.role Ar) (eqb x.set X) s), eqb→eq _ _ (and_right (eqb x.role Ar) (eqb x.set X) s), and_right (same x) (in_spans es x.spans m) u)

      back : (x : Row) × Mem x R × (x.role ≡ Ar) × (x.set ≡ X) × T (in_spans es x.spans m) → T (written es R Ar X m)
      back (x, h, e, f, t) =
          any-in says h (and_in (same x) (in_spans es x.spans m) (and_in (eqb x.role Ar) (eqb x.set X) (eq-in _ _ e) (eq-in _ _ f)) t)

module _ (cs : List Credential) where
  pub one-row : {x y : Row} → Mem x (table cs) → Mem y (table cs) → x.role ≡ y.role → x.set ≡ y.set → x ≡ y
  one-row h k e f = Rows.one-row (table cs) (Rows.table-ascending cs) h k (same-membership e f)

  pub row_written : {x : Row} → Mem x (table cs) → (m : ℕ) → T (written (ends cs) (table cs) x.role x.set m) ↔ T (in_spans (ends cs) x.spans m)
  row_written {x} h m = (to, λ t. (written_row (ends cs) (table cs) m x.role x.set).1 (x, h, refl, refl, t))
    where
      to : T (written (ends cs) (table cs) x.role x.set m) → T (in_spans (ends cs) x.spans m)
      to t =
          let (y, k, e, f, u) = (written_row (ends cs) (table cs) m x.role x.set).0 t in
          subst (λ (z : Row). T (in_spans (ends cs) z.spans m)) (one-row k h e f) u

-- What a statement that passes 4 to 7 has for its body: an entity b below E, and for a two-role kind the body of its roles.
use mathlib.Core.Path.{◌≡◌, refl, subst}
use mathlib.Core.Bool.{Bool, ◌&&◌, ◌||◌, not}
use mathlib.Core.List.{List}
use Prim.Native.Nat.{ℕ, ◌≤◌, ◌<◌}
use native.Mathlib.Omega.{arith}
use lib.Dec.{T, ltb, ltb→lt}
use Rattle.meaning.specs.Lists.{all}
use Rattle.meaning.proofs.Tests.{and_left, and_right}
use Rattle.file.specs.Format.{role_of, joined_of, body_of, E, R, field}
use Rattle.file.specs.Reading.{uses}
use Rattle.file.specs.Values.{used_by}
use Rattle.file.proofs.Uses.{by_kind, ranged-kind}
use Rattle.file.proofs.Faults.{Passed}

-- every kind uses b
used-b : (k : ℕ) → k ≤ 5 → (p q : ℕ → Bool) → T (all p (uses k).entities && all q (uses k).names) → T (p 3)
used-b k h p q t =
    let c : Bool = not (used_by k).c || p 5 in
    let u : T (p 1 && p 3 && c) = and_left (p 1 && p 3 && c) (q 2 && (not (used_by k).s || q 4) && (not (used_by k).t || q 6)) (subst T (ranged-kind k h p q) t) in
    and_right (p 1) (p 3) (and_left (p 1 && p 3) c u)

pub passed_b : (f : List ℕ) (i : ℕ) → Passed f i → field f i 3 < E f
passed_b f i p =
    ltb→lt (field f i 3) (E f) (used-b (field f i 0) p.kind (λ j. ltb (field f i j) (E f)) (λ j. ltb (field f i j) (R f)) p.ranged)

-- the body of a two-role kind is that of its roles
pub joined-body : (b s c t k : ℕ) → k ≤ 5 → 3 ≤ k → body_of k b s c t ≡ joined_of k (role_of b s) (role_of c t)
joined-body b s c t =
    by_kind (λ k. 3 ≤ k → body_of k b s c t ≡ joined_of k (role_of b s) (role_of c t))
    (λ h. absurd (omega arith)) (λ h. absurd (omega arith)) (λ h. absurd (omega arith)) (λ h. refl) (λ h. refl) (λ h. refl)

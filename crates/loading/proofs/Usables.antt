-- The uses of a statement, by its first premise and by its second; they are within the format's numbers.
use mathlib.Core.Path.{◌≡◌, refl, subst⁻¹}
use mathlib.Core.Logic.{◌⊎◌, inl, inr, ◌↔◌}
use mathlib.Core.Bool.{Bool, true, false}
use mathlib.Core.List.{List}
use Prim.Native.Nat.{ℕ, ◌+◌, ◌≤◌, ◌<◌}
use native.Mathlib.Omega.{arith}
use lib.Dec.{eqb}
use Rattle.meaning.specs.Lists.{if}
use Rattle.file.proofs.Uses.{by_kind}
use Rattle.policy.specs.declared.Statement.{Statement}
use Rattle.policy.specs.Policy.{credential_of, Decoded, statement_in, body_by, body_of}
use Rattle.store.proofs.Chains.{equal_or_not}
use Rattle.rules.specs.declared.Use.{Use}
use Rattle.rules.specs.Uses.{use_of, UsedBy, UsedAs, Proper}
use Rattle.loading.specs.Steps.{InFormat, first_use, second_use}

-- ---- by the kind

same : {A : Type 0} → A ↔ A
same = ((λ x. x), λ x. x)

module _ (X Bs Ct Ar : ℕ) (u : Use) where
  pub set-unused : (k : ℕ) → k ≡ 0 → (second : Bool) → UsedAs second (body_by k X Bs Ct) Ar u → ⊥
  set-unused k e = subst⁻¹ (λ (x : ℕ). (second : Bool) → UsedAs second (body_by x X Bs Ct) Ar u → ⊥) e go
    where
      go : (second : Bool) → UsedAs second (body_by 0 X Bs Ct) Ar u → ⊥
      go false x = x
      go true x = x

  pub role-once : (k : ℕ) → k ≡ 1 → UsedAs true (body_by k X Bs Ct) Ar u → ⊥
  role-once k e = subst⁻¹ (λ (x : ℕ). UsedAs true (body_by x X Bs Ct) Ar u → ⊥) e (λ x. x)

  pub first-used : (k : ℕ) → k ≤ 5 → (k ≡ 0 → ⊥) → UsedAs false (body_by k X Bs Ct) Ar u ↔ (u ≡ use_of Bs k (if (eqb k 1) 0 Ct) Ar)
  first-used =
      by_kind (λ k. (k ≡ 0 → ⊥) → UsedAs false (body_by k X Bs Ct) Ar u ↔ (u ≡ use_of Bs k (if (eqb k 1) 0 Ct) Ar))
      (λ z. absurd (z refl)) (λ _. same) (λ _. same) (λ _. same) (λ _. same) (λ _. same)

  pub second-used : (k : ℕ) → k ≤ 5 → (k ≡ 0 → ⊥) → (k ≡ 1 → ⊥) → UsedAs true (body_by k X Bs Ct) Ar u ↔ (u ≡ use_of (if (eqb k 2) (1024 + Ct) Ct) k Bs Ar)
  second-used =
      by_kind (λ k. (k ≡ 0 → ⊥) → (k ≡ 1 → ⊥) → UsedAs true (body_by k X Bs Ct) Ar u ↔ (u ≡ use_of (if (eqb k 2) (1024 + Ct) Ct) k Bs Ar))
      (λ z _. absurd (z refl)) (λ _ z. absurd (z refl)) (λ _ _. same) (λ _ _. same) (λ _ _. same) (λ _ _. same)

-- ---- within the format's numbers

-- a role as premise
proper-role : (family kind other Ar : ℕ) → family < 1024 → 1 ≤ kind → kind ≤ 5 → (kind ≡ 2 → other < 32) → other < 1024 → Ar < 1024 → Proper (use_of family kind other Ar)
proper-role family kind other Ar f l k t o a =
    record {
      fitting = record { family = omega arith; kind = omega arith; other = o; head = a };
      kind = (l, k);
      named = λ h. absurd (omega arith);
      name = λ e _. t e;
    }

-- the second premise of a link
proper-link : (t Bs Ar : ℕ) → t < 32 → Bs < 1024 → Ar < 1024 → Proper (use_of (1024 + t) 2 Bs Ar)
proper-link t Bs Ar h b a =
    record {
      fitting = record { family = omega arith; kind = omega arith; other = b; head = a };
      kind = (omega arith, omega arith);
      named = λ _. refl;
      name = λ _ l. absurd (omega arith);
    }

if-below : (b : Bool) (x m : ℕ) → x < m → if b 0 x < m
if-below true x m l = omega arith
if-below false x m l = l

module _ (s : Statement) (h : InFormat s) (some : s.kind ≡ 0 → ⊥) where
  pub first-proper : Proper (first_use s)
  first-proper =
      proper-role s.first s.kind (if (eqb s.kind 1) 0 s.second) s.head (h.first some) (omega arith) h.kind
      (λ e. if-below (eqb s.kind 1) s.second 32 (h.name e)) (if-below (eqb s.kind 1) s.second 1024 h.second) h.head

  pub second-proper : (s.kind ≡ 1 → ⊥) → Proper (second_use s)
  second-proper two =
      by_kind (λ k. (k ≡ 0 → ⊥) → (k ≡ 1 → ⊥) → (k ≡ 2 → Ct < 32) → Proper (use_of (if (eqb k 2) (1024 + Ct) Ct) k Bs Ar))
      (λ z _ _. absurd (z refl)) (λ _ z _. absurd (z refl)) (λ _ _ t. proper-link Ct Bs Ar (t refl) (h.first some) h.head) (λ _ _ _. pair 3 (omega arith) (omega arith))
      (λ _ _ _. pair 4 (omega arith) (omega arith)) (λ _ _ _. pair 5 (omega arith) (omega arith)) s.kind h.kind some two h.name
    where
      Bs : ℕ
      Bs = s.first

      Ct : ℕ
      Ct = s.second

      Ar : ℕ
      Ar = s.head

      pair : (k : ℕ) → 3 ≤ k → k ≤ 5 → Proper (use_of Ct k Bs Ar)
      pair k l m = proper-role Ct k Bs Ar h.second (omega arith) m (λ e. absurd (omega arith)) (h.first some) h.head

-- every use of a statement
pub stated-proper : (s : Statement) → InFormat s → (u : Use) → UsedBy (body_of s) s.head u → Proper u
stated-proper s h u x = go x (equal_or_not s.kind 0) (equal_or_not s.kind 1)
  where
    go : UsedBy (body_of s) s.head u → (s.kind ≡ 0) ⊎ (s.kind ≡ 0 → ⊥) → (s.kind ≡ 1) ⊎ (s.kind ≡ 1 → ⊥) → Proper u
    go (b, y) (inl e) _ = absurd (set-unused s.set s.first s.second s.head u s.kind e b y)
    go (false, y) (inr some) _ = subst⁻¹ Proper ((first-used s.set s.first s.second s.head u s.kind h.kind some).0 y) (first-proper s h some)
    go (true, y) (inr some) (inl e) = absurd (role-once s.set s.first s.second s.head u s.kind e y)
    go (true, y) (inr some) (inr two) = subst⁻¹ Proper ((second-used s.set s.first s.second s.head u s.kind h.kind some two).0 y) (second-proper s h some two)

-- of a policy
module _ {p : List ℕ} {n : ℕ} (d : Decoded p n) (i : ℕ) (l : i < n) where
  pub decoded-stated : InFormat (statement_in p i)
  decoded-stated = let f = d.fits i l in record { kind = f.kind; head = omega arith; first = f.first; second = omega arith; name = f.name }

  pub decoded-proper : (u : Use) → UsedBy (credential_of p i).statement.body (credential_of p i).statement.head u → Proper u
  decoded-proper = stated-proper (statement_in p i) decoded-stated

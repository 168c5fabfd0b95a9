-- Statements of one span: every entry has it, and what they give from done entries is found.
use mathlib.Core.Path.{◌≡◌, refl, subst, subst⁻¹}
use mathlib.Core.Logic.{◌⊎◌, inl, inr}
use mathlib.Core.List.{List}
use Prim.Native.Nat.{ℕ, zero, suc, ◌^◌, ◌<◌}
use native.Mathlib.Omega.{arith}
use lib.ListN.{get_or}
use Rattle.meaning.specs.Credentials.{Statement}
use Rattle.meaning.specs.Sequence.{S}
use Rattle.meaning.specs.Table.{bit}
use Rattle.store.specs.Entries.{role_in}
use Rattle.store.proofs.Chains.{equal_or_not}
use Rattle.store.proofs.Keys.{set_below}
use Rattle.heads.proofs.Gaining.{some-bit}
use Rattle.closure.specs.Closure.{Found, Closed}
use Rattle.premises.specs.Combining.{Keyed}
use Rattle.levels.specs.Levels.{OneSpan}

module _ {ss : ℕ → List Statement} (one : OneSpan ss) where
  given-none : (s k Ar X : ℕ) → (s ≡ 0 → ⊥) → S (ss s) k Ar X → ⊥
  given-none s zero Ar X ne w = w
  given-none s (suc k) Ar X ne w = one s ne w.0 w.1

  pub has_span : {keys spans done : List ℕ} {n : ℕ} → Closed ss keys spans done n → (i : ℕ) → i < n → (get_or spans i 0 ≡ 0 → ⊥) → bit (get_or spans i 0) 0 ≡ 1
  has_span {keys} {spans} c i l nz = let b = some-bit (get_or spans i 0) nz in go b.0 b.1 (equal_or_not b.0 0)
    where
      go : (s : ℕ) → bit (get_or spans i 0) s ≡ 1 → (s ≡ 0) ⊎ (s ≡ 0 → ⊥) → bit (get_or spans i 0) 0 ≡ 1
      go s b (inl q) = subst (λ (x : ℕ). bit (get_or spans i 0) x ≡ 1) q b
      go s b (inr ne) = let g = c.sound (get_or keys i 0) s (i, l, refl, b) in absurd (given-none s g.0 _ _ ne g.1)

-- the membership of an entry that is done in the span
pub keyed-found : (keys done : List ℕ) {n : ℕ} (i s : ℕ) → i < n → role_in (get_or keys i 0) < 1024 → bit (get_or done i 0) s ≡ 1 → (Ar X : ℕ) → Keyed (get_or keys i 0) Ar X → Found keys done n s Ar X
keyed-found keys done i s l low b Ar X (r, x) =
    (subst (λ (y : ℕ). y < 1024) r low, subst⁻¹ (λ (y : ℕ). y < 2 ^ 32) x (set_below (get_or keys i 0)), (i, l, omega arith, b))

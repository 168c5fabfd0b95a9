-- Each membership has a least level and a proof of exactly that level; `least_level` computes it.
use mathlib.Core.Path.{◌≡◌, refl, subst, subst⁻¹}
use mathlib.Core.Logic.{◌↔◌}
use mathlib.Core.Bool.{Bool, true, false}
use mathlib.Core.List.{List}
use Prim.Native.Nat.{ℕ, zero, suc, ◌+◌, ◌^◌, ◌<◌, ◌≤◌}
use native.Mathlib.Nat.{le_antisymm, lt_of_not-le, le_of_suc-le-suc}
use native.Mathlib.Omega.{arith}
use lib.Dec.{T}
use lib.ListN.{length}
use Rattle.meaning.specs.Credentials.{Statement, Credential, valid_at, Fits}
use Rattle.meaning.specs.Rules.{Derivable}
use Rattle.meaning.specs.Sequence.{S, Least}
use Rattle.meaning.specs.Members.{member, has, level, closure, least_from, least_level}
use Rattle.meaning.specs.Proofs.{Step, Proof, Provable}
use Rattle.meaning.proofs.OrderLaws.{has_in, has-out}
use Rattle.meaning.proofs.Levels.{level_in, level_out}
use Rattle.meaning.proofs.Derivations.{S-up, sound, complete}
use Rattle.meaning.proofs.Fixpoint.{least-level, closure-all, closure-length}
use Rattle.meaning.proofs.Steps.{proof-sound}
use Rattle.meaning.proofs.Proofs.{proof-exists}

module _ (ss : List Statement) where
  -- absent from the list of a level, absent from it and from all below
  absent : (k Ar X : ℕ) → has (member Ar X) (level ss k) ≡ false → (j : ℕ) → j ≤ k → ¬ S ss j Ar X
  absent k Ar X e j l s = subst T e (has_in (member Ar X) (level_in ss k (S-up ss l Ar X s)))

  pub find-least : (k Ar X : ℕ) → S ss k Ar X → (j : ℕ) × Least ss j Ar X
  find-least zero Ar X h = absurd h
  find-least (suc k) Ar X h = go (has (member Ar X) (level ss k)) refl (find-least k Ar X)
    where
      go : (b : Bool) → has (member Ar X) (level ss k) ≡ b → (S ss k Ar X → (j : ℕ) × Least ss j Ar X) → (j : ℕ) × Least ss j Ar X
      go true e rec = rec (level_out ss k (has-out (member Ar X) (level ss k) (subst⁻¹ T e tt)))
      go false e rec = (suc k, (h, λ j l. absent k Ar X e j (le_of_suc-le-suc l)))

  pub least-below : {k j Ar X : ℕ} → Least ss k Ar X → S ss j Ar X → k ≤ j
  least-below {k} {j} l s = le_of_suc-le-suc (lt_of_not-le (λ h. l.1 j h s))

  -- counting up from a level at or below the least one finds it
  count-up : (n k j Ar X : ℕ) → Least ss k Ar X → j ≤ k → k < n + j → least_from ss (member Ar X) n j (level ss j) ≡ k
  count-up zero k j Ar X l h g = absurd (omega arith)
  count-up (suc n) k j Ar X l h g = go (has (member Ar X) (level ss j)) refl (λ i. count-up n k (suc j) Ar X l i (omega arith))
    where
      go : (b : Bool) → has (member Ar X) (level ss j) ≡ b → (suc j ≤ k → least_from ss (member Ar X) n (suc j) (level ss (suc j)) ≡ k)
          → elim b as (λ x. ℕ) [ true ↦ j | false ↦ least_from ss (member Ar X) n (suc j) (level ss (suc j)) ] ≡ k
      go true e rec = le_antisymm h (least-below l (level_out ss j (has-out (member Ar X) (level ss j) (subst⁻¹ T e tt))))
      go false e rec = rec (lt_of_not-le (λ i. absent j Ar X e k i l.0))

module _ (cs : List Credential) (m : ℕ) where
  abbrev ss : List Statement
  ss = valid_at cs m

  pub least-proof : {k Ar X : ℕ} → Least ss k Ar X → (us : List Step) × Proof cs m Ar X k us
  least-proof {k} {Ar} {X} l =
      let r = proof-exists cs m k Ar X l.0 in
      let e : r.1 ≡ k = le_antisymm r.3 (least-below ss l (proof-sound cs m r.2)) in
      (r.0, subst (λ (j : ℕ). Proof cs m Ar X j r.0) e r.2)

  -- no proof has a lower level
  pub proof-bound : {k j Ar X : ℕ} {us : List Step} → Least ss k Ar X → Proof cs m Ar X j us → k ≤ j
  proof-bound l p = least-below ss l (proof-sound cs m p)

  pub provable-derivable : {Ar X : ℕ} → Provable cs m Ar X ↔ Derivable cs m Ar X
  provable-derivable {Ar} {X} = ((λ p. complete cs m p.0 Ar X (proof-sound cs m p.2)), back)
    where
      back : Derivable cs m Ar X → Provable cs m Ar X
      back d = let s = sound cs m d in let r = proof-exists cs m s.0 Ar X s.1 in (r.1, r.0, r.2)

  module _ (w : Fits ss) where
    -- the level that `least_level` counts is the least of any proof
    pub least-counted : {Ar X : ℕ} → Provable cs m Ar X → Least ss (least_level cs m (member Ar X)) Ar X
    unfolding least_level
    least-counted {Ar} {X} (k, us, p) =
        let l = find-least ss k Ar X (proof-sound cs m p) in
        let b : l.0 ≤ length (closure ss) = least-level ss (closure ss) (closure-all ss w) l.1 in
        let g : length (closure ss) ≤ 2 ^ 42 = closure-length ss w in
        subst⁻¹ (λ (j : ℕ). Least ss j Ar X) (count-up ss (2 ^ 42 + 1) l.0 0 Ar X l.1 (omega arith) (omega arith)) l.1

-- What the calls for one credential's uses come to, by its statement.
use mathlib.Core.Path.{◌≡◌, sym, ap, ◌∙◌, subst}
use mathlib.Core.Logic.{◌⊎◌, inl, inr, ◌↔◌}
use mathlib.Core.Bool.{true, false}
use mathlib.Core.List.{List}
use Prim.Native.Nat.{ℕ, ◌+◌}
use native.Mathlib.Nat.{le_refl}
use native.Mathlib.Omega.{arith}
use Rattle.meaning.specs.Table.{bit}
use Rattle.meaning.proofs.Bits.{bit-of-zero}
use Rattle.policy.specs.declared.Statement.{Statement}
use Rattle.policy.specs.Policy.{credential_of, statement_in, body_of}
use Rattle.rules.specs.declared.Use.{Use}
use Rattle.rules.specs.Uses.{UsedAs}
use Rattle.masks.specs.Masks.{Masked}
use Rattle.loading.specs.Steps.{InFormat, first_use, second_use, Room, UsesAdded, BodyUses, UseOf}
use Rattle.loading.proofs.Usables.{set-unused, role-once, first-used, second-used}
use Rattle.loading.proofs.Adding.{OneUse, none-added, both-added, uses-same}

-- ---- a statement's uses in the spans v

module _ (s : Statement) (h : InFormat s) (some : s.kind ≡ 0 → ⊥) (v i : ℕ) where
  abbrev First : Use → ℕ → ℕ → Type 0
  First = OneUse (first_use s) v i

  first-is : (u : Use) → UsedAs false (body_of s) s.head u ↔ (u ≡ first_use s)
  first-is u = first-used s.set s.first s.second s.head u s.kind h.kind some

  -- a role has one use
  pub one-used : s.kind ≡ 1 → {codes valid lists codes' valid' lists' : List ℕ} → UsesAdded 1 First codes valid lists codes' valid' lists' → UsesAdded 2 (BodyUses (body_of s) s.head v i) codes valid lists codes' valid' lists'
  one-used k a = uses-same a (omega arith) (λ w t o. ((λ x. (x.1, (false, (first-is w).1 x.0, x.2))), back w t o))
    where
      back : (w : Use) (t o : ℕ) → BodyUses (body_of s) s.head v i w t o → First w t o
      back w t o (b, (false, x, e)) = ((first-is w).0 x, b, e)
      back w t o (b, (true, x, e)) = absurd (role-once s.set s.first s.second s.head w s.kind k x)

  -- every other kind has two
  module _ (two : s.kind ≡ 1 → ⊥) where
    abbrev Second : Use → ℕ → ℕ → Type 0
    Second = OneUse (second_use s) v (i + 256)

    second_is : (u : Use) → UsedAs true (body_of s) s.head u ↔ (u ≡ second_use s)
    second_is u = second-used s.set s.first s.second s.head u s.kind h.kind some two

    pub two-used : {codes valid lists codes' valid' lists' codes'' valid'' lists'' : List ℕ} → UsesAdded 1 First codes valid lists codes' valid' lists' → UsesAdded 1 Second codes' valid' lists' codes'' valid'' lists'' → UsesAdded 2 (BodyUses (body_of s) s.head v i) codes valid lists codes'' valid'' lists''
    two-used a d = uses-same (both-added a d) (le_refl 2) (λ w t o. (to w t o, back w t o))
      where
        to : (w : Use) (t o : ℕ) → First w t o ⊎ Second w t o → BodyUses (body_of s) s.head v i w t o
        to w t o (inl (x, b, e)) = (b, (false, (first-is w).1 x, e))
        to w t o (inr (x, b, e)) = (b, (true, (second_is w).1 x, e))

        back : (w : Use) (t o : ℕ) → BodyUses (body_of s) s.head v i w t o → First w t o ⊎ Second w t o
        back w t o (b, (false, x, e)) = inl ((first-is w).0 x, b, e)
        back w t o (b, (true, x, e)) = inr ((second_is w).0 x, b, e)

-- ---- the credential at position i of a policy

module _ (p : List ℕ) (i : ℕ) (es : List ℕ) (count : ℕ) {codes valid lists : List ℕ} where
  -- a set has no uses
  pub set-added : {s : Statement} → s ≡ statement_in p i → s.kind ≡ 0 → Room 2 codes valid lists → UsesAdded 2 (UseOf es count i (credential_of p i)) codes valid lists codes valid lists
  set-added q k r =
      let t = statement_in p i in
      let e : t.kind ≡ 0 = sym (ap (λ (x : Statement). x.kind) q) ∙ k in
      none-added r (λ w s o x. set-unused t.set t.first t.second t.head w t.kind e x.1.0 x.1.1)

  module _ (v : ℕ) (m : Masked es count (credential_of p i).period v) where
    -- nor has a credential that is valid in no span
    pub invalid-added : v ≡ 0 → Room 2 codes valid lists → UsesAdded 2 (UseOf es count i (credential_of p i)) codes valid lists codes valid lists
    invalid-added z r = none-added r (λ w s o x. let e = (m s).1 x.0 in let f = ap (λ (y : ℕ). bit y s) z ∙ bit-of-zero s in omega arith)

    pub valid-added : {s : Statement} → s ≡ statement_in p i → {codes' valid' lists' : List ℕ} → UsesAdded 2 (BodyUses (body_of s) s.head v i) codes valid lists codes' valid' lists' → UsesAdded 2 (UseOf es count i (credential_of p i)) codes valid lists codes' valid' lists'
    valid-added q {codes'} {valid'} {lists'} a =
        uses-same (subst (λ (s : Statement). UsesAdded 2 (BodyUses (body_of s) s.head v i) codes valid lists codes' valid' lists') q a) (le_refl 2)
        (λ w s o. ((λ x. ((m s).0 x.0, x.1)), λ x. ((m s).1 x.0, x.1)))

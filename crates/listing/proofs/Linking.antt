-- One item more in lists that stand in an array: `linked`, where `prev` and `last` begin anywhere.
--
use mathlib.Core.Path.{◌≡◌, ◌∙◌}
use mathlib.Core.List.{List}
use Prim.Native.Nat.{ℕ, suc, ◌+◌, ◌≤◌, ◌<◌}
use native.Mathlib.Numerals.{add-one}
use native.Mathlib.Omega.{arith}
use lib.ListN.{length, get_or, set, length-set}
use lib.Seq.{get_or-set_same, get_or-set_other}
use Rattle.store.specs.Entries.{Chained}
use Rattle.store.proofs.Chains.{chained-push}
use Rattle.listing.specs.Places.{linked}

module _ (lists : List ℕ) (prev last n f : ℕ) where
  former : List ℕ
  former = set lists (prev + n) (get_or lists (last + f) 0)

  pub linked-length : length (linked lists prev last n f) ≡ length lists
  linked-length = simp length-set

  pub linked-other : (p : ℕ) → (p ≡ prev + n → ⊥) → (p ≡ last + f → ⊥) → get_or (linked lists prev last n f) p 0 ≡ get_or lists p 0
  unfolding former
  linked-other p a b = get_or-set_other former (last + f) p (n + 1) 0 b ∙ get_or-set_other lists (prev + n) p (get_or lists (last + f) 0) 0 a

  pub linked-last : last + f < length lists → get_or (linked lists prev last n f) (last + f) 0 ≡ suc n
  unfolding former
  linked-last h = get_or-set_same former (last + f) (n + 1) 0 (simp length-set h) ∙ add-one n

  pub linked-prev : prev + n < length lists → (prev + n ≡ last + f → ⊥) → get_or (linked lists prev last n f) (prev + n) 0 ≡ get_or lists (last + f) 0
  unfolding former
  linked-prev h a = get_or-set_other former (last + f) (prev + n) (n + 1) 0 a ∙ get_or-set_same lists (prev + n) (get_or lists (last + f) 0) 0 h

-- `prev` of n + 1 items stands before `last` of the families
pub linked-chained : {family : ℕ → ℕ} {families n : ℕ} (lists : List ℕ) (prev last f : ℕ) (family' : ℕ → ℕ)
    → Chained family families n (λ r. get_or lists (last + r) 0) (λ i. get_or lists (prev + i) 0)
    → ((i : ℕ) → i < n → family' i ≡ family i) → family' n ≡ f → f < families → prev + n < last → last + families ≤ length lists
    → Chained family' families (suc n) (λ r. get_or (linked lists prev last n f) (last + r) 0) (λ i. get_or (linked lists prev last n f) (prev + i) 0)
linked-chained {family} {families} {n} lists prev last f family' h same e low apart room =
    chained-push family' (λ r. get_or (linked lists prev last n f) (last + r) 0) (λ i. get_or (linked lists prev last n f) (prev + i) 0) f h same e low
    (linked-last lists prev last n f (omega arith))
    (λ r l ne. linked-other lists prev last n f (last + r) (λ q. omega arith) (λ q. ne (omega arith)))
    (linked-prev lists prev last n f (omega arith) (λ q. omega arith))
    (λ i l. linked-other lists prev last n f (prev + i) (λ q. omega arith) (λ q. omega arith))

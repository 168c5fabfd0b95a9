-- The marked entries in ascending order: an entry's number is its place among them.
use mathlib.Core.Path.{◌≡◌, refl, sym, ap, ◌∙◌, subst, subst⁻¹}
use mathlib.Core.Bool.{Bool, true, false}
use mathlib.Core.Logic.{◌⊎◌, inl, inr}
use mathlib.Core.List.{List, [], ◌∷◌, ◌++◌, append-nil}
use Prim.Native.Nat.{ℕ, zero, suc, ◌≤◌, ◌<◌}
use native.Mathlib.Omega.{arith}
use borrow.Author.Tests.{lt-ltb, le-ltb, ltb-true, ltb-false}
use lib.Dec.{ltb}
use lib.ListN.{length, get_or, length-append, get_or-append}
use lib.Seq.{get_or-append_seam}
use Rattle.store.proofs.Chains.{last-or-below}
use Rattle.answering.specs.Steps.{kept, number}

-- below the length a further element changes nothing
get_d-before : (l r : List ℕ) (p : ℕ) → p < length l → get_or (l ++ r) p 0 ≡ get_or l p 0
get_d-before l r p h = get_or-append l r 0 p h

module _ (marks : List ℕ) where
  -- entry i is marked or not
  pub marked-or-not : (i : ℕ) → (0 < get_or marks i 0) ⊎ (get_or marks i 0 ≤ 0)
  marked-or-not i = go (ltb 0 (get_or marks i 0)) refl
    where
      go : (t : Bool) → ltb 0 (get_or marks i 0) ≡ t → (0 < get_or marks i 0) ⊎ (get_or marks i 0 ≤ 0)
      go true e = inl (ltb-true 0 (get_or marks i 0) e)
      go false e = inr (ltb-false 0 (get_or marks i 0) e)

  pub kept_more : (i : ℕ) → 0 < get_or marks i 0 → kept marks (suc i) ≡ kept marks i ++ i ∷ []
  kept_more i h = rw (lt-ltb 0 (get_or marks i 0) h)

  pub kept_same : (i : ℕ) → get_or marks i 0 ≤ 0 → kept marks (suc i) ≡ kept marks i
  kept_same i h = rw (le-ltb 0 (get_or marks i 0) h) (append-nil (kept marks i))

  pub number_more : (i : ℕ) → 0 < get_or marks i 0 → number marks (suc i) ≡ suc (number marks i)
  number_more i h = let e = ap length (kept_more i h) ∙ length-append (kept marks i) (i ∷ []) in omega arith

  number-next : (i : ℕ) → (number marks i ≤ number marks (suc i)) × (number marks (suc i) ≤ suc (number marks i))
  number-next i = go (marked-or-not i)
    where
      go : (0 < get_or marks i 0) ⊎ (get_or marks i 0 ≤ 0) → (number marks i ≤ number marks (suc i)) × (number marks (suc i) ≤ suc (number marks i))
      go (inl h) = let e = number_more i h in (omega arith, omega arith)
      go (inr h) = let e = ap length (kept_same i h) in (omega arith, omega arith)

  pub number_fits : (i : ℕ) → number marks i ≤ i
  number_fits zero = omega arith
  number_fits (suc i) = omega (arith, number_fits i, number-next i)

  -- a marked entry has its number, and the number its entry
  module _ (f : ℕ) (h : 0 < get_or marks f 0) where
    pub number-below : (i : ℕ) → f < i → number marks f < number marks i
    number-below zero l = absurd (omega arith)
    number-below (suc i) l = go (number-below i) (last-or-below l)
      where
        go : (f < i → number marks f < number marks i) → (f ≡ i) ⊎ (f < i) → number marks f < number marks (suc i)
        go before (inl e) = omega (arith, number_more f h, ap (λ (j : ℕ). number marks (suc j)) e)
        go before (inr l) = omega (arith, before l, number-next i)

    pub entry-at-number : (i : ℕ) → f < i → get_or (kept marks i) (number marks f) 0 ≡ f
    entry-at-number zero l = absurd (omega arith)
    entry-at-number (suc i) l = go (entry-at-number i) (last-or-below l)
      where
        go : (f < i → get_or (kept marks i) (number marks f) 0 ≡ f) → (f ≡ i) ⊎ (f < i) → get_or (kept marks (suc i)) (number marks f) 0 ≡ f
        go before (inl e) =
            ap (λ (j : ℕ). get_or (kept marks (suc j)) (number marks f) 0) (sym e) ∙ ap (λ (l : List ℕ). get_or l (number marks f) 0) (kept_more f h)
            ∙ get_or-append_seam (kept marks f) f [] 0
        go before (inr l) = get_d-before (kept marks i) _ (number marks f) (number-below i l) ∙ before l

  -- what stands at place p
  pub record At (i p j : ℕ) : Type 0 where
    pub below : j < i
    pub marked : 0 < get_or marks j 0
    pub numbered : number marks j ≡ p

  pub at_place : (i p : ℕ) → p < number marks i → At i p (get_or (kept marks i) p 0)
  at_place zero p l = absurd (omega arith)
  at_place (suc i) p l = go (at_place i p) (marked-or-not i)
    where
      old : (p < number marks i → At i p (get_or (kept marks i) p 0)) → p < number marks i → At (suc i) p (get_or (kept marks (suc i)) p 0)
      old before l =
          let a = before l in
          subst⁻¹ (At (suc i) p) (get_d-before (kept marks i) _ p l) (record { below = omega (arith, a.below); marked = a.marked; numbered = a.numbered })

      last : 0 < get_or marks i 0 → p ≡ number marks i → At (suc i) p (get_or (kept marks (suc i)) p 0)
      last h e =
          subst⁻¹ (At (suc i) p) (ap (λ (q : ℕ). get_or (kept marks (suc i)) q 0) e ∙ entry-at-number i h (suc i) (omega arith))
          (record { below = omega arith; marked = h; numbered = sym e })

      either : (p < number marks i → At i p (get_or (kept marks i) p 0)) → 0 < get_or marks i 0 → (p ≡ number marks i) ⊎ (p < number marks i) → At (suc i) p (get_or (kept marks (suc i)) p 0)
      either before h (inl e) = last h e
      either before h (inr l) = old before l

      go : (p < number marks i → At i p (get_or (kept marks i) p 0)) → (0 < get_or marks i 0) ⊎ (get_or marks i 0 ≤ 0) → At (suc i) p (get_or (kept marks (suc i)) p 0)
      go before (inl h) = either before h (last-or-below (subst (λ (n : ℕ). p < n) (number_more i h) l))
      go before (inr h) = old before (subst (λ (n : ℕ). p < n) (ap length (kept_same i h)) l)

-- The lists of uses can be searched.
use mathlib.Core.Path.{ap, ◌∙◌, subst⁻¹}
use mathlib.Core.List.{List}
use Prim.Native.Nat.{ℕ, ◌+◌, ◌≤◌, ◌<◌}
use native.Mathlib.Nat.{zero-add}
use native.Mathlib.Omega.{arith}
use lib.ListN.{get_or}
use Rattle.store.proofs.Chains.{latest-below}
use Rattle.rules.specs.Uses.{family_of, body_of_head, bodies_in, heads_in, Listed}
use Rattle.listing.specs.Places.{ItemList}

module _ {codes valid lists : List ℕ} (l : Listed codes valid lists) where
  pub last-body : (f : ℕ) → f < 1056 → get_or lists (512 + f) 0 ≤ bodies_in lists
  last-body f k = subst⁻¹ (λ (x : ℕ). x ≤ bodies_in lists) (l.by_family.lasts f k) (latest-below (family_of codes) f (bodies_in lists))

  pub last-head : (body : ℕ) → body < 512 → get_or lists (2080 + body) 0 ≤ heads_in lists
  last-head body k = subst⁻¹ (λ (x : ℕ). x ≤ heads_in lists) (l.by_body.lasts body k) (latest-below (body_of_head codes) body (heads_in lists))

  pub body-list : (f : ℕ) → f < 1056 → ItemList lists 0 0 (get_or lists (512 + f) 0)
  body-list f k =
      let w = last-body f k in
      record {
        coded = omega arith;
        placed = omega arith;
        lower = λ i j.
            subst⁻¹ (λ (x : ℕ). x ≤ i) (ap (λ (x : ℕ). get_or lists x 0) (zero-add i) ∙ l.by_family.prevs i (omega arith))
            (latest-below (family_of codes) (family_of codes i) i);
      }

  pub head-list : (body : ℕ) → body < 512 → ItemList lists 512 1568 (get_or lists (2080 + body) 0)
  head-list body k =
      let w = last-head body k in
      record {
        coded = omega arith;
        placed = omega arith;
        lower = λ i j.
            subst⁻¹ (λ (x : ℕ). x ≤ i) (l.by_body.prevs i (omega arith))
            (latest-below (body_of_head codes) (body_of_head codes i) i);
      }

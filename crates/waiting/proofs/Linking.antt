-- Lists by role: the entry before one in its list, and what the entries passed give.
use mathlib.Core.Path.{◌≡◌, sym, ap, ◌∙◌, subst}
use mathlib.Core.Logic.{◌⊎◌, inl, inr}
use mathlib.Core.List.{List}
use Prim.Native.Nat.{ℕ, ◌-◌, ◌≤◌, ◌<◌}
use native.Mathlib.Omega.{arith}
use lib.ListN.{get_or}
use Rattle.store.specs.Entries.{Stored}
use Rattle.store.proofs.Chains.{equal_or_not, latest-some, latest-none}
use Rattle.heads.specs.Gaining.{Spanned}
use Rattle.heads.specs.Walks.{On, From}
use Rattle.waiting.specs.Pairs.{role_of}
use Rattle.waiting.specs.Waiting.{RoleLists}

pub stored-lists : {keys slots links : List ℕ} {n : ℕ} → Stored keys slots links n → RoleLists keys links n
stored-lists {keys} {links = links} st i l =
    let e = st.chained.prevs i l in
    (λ nz. latest-some (role_of keys) (role_of keys i) i (get_or links i 0 - 1) (sym e ∙ omega arith), λ j a b. latest-none (role_of keys) (role_of keys i) i j (omega arith) b)

pub lists-less : (keys links : List ℕ) {n : ℕ} (start : ℕ) → start ≤ n → RoleLists keys links n → RoleLists keys links start
lists-less keys links start l ln i k = ln i (omega arith)

module _ (keys links : List ℕ) {start : ℕ} (ln : RoleLists keys links start) (c d : ℕ) (nz : c ≡ 0 → ⊥) (low : c - 1 < start) (is : d ≡ get_or links (c - 1) 0) where
  -- the place before c comes before it
  pub linked-lower : d < c
  linked-lower = go (equal_or_not d 0)
    where
      go : (d ≡ 0) ⊎ (d ≡ 0 → ⊥) → d < c
      go (inl e) = omega arith
      go (inr ne) = let o = (ln (c - 1) low).0 (λ z. ne (is ∙ z)) in omega (arith, o.0)

  module _ (r : ℕ) (of : role_of keys (c - 1) ≡ r) where
    pub linked_on : On (role_of keys) r start d
    linked_on ne =
        let o = (ln (c - 1) low).0 (λ z. ne (is ∙ z)) in
        let l : d - 1 < start = omega (arith, o.0) in
        (l, ap (λ (x : ℕ). role_of keys (x - 1)) is ∙ o.1 ∙ of)

    -- from the place before c on: from c on, or the entry at c
    module _ (G : ℕ → Spanned) (X s : ℕ) where
      pub from_back : From (role_of keys) r start d G X s → From (role_of keys) r start c G X s ⊎ G (c - 1) X s
      from_back f = go (equal_or_not f.item (c - 1))
        where
          past : f.item < c - 1 → ⊥
          past l = let p = f.past in (ln (c - 1) low).1 f.item (omega arith) l (f.of ∙ sym of)

          go : (f.item ≡ c - 1) ⊎ (f.item ≡ c - 1 → ⊥) → From (role_of keys) r start c G X s ⊎ G (c - 1) X s
          go (inl e) = inr (subst (λ (i : ℕ). G i X s) e f.gives)
          go (inr ne) = inl record { item = f.item; past = omega (arith, past); low = f.low; of = f.of; gives = f.gives }

      pub from-both : From (role_of keys) r start c G X s ⊎ G (c - 1) X s → From (role_of keys) r start d G X s
      from-both (inl f) = let p = f.past in record { item = f.item; past = omega (arith, linked-lower); low = f.low; of = f.of; gives = f.gives }
      from-both (inr g) = record { item = c - 1; past = omega (arith, linked-lower); low = low; of = of; gives = g }

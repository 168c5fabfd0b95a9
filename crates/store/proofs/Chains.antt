-- Lists by family: `latest` and `Chained`, and how an item is pushed.
use mathlib.Core.Path.{◌≡◌, refl, sym, ap, ◌∙◌, subst⁻¹}
use mathlib.Core.Logic.{◌⊎◌, inl, inr}
use mathlib.Core.Bool.{Bool, true, false}
use mathlib.Core.List.{List}
use Prim.Native.Nat.{ℕ, zero, suc, ◌+◌, ◌≤◌, ◌<◌, zero-le}
use native.Mathlib.Nat.{suc_inj, le_refl, le_of_suc-le-suc, not-suc-le-zero, eq-or-lt_of_le}
use native.Mathlib.Omega.{arith}
use borrow.Author.Tests.{eqb-true, eqb-false, eq-eqb, ne_eqb, ltb-true, ltb-false}
use lib.Dec.{eqb, ltb}
use lib.ListN.{length, get_or, set, length-set}
use lib.Seq.{get_or-set_same, get_or-set_other}
use Rattle.store.specs.Entries.{latest, Chained, pushed}

-- below suc n: below n, or n
pub last-or-below : {i n : ℕ} → i < suc n → (i ≡ n) ⊎ (i < n)
last-or-below h = eq-or-lt_of_le (le_of_suc-le-suc h)

-- the family of item n tells what is latest at n + 1
latest-hit : (family : ℕ → ℕ) (r n : ℕ) → family n ≡ r → latest family r (suc n) ≡ suc n
latest-hit family r n e = simp (eq-eqb (family n) r e)

latest-miss : (family : ℕ → ℕ) (r n : ℕ) → (family n ≡ r → ⊥) → latest family r (suc n) ≡ latest family r n
latest-miss family r n ne = simp (ne_eqb (family n) r ne)

-- two numbers are equal or not
pub equal_or_not : (a b : ℕ) → (a ≡ b) ⊎ (a ≡ b → ⊥)
equal_or_not a b = go (eqb a b) refl
  where
    go : (t : Bool) → eqb a b ≡ t → (a ≡ b) ⊎ (a ≡ b → ⊥)
    go true e = inl (eqb-true a b e)
    go false e = inr (eqb-false a b e)

-- below, or not
pub below_or_not : (a b : ℕ) → (a < b) ⊎ (b ≤ a)
below_or_not a b = go (ltb a b) refl
  where
    go : (t : Bool) → ltb a b ≡ t → (a < b) ⊎ (b ≤ a)
    go true e = inl (ltb-true a b e)
    go false e = inr (ltb-false a b e)

module _ (family : ℕ → ℕ) (r : ℕ) where
  pub latest-below : (n : ℕ) → latest family r n ≤ n
  latest-below zero = zero-le
  latest-below (suc n) = go (equal_or_not (family n) r) (latest-below n)
    where
      go : (family n ≡ r) ⊎ (family n ≡ r → ⊥) → latest family r n ≤ n → latest family r (suc n) ≤ suc n
      go (inl e) h = rw (latest-hit family r n e) (le_refl (suc n))
      go (inr ne) h = rw (latest-miss family r n ne) (omega arith)

  -- the latest is of the family
  pub latest-some : (n i : ℕ) → latest family r n ≡ suc i → (i < n) × (family i ≡ r)
  latest-some zero i e = absurd (omega arith)
  latest-some (suc n) i e = go (equal_or_not (family n) r) (latest-some n i)
    where
      go : (family n ≡ r) ⊎ (family n ≡ r → ⊥) → (latest family r n ≡ suc i → (i < n) × (family i ≡ r)) → (i < suc n) × (family i ≡ r)
      go (inl f) rec = let g : i ≡ n = suc_inj (sym e ∙ latest-hit family r n f) in (omega arith, ap family g ∙ f)
      go (inr nf) rec = let h = rec (sym (latest-miss family r n nf) ∙ e) in (omega arith, h.1)

  -- and none of the family comes after it
  pub latest-none : (n i : ℕ) → latest family r n ≤ i → i < n → family i ≡ r → ⊥
  latest-none zero i h l f = not-suc-le-zero l
  latest-none (suc n) i h l f = go (equal_or_not (family n) r) (last-or-below l) (latest-none n i)
    where
      go : (family n ≡ r) ⊎ (family n ≡ r → ⊥) → (i ≡ n) ⊎ (i < n) → (latest family r n ≤ i → i < n → family i ≡ r → ⊥) → ⊥
      go (inl e) w rec = omega (arith, latest-hit family r n e)
      go (inr ne) (inl g) rec = ne (ap family (sym g) ∙ f)
      go (inr ne) (inr g) rec = rec (omega (arith, latest-miss family r n ne)) g f

  pub latest-same : (family' : ℕ → ℕ) (n : ℕ) → ((i : ℕ) → i < n → family' i ≡ family i) → latest family' r n ≡ latest family r n
  latest-same family' zero h = refl
  latest-same family' (suc n) h = go (equal_or_not (family n) r) (latest-same family' n (λ i l. h i (omega arith)))
    where
      same : family' n ≡ family n
      same = h n (omega arith)

      go : (family n ≡ r) ⊎ (family n ≡ r → ⊥) → latest family' r n ≡ latest family r n → latest family' r (suc n) ≡ latest family r (suc n)
      go (inl e) q = latest-hit family' r n (same ∙ e) ∙ sym (latest-hit family r n e)
      go (inr ne) q = latest-miss family' r n (λ e. ne (sym same ∙ e)) ∙ q ∙ sym (latest-miss family r n ne)

-- no items, no lists
pub chained-none : (family : ℕ → ℕ) (families : ℕ) (last prev : ℕ → ℕ) → ((r : ℕ) → r < families → last r ≡ 0) → Chained family families 0 last prev
chained-none family families last prev h = record { lasts = h; prevs = λ i l. absurd (not-suc-le-zero l) }

-- only the families of the first n items, the lasts of the families and the first n prevs count
pub chained_same : {family : ℕ → ℕ} {families n : ℕ} {last prev : ℕ → ℕ} (family' last' prev' : ℕ → ℕ) → Chained family families n last prev → ((i : ℕ) → i < n → family' i ≡ family i) → ((r : ℕ) → r < families → last' r ≡ last r) → ((i : ℕ) → i < n → prev' i ≡ prev i) → Chained family' families n last' prev'
chained_same {family} {n = n} family' last' prev' h f l p =
    record {
      lasts = λ r k. l r k ∙ h.lasts r k ∙ sym (latest-same family r family' n f);
      prevs = λ i k.
          p i k ∙ h.prevs i k ∙ sym (ap (λ (x : ℕ). latest family' x i) (f i k) ∙ latest-same family (family i) family' i (λ j g. f j (omega arith)));
    }

-- item n of the family r is pushed: it is the family's last, and the former last is before it
pub chained-push : {family : ℕ → ℕ} {families n : ℕ} {last prev : ℕ → ℕ} (family' last' prev' : ℕ → ℕ) (r : ℕ) → Chained family families n last prev → ((i : ℕ) → i < n → family' i ≡ family i) → family' n ≡ r → r < families → last' r ≡ suc n → ((s : ℕ) → s < families → (s ≡ r → ⊥) → last' s ≡ last s) → prev' n ≡ last r → ((i : ℕ) → i < n → prev' i ≡ prev i) → Chained family' families (suc n) last' prev'
chained-push {family} {families} {n} {last} {prev} family' last' prev' r h f of low new others first p =
    record { lasts = λ s k. lasts' s k (equal_or_not s r); prevs = λ i k. prevs' i (last-or-below k) }
  where
    lasts' : (s : ℕ) → s < families → (s ≡ r) ⊎ (s ≡ r → ⊥) → last' s ≡ latest family' s (suc n)
    lasts' s k (inl e) = subst⁻¹ (λ (x : ℕ). last' x ≡ latest family' x (suc n)) e (new ∙ sym (latest-hit family' r n of))
    lasts' s k (inr ne) = others s k ne ∙ h.lasts s k ∙ sym (latest-miss family' s n (λ e. ne (sym e ∙ of)) ∙ latest-same family s family' n f)

    prevs' : (i : ℕ) → (i ≡ n) ⊎ (i < n) → prev' i ≡ latest family' (family' i) i
    prevs' i (inl e) = rw (e, of) (first ∙ h.lasts r low ∙ sym (latest-same family r family' n f))
    prevs' i (inr l) = p i l ∙ h.prevs i l ∙ sym (ap (λ (x : ℕ). latest family' x i) (f i l) ∙ latest-same family (family i) family' i (λ j g. f j (omega arith)))

-- the links after item n of the family r
module _ (links : List ℕ) (n r : ℕ) (len : length links ≡ 2048) (few : n < 1024) (low : r < 1024) where
  pub pushed-last : get_or (pushed links n r) (1024 + r) 0 ≡ suc n
  pushed-last =
      let e = get_or-set_same (set links n (get_or links (1024 + r) 0)) (1024 + r) (n + 1) 0 (simp length-set (omega arith)) in
      omega arith

  pub pushed-new : get_or (pushed links n r) n 0 ≡ get_or links (1024 + r) 0
  pushed-new =
      get_or-set_other (set links n (get_or links (1024 + r) 0)) (1024 + r) n (n + 1) 0 (λ e. omega arith)
      ∙ get_or-set_same links n (get_or links (1024 + r) 0) 0 (omega arith)

  pub pushed-other : (q : ℕ) → (q ≡ n → ⊥) → (q ≡ 1024 + r → ⊥) → get_or (pushed links n r) q 0 ≡ get_or links q 0
  pushed-other q ne nf =
      get_or-set_other (set links n (get_or links (1024 + r) 0)) (1024 + r) q (n + 1) 0 nf
      ∙ get_or-set_other links n q (get_or links (1024 + r) 0) 0 ne

  pub linked-push : {family : ℕ → ℕ} (family' : ℕ → ℕ) → Chained family 1024 n (λ s. get_or links (1024 + s) 0) (λ i. get_or links i 0) → ((i : ℕ) → i < n → family' i ≡ family i) → family' n ≡ r → Chained family' 1024 (suc n) (λ s. get_or (pushed links n r) (1024 + s) 0) (λ i. get_or (pushed links n r) i 0)
  linked-push family' h f of =
      chained-push family' (λ s. get_or (pushed links n r) (1024 + s) 0) (λ i. get_or (pushed links n r) i 0) r h f of low pushed-last
      (λ s k ne. pushed-other (1024 + s) (λ e. omega arith) (λ e. ne (omega arith)))
      pushed-new
      (λ i l. pushed-other i (λ e. omega arith) (λ e. omega arith))

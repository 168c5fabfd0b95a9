-- The store for its callers: no key twice, the empty store, and stores that only grow.
use mathlib.Core.Path.{◌≡◌, refl, sym, ◌∙◌, subst}
use mathlib.Core.Logic.{◌⊎◌, inl, inr}
use mathlib.Core.List.{List}
use Prim.Native.Nat.{ℕ, suc, ◌+◌, ◌≤◌, ◌<◌}
use native.Mathlib.Nat.{le_refl, le_trans, not-suc-le-zero, lt_of_lt_of_le}
use native.Mathlib.Omega.{arith}
use lib.ListN.{length, get_or, get_or-eq_default}
use Rattle.meaning.specs.Table.{bit}
use Rattle.store.specs.Entries.{role_in, Has, Stored, Grown}
use Rattle.store.proofs.Chains.{below_or_not, chained-none}
use Rattle.store.proofs.Searches.{distinct}

pub distinct-keys : {keys slots links : List ℕ} {n : ℕ} → Stored keys slots links n → (i j : ℕ) → i < n → j < n → get_or keys i 0 ≡ get_or keys j 0 → i ≡ j
distinct-keys {keys} {slots} {links} {n} s = distinct keys slots n s.searchable

-- a key's spans are those of its one entry
pub has-entry : {keys slots links : List ℕ} {n : ℕ} → Stored keys slots links n → (spans : List ℕ) (key s i : ℕ) → i < n → get_or keys i 0 ≡ key → Has keys spans n key s → bit (get_or spans i 0) s ≡ 1
has-entry st spans key s i l e (j, m, f, b) =
    let q : j ≡ i = distinct-keys st j i m l (f ∙ sym e) in
    subst (λ (x : ℕ). bit (get_or spans x 0) s ≡ 1) q b

-- all places of the slots and all lasts are 0
pub empty-stored : (keys slots links : List ℕ) → length keys ≡ 1024 → length slots ≡ 3072 → length links ≡ 2048 → ((p : ℕ) → p < 3072 → get_or slots p 0 ≡ 0) → ((p : ℕ) → p < 2048 → get_or links p 0 ≡ 0) → Stored keys slots links 0
empty-stored keys slots links a b c z y =
    record {
      room = (a, b, c);
      few = omega arith;
      roles = λ i l. absurd (not-suc-le-zero l);
      searchable = record {
        reached = λ i l. absurd (not-suc-le-zero l);
        within = λ p i e. absurd (none p i e);
        later = λ p i e. absurd (none p i e);
      };
      chained = chained-none (λ i. role_in (get_or keys i 0)) 1024 (λ r. get_or links (1024 + r) 0) (λ i. get_or links i 0) (λ r l. y (1024 + r) (omega arith));
    }
  where
    none : (p i : ℕ) → get_or slots p 0 ≡ suc i → ⊥
    none p i e = go (below_or_not p 3072)
      where
        go : (p < 3072) ⊎ (3072 ≤ p) → ⊥
        go (inl l) = omega (arith, z p l)
        go (inr l) = omega (arith, get_or-eq_default slots 0 {n = p} (omega arith))

pub has-none : (keys spans : List ℕ) (key s : ℕ) → Has keys spans 0 key s → ⊥
has-none keys spans key s (i, l, e, b) = not-suc-le-zero l

pub grown-refl : (keys spans : List ℕ) (n : ℕ) → Grown keys spans n keys spans n
grown-refl keys spans n = record { more = le_refl n; same = λ i l. refl; kept = λ i s l b. b }

pub grown-trans : {keys spans keys' spans' keys'' spans'' : List ℕ} {n n' n'' : ℕ} → Grown keys spans n keys' spans' n' → Grown keys' spans' n' keys'' spans'' n'' → Grown keys spans n keys'' spans'' n''
grown-trans g h =
    record {
      more = le_trans g.more h.more;
      same = λ i l. h.same i (lt_of_lt_of_le l g.more) ∙ g.same i l;
      kept = λ i s l b. h.kept i s (lt_of_lt_of_le l g.more) (g.kept i s l b);
    }

pub grown-has : {keys spans keys' spans' : List ℕ} {n n' : ℕ} → Grown keys spans n keys' spans' n' → (key s : ℕ) → Has keys spans n key s → Has keys' spans' n' key s
grown-has g key s (i, l, e, b) = (i, lt_of_lt_of_le l g.more, g.same i l ∙ e, g.kept i s l b)

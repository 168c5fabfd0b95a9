-- Entries that have what the statements give from them have every membership, at most at its level.
use mathlib.Core.Path.{◌≡◌, refl, sym, ap, ◌∙◌, subst⁻¹}
use mathlib.Core.Logic.{◌⊎◌, inl, inr}
use mathlib.Core.List.{List, Memᴰ as Mem}
use Prim.Native.Nat.{ℕ, zero, suc, ◌≤◌, ◌<◌}
use native.Mathlib.Nat.{le_trans}
use native.Mathlib.Omega.{arith}
use lib.ListN.{get_or}
use Rattle.meaning.specs.Credentials.{Body, set, role, link, ◌∩◌, ◌⊙◌, ◌⊗◌, Statement, Fits}
use Rattle.meaning.specs.Sequence.{Relation, Gives, S}
use Rattle.meaning.proofs.Levels.{gives_more}
use Rattle.meaning.proofs.Fixpoint.{S-fits}
use Rattle.store.specs.Entries.{key_of, role_in, set_in}
use Rattle.store.specs.Notes.{level_of}
use Rattle.store.proofs.Keys.{role-of-key, set-of-key}
use Rattle.premises.specs.Combining.{Keyed}
use Rattle.levels.specs.Levels.{Premises, HasUpTo, Leveling}

-- an entry of the first n, at a level up to k, has the role and the set
abbrev Found : List ℕ → List ℕ → ℕ → ℕ → Relation
Found keys notes n k Ar X = (i : ℕ) × (i < n) × (level_of notes i ≤ k) × Keyed (get_or keys i 0) Ar X

-- the entries by which a body gives a set
abbrev Pair : List ℕ → List ℕ → ℕ → ℕ → Body → ℕ → Type 0
Pair keys notes n k e X =
    (i j : ℕ) × (i < n) × (j < n) × (level_of notes i ≤ k) × (level_of notes j ≤ k) × Premises e i j × Gives (Keyed (get_or keys i 0)) (Keyed (get_or keys j 0)) e X

picked : (keys notes : List ℕ) (n k : ℕ) (e : Body) (X : ℕ) → Gives (Found keys notes n k) (Found keys notes n k) e X → (e ≡ set X) ⊎ Pair keys notes n k e X
picked keys notes n k (set Y) X h = inl (ap set (sym h))
picked keys notes n k (role Bs) X (i, l, o, w) = inr (i, i, l, l, o, o, refl, w)
picked keys notes n k (link Bs t) X (C, (i, l, o, w), (j, m, p, v)) = inr (i, j, l, m, o, p, tt, (C, w, v))
picked keys notes n k (Bs ∩ Ct) X ((i, l, o, w), (j, m, p, v)) = inr (i, j, l, m, o, p, tt, (w, v))
picked keys notes n k (Bs ⊙ Ct) X (Y, Z, (i, l, o, w), (j, m, p, v), q) = inr (i, j, l, m, o, p, tt, (Y, Z, w, v, q))
picked keys notes n k (Bs ⊗ Ct) X (Y, Z, (i, l, o, w), (j, m, p, v), d, q) = inr (i, j, l, m, o, p, tt, (Y, Z, w, v, d, q))

up_to : (keys notes : List ℕ) (n : ℕ) {k k' key : ℕ} → k ≤ k' → HasUpTo keys notes n k key → HasUpTo keys notes n k' key
up_to keys notes n l (i, h, q, o) = (i, h, q, le_trans o l)

-- the statements' sets are there at level 1
abbrev pub Facts : List Statement → List ℕ → List ℕ → ℕ → Type 0
Facts ss keys notes n = (st : Statement) → Mem st ss → (X : ℕ) → st.body ≡ set X → HasUpTo keys notes n 1 (key_of st.head X)

module _ (ss : List Statement) (keys notes : List ℕ) (n : ℕ) (fits : Fits ss) (facts : Facts ss keys notes n) (leveling : Leveling ss keys notes n n) where
  -- what is there at a level is found by its role and set
  found : (k : ℕ) → ((Br Y : ℕ) → S ss k Br Y → HasUpTo keys notes n k (key_of Br Y)) → (Br Y : ℕ) → S ss k Br Y → Found keys notes n k Br Y
  found k rec Br Y h =
      let o = rec Br Y h in
      let b = (S-fits ss fits k Br Y h).1 in
      (o.0, o.1, o.3, (ap role_in o.2 ∙ role-of-key Br Y b, sym (ap set_in o.2 ∙ set-of-key Br Y b)))

  -- what a statement gives from entries of a level is there at the next
  given-there : (k : ℕ) (st : Statement) (X : ℕ) → Mem st ss → (st.body ≡ set X) ⊎ Pair keys notes n k st.body X → HasUpTo keys notes n (suc k) (key_of st.head X)
  given-there k st X i (inl q) = up_to keys notes n (omega arith) (facts st i X q)
  given-there k st X m (inr (i, j, o, p, u, v, r, g)) = up_to keys notes n (omega arith) (leveling st m i j X o p r g)

  pub all_there : (k Ar X : ℕ) → S ss k Ar X → HasUpTo keys notes n k (key_of Ar X)
  all_there zero Ar X h = absurd h
  all_there (suc k) Ar X (st, i, q, g) =
      let w = found k (λ Br Y h. all_there k Br Y h) in
      subst⁻¹ (λ (x : ℕ). HasUpTo keys notes n (suc k) (key_of x X)) q (given-there k st X i (picked keys notes n k st.body X (gives_more w w st.body X g)))

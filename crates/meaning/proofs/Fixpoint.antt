-- The sequence comes to rest: no least level exceeds the number of memberships, and `closure` has them all.
use mathlib.Core.Path.{◌≡◌, refl, sym, ap, ◌∙◌, subst, subst⁻¹}
use mathlib.Core.Logic.{◌⊎◌, inl, inr, ◌↔◌}
use mathlib.Core.Bool.{Bool, true, false, not}
use mathlib.Core.List.Memᴰ.{head}
use mathlib.Core.List.Memᴰ.{tail}
use mathlib.Core.List.{List, [], ◌∷◌, Memᴰ as Mem}
use Prim.Native.Nat.{ℕ, zero, suc, ◌+◌, ◌*◌, ◌^◌, ◌<◌, ◌≤◌, zero-le, max}
use native.Mathlib.Nat.{le_refl, le_trans, le-suc, le-max_left, le-max_right}
use native.Mathlib.Decide.{le_ind}
use native.Mathlib.Omega.{arith}
use lib.Bits.{or_lt}
use lib.Dec.{T, leb, leb→le, nleb→lt}
use lib.ListN.{length}
use Rattle.meaning.specs.Lists.{each, Ascending}
use Rattle.meaning.specs.Credentials.{◌·◌, Body, set, role, link, ◌∩◌, ◌⊙◌, ◌⊗◌, Statement, SetFits, Fits}
use Rattle.meaning.specs.Sequence.{Relation, Gives, S, Least}
use Rattle.meaning.specs.Members.{Membership, stated, next, level, rounds, closure, Before, In}
use Rattle.meaning.proofs.SortLaws.{Within, within-length, sort-ascending}
use Rattle.meaning.proofs.OrderLaws.{memberships}
use Rattle.meaning.proofs.Levels.{level_in, level_out}
use Rattle.meaning.proofs.Derivations.{S-up}

gives_fits : {P : Relation} → ((Ar X : ℕ) → P Ar X → X < 2 ^ 32) → (e : Body) (X : ℕ) → SetFits e → Gives P P e X → X < 2 ^ 32
gives_fits f (set Y) X w h = subst⁻¹ (λ (x : ℕ). x < 2 ^ 32) h w
gives_fits f (role Bs) X w h = f Bs X h
gives_fits f (link Bs t) X w (C, h, k) = f (C · t) X k
gives_fits f (Bs ∩ Ct) X w (h, k) = f Bs X h
gives_fits f (Bs ⊙ Ct) X w (Y, Z, h, k, e) = subst⁻¹ (λ (x : ℕ). x < 2 ^ 32) e (or_lt 32 Y Z (f Bs Y h) (f Ct Z k))
gives_fits f (Bs ⊗ Ct) X w (Y, Z, h, k, d, e) = subst⁻¹ (λ (x : ℕ). x < 2 ^ 32) e (or_lt 32 Y Z (f Bs Y h) (f Ct Z k))

module _ (ss : List Statement) where
  level-ascending : (k : ℕ) → Ascending Before (level ss k)
  level-ascending zero = tt
  level-ascending (suc k) = sort-ascending memberships (each (stated (level ss k)) ss)

  level-up : (k : ℕ) → Within (level ss k) (level ss (suc k))
  level-up k x h = level_in ss (suc k) (S-up ss (le-suc k) x.role x.set (level_out ss k h))

  abbrev Rests : ℕ → Type 0
  Rests k = level ss (suc k) ≡ level ss k

  rests-on : {k n : ℕ} → Rests k → k ≤ n → level ss n ≡ level ss k
  rests-on {k} {n} e h = le_ind (λ (j : ℕ). level ss j ≡ level ss k) refl (λ j i p. ap (next ss) p ∙ e) n h

  -- a level that the next does not exceed is at rest
  rests : (k : ℕ) → length (level ss (suc k)) ≤ length (level ss k) → Rests k
  rests k h = sym ((within-length memberships (level ss k) (level ss (suc k)) (level-ascending k) (level-ascending (suc k)) (level-up k)).1 h)

  grows : (k : ℕ) → Rests k ⊎ (length (level ss k) < length (level ss (suc k)))
  grows k = go (leb (length (level ss (suc k))) (length (level ss k))) refl
    where
      go : (b : Bool) → leb (length (level ss (suc k))) (length (level ss k)) ≡ b → Rests k ⊎ (length (level ss k) < length (level ss (suc k)))
      go true e = inl (rests k (leb→le _ _ (subst⁻¹ T e tt)))
      go false e = inr (nleb→lt _ _ (subst⁻¹ (λ (b : Bool). T (not b)) e tt))

  -- the sequence has come to rest before level k, or level k has at least k memberships
  rank : (k : ℕ) → ((j : ℕ) × (j < k) × Rests j) ⊎ (k ≤ length (level ss k))
  rank zero = inr zero-le
  rank (suc k) = go (rank k) (grows k)
    where
      go : ((j : ℕ) × (j < k) × Rests j) ⊎ (k ≤ length (level ss k)) → Rests k ⊎ (length (level ss k) < length (level ss (suc k)))
          → ((j : ℕ) × (j < suc k) × Rests j) ⊎ (suc k ≤ length (level ss (suc k)))
      go (inl (j, l, s)) g = inl (j, omega arith, s)
      go (inr h) (inl s) = inl (k, le_refl (suc k), s)
      go (inr h) (inr g) = inr (omega arith)

  -- M is ascending and holds exactly the memberships of the sequence
  pub record All (M : List Membership) : Type 0 where
    pub ascending : Ascending Before M
    pub exact : (Ar X : ℕ) → In M Ar X ↔ ((k : ℕ) × S ss k Ar X)

  -- no least level exceeds the number of memberships
  pub least-level : (M : List Membership) → All M → {k Ar X : ℕ} → Least ss k Ar X → k ≤ length M
  least-level M h {k} {Ar} {X} l = go (rank k)
    where
      go : ((j : ℕ) × (j < k) × Rests j) ⊎ (k ≤ length (level ss k)) → k ≤ length M
      go (inl (j, i, s)) = absurd (l.1 j i (level_out ss j (subst (λ L. In L Ar X) (rests-on {k = j} {n = k} s (omega arith)) (level_in ss k l.0))))
      go (inr g) =
          le_trans g (within-length memberships (level ss k) M (level-ascending k) h.ascending (λ x i. (h.exact x.role x.set).1 (k, level_out ss k i))).0

  at_rest : (k : ℕ) → Rests k → All (level ss k)
  at_rest k s = record { ascending = level-ascending k; exact = λ Ar X. ((λ h. (k, level_out ss k h)), back Ar X) }
    where
      back : (Ar X : ℕ) → (n : ℕ) × S ss n Ar X → In (level ss k) Ar X
      back Ar X (n, i) = subst (λ L. In L Ar X) (rests-on {n = max n k} s (le-max_right n k)) (level_in ss (max n k) (S-up ss (le-max_left n k) Ar X i))

-- ---- there are rounds enough

abbrev key : Membership → ℕ
key p = p.role * 4294967296 + p.set

-- an ascending list has at most as many entries as there are keys from lo to hi
few : (l : List Membership) (lo hi : ℕ) → Ascending Before l → ((p : Membership) → Mem p l → (lo ≤ key p) × (key p < hi) × (p.set < 4294967296)) → lo ≤ hi → length l + lo ≤ hi
few [] lo hi s b h = omega arith
few (p ∷ l) lo hi s b h =
    let k = b p (head refl) in
    let r = few l (suc (key p)) hi s.1 (λ q i. let n = b q (tail i) in (above q (s.0 q i) k.2, n.1, n.2)) k.1 in
    omega arith
  where
    above : (q : Membership) → Before p q → p.set < 4294967296 → suc (key p) ≤ key q
    above q (inl a) f = omega arith
    above q (inr (a, c)) f = omega arith

module _ (ss : List Statement) (w : Fits ss) where
  pub S-fits : (k Ar X : ℕ) → S ss k Ar X → (Ar < 1024) × (X < 2 ^ 32)
  S-fits zero Ar X h = absurd h
  S-fits (suc k) Ar X (s, i, e, g) =
      (subst⁻¹ (λ (x : ℕ). x < 1024) e (w s i).0, gives_fits (λ Br Y h. (S-fits k Br Y h).1) s.body X (w s i).1 g)

  level-length : (k : ℕ) → length (level ss k) ≤ 2 ^ 42
  level-length k =
      let r = few (level ss k) 0 (2 ^ 42) (level-ascending ss k)
      (λ p i. let f = S-fits k p.role p.set (level_out ss k i) in (zero-le, bound p.role p.set f.0 f.1, f.1)) zero-le in
      omega arith
    where
      bound : (a b : ℕ) → a < 1024 → b < 4294967296 → a * 4294967296 + b < 4398046511104
      bound a b h i = omega arith

  rounds-rest : (n k : ℕ) → 2 ^ 42 < n + length (level ss k) → (j : ℕ) × (rounds ss n (level ss k) ≡ level ss j) × Rests ss j
  rounds-rest zero k h = absurd (omega (arith, level-length k))
  rounds-rest (suc n) k h = go (leb (length N) (length L)) refl (λ i. rounds-rest n (suc k) i)
    where
      L : List Membership
      L = level ss k

      N : List Membership
      N = level ss (suc k)

      Result : List Membership → Type 0
      Result R = (j : ℕ) × (R ≡ level ss j) × Rests ss j

      go : (b : Bool) → leb (length N) (length L) ≡ b → (2 ^ 42 < n + length N → Result (rounds ss n N)) → Result (elim b as (λ x. List Membership) [ true ↦ L | false ↦ rounds ss n N ])
      go true e rec = (k, refl, rests ss k (leb→le _ _ (subst⁻¹ T e tt)))
      go false e rec = let l = nleb→lt (length N) (length L) (subst⁻¹ (λ (b : Bool). T (not b)) e tt) in rec (omega arith)

  pub closure-all : All ss (closure ss)
  unfolding closure
  closure-all =
      let r = rounds-rest (2 ^ 42 + 1) 0 (omega arith) in
      subst⁻¹ (All ss) r.1 (at_rest ss r.0 r.2)

  pub closure-length : length (closure ss) ≤ 2 ^ 42
  unfolding closure
  closure-length =
      let r = rounds-rest (2 ^ 42 + 1) 0 (omega arith) in
      subst⁻¹ (λ (M : List Membership). length M ≤ 2 ^ 42) r.1 (level-length r.0)

  -- some level is closed: the statements give nothing more from it
  pub some-level-closed : (k : ℕ) × ((Ar X : ℕ) → S ss (suc k) Ar X → S ss k Ar X)
  some-level-closed =
      let r = rounds-rest (2 ^ 42 + 1) 0 (omega arith) in
      (r.0, λ Ar X h. level_out ss r.0 (subst (λ (M : List Membership). In M Ar X) r.2 (level_in ss (suc r.0) h)))

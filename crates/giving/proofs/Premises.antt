-- What the uses of a statement give is what the statement gives; and what it gives from a new premise is given by a use.
use mathlib.Core.Path.{◌≡◌, refl, sym, ap, ◌∙◌, subst}
use mathlib.Core.Logic.{◌⊎◌, inl, inr}
use mathlib.Core.Bool.{true, false}
use mathlib.Core.List.{List, Memᴰ as Mem}
use Prim.Native.Nat.{ℕ, suc, ◌+◌, ◌*◌, ◌/◌, ◌%◌, ◌^◌, ◌<◌, max}
use native.Mathlib.Nat.{le-max_left, le-max_right}
use native.Mathlib.Omega.{arith}
use lib.Bits.{bit_and, bit_or, or_comm, and_comm, or_lt}
use Rattle.meaning.specs.Credentials.{◌·◌, Body, set, role, link, ◌∩◌, ◌⊙◌, ◌⊗◌, Statement}
use Rattle.meaning.specs.Sequence.{Relation, Gives, S}
use Rattle.meaning.proofs.Derivations.{S-up}
use Rattle.store.specs.Entries.{role_in, set_in}
use Rattle.store.proofs.Keys.{set_below}
use Rattle.rules.specs.declared.Use.{Use}
use Rattle.rules.specs.Uses.{use_of, UsedBy, Fitting}
use Rattle.premises.specs.Combining.{Combined, inclusion, linking, linked, intersection, union, disjoint}

-- ---- what a use gives

abbrev pub Within : Relation → Relation → Type 0
Within P Q = (Ar X : ℕ) → P Ar X → Q Ar X

pub combined-below : {P : Relation} {e family kind other X : ℕ} → ((Ar X : ℕ) → P Ar X → X < 2 ^ 32) → Combined P e family kind other X → X < 2 ^ 32
combined-below {e = e} f (inclusion q x) = rw x (set_below e)
combined-below f (linking C q x p) = f _ _ p
combined-below {e = e} f (linked q p x) = rw x (set_below e)
combined-below {e = e} f (intersection q p x) = rw x (set_below e)
combined-below {e = e} f (union Y q p x) = rw x (or_lt 32 (set_in e) Y (set_below e) (f _ _ p))
combined-below {e = e} f (disjoint Y q p z x) = rw x (or_lt 32 (set_in e) Y (set_below e) (f _ _ p))

abbrev pub By : Relation → ℕ → ℕ → Use → Type 0
By P e X u = Combined P e u.family u.kind u.other X

-- the uses of a statement give what the statement gives
module _ {P G : Relation} {e X : ℕ} (f : Within P G) (own : G (role_in e) (set_in e)) (low : role_in e < 1024) where
  by-role : {Bs : ℕ} → Combined P e Bs 1 0 X → Gives G G (role Bs) X
  by-role (inclusion q x) = rw (← q, x) own

  by-link : {Bs t : ℕ} → Bs < 1024 → Combined P e Bs 2 t X → Gives G G (link Bs t) X
  by-link l (linking C q x p) = (C, rw (← q, ← x) own, f _ _ p)
  by-link l (linked q p x) = absurd (omega arith)

  by_name : {Bs : ℕ} (t : ℕ) → Combined P e (1024 + t) 2 Bs X → Gives G G (link Bs t) X
  by_name t (linking C q x p) = absurd (omega arith)
  by_name t (linked q p x) = (role_in e / 32, f _ _ p, (let i : role_in e / 32 * 32 + t ≡ role_in e = omega arith in rw (i, x) own))

  by_first : {Bs Ct : ℕ} → Combined P e Bs 3 Ct X → Gives G G (Bs ∩ Ct) X
  by_first (intersection q p x) = (rw (← q, x) own, rw x (f _ _ p))

  by-second : {Bs Ct : ℕ} → Combined P e Ct 3 Bs X → Gives G G (Bs ∩ Ct) X
  by-second (intersection q p x) = (rw x (f _ _ p), rw (← q, x) own)

  by-union : {Bs Ct : ℕ} → Combined P e Bs 4 Ct X → Gives G G (Bs ⊙ Ct) X
  by-union (union Y q p x) = (set_in e, Y, rw (← q) own, f _ _ p, x)

  by-union-second : {Bs Ct : ℕ} → Combined P e Ct 4 Bs X → Gives G G (Bs ⊙ Ct) X
  by-union-second (union Y q p x) = (Y, set_in e, f _ _ p, rw (← q) own, x ∙ or_comm (set_in e) Y)

  by_product : {Bs Ct : ℕ} → Combined P e Bs 5 Ct X → Gives G G (Bs ⊗ Ct) X
  by_product (disjoint Y q p z x) = (set_in e, Y, rw (← q) own, f _ _ p, z, x)

  by-product-second : {Bs Ct : ℕ} → Combined P e Ct 5 Bs X → Gives G G (Bs ⊗ Ct) X
  by-product-second (disjoint Y q p z x) = (Y, set_in e, f _ _ p, rw (← q) own, and_comm Y (set_in e) ∙ z, x ∙ or_comm (set_in e) Y)

  pub use-gives : (body : Body) (head : ℕ) (u : Use) → ((v : Use) → UsedBy body head v → Fitting v) → UsedBy body head u → By P e X u → Gives G G body X
  use-gives (set Y) head u fit (false, w) c = absurd w
  use-gives (set Y) head u fit (true, w) c = absurd w
  use-gives (role Bs) head u fit (false, w) c = by-role (subst (By P e X) w c)
  use-gives (role Bs) head u fit (true, w) c = absurd w
  use-gives (link Bs t) head u fit (false, w) c = by-link (fit (use_of (1024 + t) 2 Bs head) (true, refl)).other (subst (By P e X) w c)
  use-gives (link Bs t) head u fit (true, w) c = by_name t (subst (By P e X) w c)
  use-gives (Bs ∩ Ct) head u fit (false, w) c = by_first (subst (By P e X) w c)
  use-gives (Bs ∩ Ct) head u fit (true, w) c = by-second (subst (By P e X) w c)
  use-gives (Bs ⊙ Ct) head u fit (false, w) c = by-union (subst (By P e X) w c)
  use-gives (Bs ⊙ Ct) head u fit (true, w) c = by-union-second (subst (By P e X) w c)
  use-gives (Bs ⊗ Ct) head u fit (false, w) c = by_product (subst (By P e X) w c)
  use-gives (Bs ⊗ Ct) head u fit (true, w) c = by-product-second (subst (By P e X) w c)

pub use-head : (body : Body) (head : ℕ) (u : Use) → UsedBy body head u → u.head ≡ head
use-head (set Y) head u (false, w) = absurd w
use-head (set Y) head u (true, w) = absurd w
use-head (role Bs) head u (false, w) = ap (λ (v : Use). v.head) w
use-head (role Bs) head u (true, w) = absurd w
use-head (link Bs t) head u (false, w) = ap (λ (v : Use). v.head) w
use-head (link Bs t) head u (true, w) = ap (λ (v : Use). v.head) w
use-head (Bs ∩ Ct) head u (false, w) = ap (λ (v : Use). v.head) w
use-head (Bs ∩ Ct) head u (true, w) = ap (λ (v : Use). v.head) w
use-head (Bs ⊙ Ct) head u (false, w) = ap (λ (v : Use). v.head) w
use-head (Bs ⊙ Ct) head u (true, w) = ap (λ (v : Use). v.head) w
use-head (Bs ⊗ Ct) head u (false, w) = ap (λ (v : Use). v.head) w
use-head (Bs ⊗ Ct) head u (true, w) = ap (λ (v : Use). v.head) w

-- both premises at the higher of their levels
module _ (ss : List Statement) where
  abbrev pub Some : Relation
  Some Ar X = (level : ℕ) × S ss level Ar X

  up_left : {Ar X : ℕ} (a : Some Ar X) (j : ℕ) → S ss (max a.0 j) Ar X
  up_left {Ar} {X} a j = S-up ss (le-max_left a.0 j) Ar X a.1

  up_right : {Ar X : ℕ} (i : ℕ) (b : Some Ar X) → S ss (max i b.0) Ar X
  up_right {Ar} {X} i b = S-up ss (le-max_right i b.0) Ar X b.1

  one-level : (body : Body) (X : ℕ) → Gives Some Some body X → (level : ℕ) × Gives (S ss level) (S ss level) body X
  one-level (set Y) X q = (0, q)
  one-level (role Bs) X a = a
  one-level (link Bs t) X (C, a, b) = (max a.0 b.0, (C, up_left a b.0, up_right a.0 b))
  one-level (Bs ∩ Ct) X (a, b) = (max a.0 b.0, (up_left a b.0, up_right a.0 b))
  one-level (Bs ⊙ Ct) X (Y, Z, a, b, q) = (max a.0 b.0, (Y, Z, up_left a b.0, up_right a.0 b, q))
  one-level (Bs ⊗ Ct) X (Y, Z, a, b, z, q) = (max a.0 b.0, (Y, Z, up_left a b.0, up_right a.0 b, z, q))

  pub next_level : (st : Statement) (X : ℕ) → Mem st ss → Gives Some Some st.body X → Some st.head X
  next_level st X i g = let w = one-level st.body X g in (suc w.0, (st, i, refl, w.1))

-- ---- a new premise

-- a use of the statement gives the set from the entry with the key e
pub record Fired (P : Relation) (e : ℕ) (body : Body) (head X : ℕ) : Type 0 where
  pub which : Use
  pub used : UsedBy body head which
  pub family : (which.family ≡ role_in e) ⊎ (which.family ≡ 1024 + role_in e % 32)
  pub by : By P e X which

-- what the statements give from more is given from less, or by a use of the entry that is new
module _ {P Q : Relation} (e : ℕ) (New : Type 0) (split : (Ar X : ℕ) → P Ar X → Q Ar X ⊎ (New × (role_in e ≡ Ar) × (set_in e ≡ X))) (head X : ℕ) where
  abbrev pub Or : Body → Type 0
  Or body = Gives Q Q body X ⊎ (New × Fired P e body head X)

  or-role : (Bs : ℕ) → P Bs X → Or (role Bs)
  or-role Bs p = go (split Bs X p)
    where
      go : Q Bs X ⊎ (New × (role_in e ≡ Bs) × (set_in e ≡ X)) → Or (role Bs)
      go (inl q) = inl q
      go (inr (w, a, x)) = inr (w, record { which = use_of Bs 1 0 head; used = (false, refl); family = inl (sym a); by = inclusion a (sym x) })

  or-link : (Bs t C : ℕ) → t < 32 → P Bs (2 ^ C) → P (C · t) X → Or (link Bs t)
  or-link Bs t C l p q = go (split Bs (2 ^ C) p) (split (C · t) X q)
    where
      go : Q Bs (2 ^ C) ⊎ (New × (role_in e ≡ Bs) × (set_in e ≡ 2 ^ C)) → Q (C · t) X ⊎ (New × (role_in e ≡ C · t) × (set_in e ≡ X)) → Or (link Bs t)
      go (inl a) (inl b) = inl (C, a, b)
      go (inr (w, a, x)) b = inr (w, record { which = use_of Bs 2 t head; used = (false, refl); family = inl (sym a); by = linking C a x q })
      go (inl a) (inr (w, b, x)) =
          let m : 1024 + role_in e % 32 ≡ 1024 + t = omega arith in
          let k : role_in e / 32 ≡ C = omega arith in
          inr (w, record { which = use_of (1024 + t) 2 Bs head; used = (true, refl); family = inr (sym m); by = linked {Bs = Bs} m (rw k p) (sym x) })

  or-intersection : (Bs Ct : ℕ) → P Bs X → P Ct X → Or (Bs ∩ Ct)
  or-intersection Bs Ct p q = go (split Bs X p) (split Ct X q)
    where
      go : Q Bs X ⊎ (New × (role_in e ≡ Bs) × (set_in e ≡ X)) → Q Ct X ⊎ (New × (role_in e ≡ Ct) × (set_in e ≡ X)) → Or (Bs ∩ Ct)
      go (inl a) (inl b) = inl (a, b)
      go (inr (w, a, x)) b = inr (w, record { which = use_of Bs 3 Ct head; used = (false, refl); family = inl (sym a); by = intersection {other = Ct} a (rw x q) (sym x) })
      go (inl a) (inr (w, b, x)) = inr (w, record { which = use_of Ct 3 Bs head; used = (true, refl); family = inl (sym b); by = intersection {other = Bs} b (rw x p) (sym x) })

  or-union : (Bs Ct Y Z : ℕ) → P Bs Y → P Ct Z → X ≡ bit_or Y Z → Or (Bs ⊙ Ct)
  or-union Bs Ct Y Z p q u = go (split Bs Y p) (split Ct Z q)
    where
      go : Q Bs Y ⊎ (New × (role_in e ≡ Bs) × (set_in e ≡ Y)) → Q Ct Z ⊎ (New × (role_in e ≡ Ct) × (set_in e ≡ Z)) → Or (Bs ⊙ Ct)
      go (inl a) (inl b) = inl (Y, Z, a, b, u)
      go (inr (w, a, x)) b = inr (w, record { which = use_of Bs 4 Ct head; used = (false, refl); family = inl (sym a); by = union {X = X} Z a q (rw x u) })
      go (inl a) (inr (w, b, x)) = inr (w, record { which = use_of Ct 4 Bs head; used = (true, refl); family = inl (sym b); by = union {X = X} Y b p (rw x (u ∙ or_comm Y Z)) })

  or-product : (Bs Ct Y Z : ℕ) → P Bs Y → P Ct Z → bit_and Y Z ≡ 0 → X ≡ bit_or Y Z → Or (Bs ⊗ Ct)
  or-product Bs Ct Y Z p q z u = go (split Bs Y p) (split Ct Z q)
    where
      go : Q Bs Y ⊎ (New × (role_in e ≡ Bs) × (set_in e ≡ Y)) → Q Ct Z ⊎ (New × (role_in e ≡ Ct) × (set_in e ≡ Z)) → Or (Bs ⊗ Ct)
      go (inl a) (inl b) = inl (Y, Z, a, b, z, u)
      go (inr (w, a, x)) b = inr (w, record { which = use_of Bs 5 Ct head; used = (false, refl); family = inl (sym a); by = disjoint {X = X} Z a q (rw x z) (rw x u) })
      go (inl a) (inr (w, b, x)) =
          inr (w, record { which = use_of Ct 5 Bs head; used = (true, refl); family = inl (sym b); by = disjoint {X = X} Y b p (rw x (and_comm Z Y ∙ z)) (rw x (u ∙ or_comm Y Z)) })

  pub gives-or : (body : Body) → ((v : Use) → UsedBy body head v → Fitting v) → Gives P P body X → Or body
  gives-or (set Y) fit q = inl q
  gives-or (role Bs) fit p = or-role Bs p
  gives-or (link Bs t) fit (C, p, q) = or-link Bs t C (let l = (fit (use_of (1024 + t) 2 Bs head) (true, refl)).family in omega arith) p q
  gives-or (Bs ∩ Ct) fit (p, q) = or-intersection Bs Ct p q
  gives-or (Bs ⊙ Ct) fit (Y, Z, p, q, u) = or-union Bs Ct Y Z p q u
  gives-or (Bs ⊗ Ct) fit (Y, Z, p, q, z, u) = or-product Bs Ct Y Z p q z u

-- What a use of a statement gives from two entries is what the statement gives from them, in the order of its premises.
use mathlib.Core.Path.{◌≡◌, refl, sym, ap, ◌∙◌, subst}
use mathlib.Core.Logic.{◌⊎◌, inl, inr}
use mathlib.Core.Bool.{true, false}
use Prim.Native.Nat.{ℕ, ◌+◌, ◌/◌, ◌^◌, ◌<◌}
use native.Mathlib.Omega.{arith}
use lib.Bits.{or_comm, and_comm}
use Rattle.meaning.specs.Credentials.{Body, set, role, link, ◌∩◌, ◌⊙◌, ◌⊗◌}
use Rattle.meaning.specs.Sequence.{Gives}
use Rattle.meaning.specs.Proofs.{cites_first, cites_second}
use Rattle.store.specs.Entries.{role_in, set_in}
use Rattle.store.proofs.Keys.{set_below}
use Rattle.rules.specs.declared.Use.{Use}
use Rattle.rules.specs.Uses.{use_of, UsedBy, UsedAs, Fitting}
use Rattle.premises.specs.Combining.{Combined, inclusion, linking, linked, intersection, union, disjoint, Keyed}
use Rattle.giving.proofs.Premises.{By}

-- ---- what is given

pub keyed-below : (b Ar X : ℕ) → Keyed b Ar X → X < 2 ^ 32
keyed-below b Ar X w = rw w.1 (set_below b)

module _ (a b X : ℕ) (low : role_in a < 1024) where
  by-role : {Bs : ℕ} → Combined (Keyed b) a Bs 1 0 X → Gives (Keyed a) (Keyed b) (role Bs) X
  by-role (inclusion q x) = (q, x)

  by-link : {Bs t : ℕ} → Bs < 1024 → Combined (Keyed b) a Bs 2 t X → Gives (Keyed a) (Keyed b) (link Bs t) X
  by-link l (linking C q x p) = (C, (q, sym x), p)
  by-link l (linked q p x) = absurd (omega arith)

  by_name : {Bs : ℕ} (t : ℕ) → Combined (Keyed b) a (1024 + t) 2 Bs X → Gives (Keyed b) (Keyed a) (link Bs t) X
  by_name t (linking C q x p) = absurd (omega arith)
  by_name t (linked q p x) = (role_in a / 32, p, (omega arith, x))

  by_first : {Bs Ct : ℕ} → Combined (Keyed b) a Bs 3 Ct X → Gives (Keyed a) (Keyed b) (Bs ∩ Ct) X
  by_first (intersection q p x) = ((q, x), (p.0, x ∙ p.1))

  by-second : {Bs Ct : ℕ} → Combined (Keyed b) a Ct 3 Bs X → Gives (Keyed b) (Keyed a) (Bs ∩ Ct) X
  by-second (intersection q p x) = ((p.0, x ∙ p.1), (q, x))

  by-union : {Bs Ct : ℕ} → Combined (Keyed b) a Bs 4 Ct X → Gives (Keyed a) (Keyed b) (Bs ⊙ Ct) X
  by-union (union Y q p x) = (set_in a, Y, (q, refl), p, x)

  by-union-second : {Bs Ct : ℕ} → Combined (Keyed b) a Ct 4 Bs X → Gives (Keyed b) (Keyed a) (Bs ⊙ Ct) X
  by-union-second (union Y q p x) = (Y, set_in a, p, (q, refl), x ∙ or_comm (set_in a) Y)

  by_product : {Bs Ct : ℕ} → Combined (Keyed b) a Bs 5 Ct X → Gives (Keyed a) (Keyed b) (Bs ⊗ Ct) X
  by_product (disjoint Y q p z x) = (set_in a, Y, (q, refl), p, z, x)

  by-product-second : {Bs Ct : ℕ} → Combined (Keyed b) a Ct 5 Bs X → Gives (Keyed b) (Keyed a) (Bs ⊗ Ct) X
  by-product-second (disjoint Y q p z x) = (Y, set_in a, p, (q, refl), and_comm Y (set_in a) ∙ z, x ∙ or_comm (set_in a) Y)

  -- the entry with the key a is the first premise, or the second
  pub as_first : (e : Body) (Ar : ℕ) (u : Use) → ((v : Use) → UsedBy e Ar v → Fitting v) → UsedAs false e Ar u → By (Keyed b) a X u → Gives (Keyed a) (Keyed b) e X
  as_first (set Y) Ar u f w c = absurd w
  as_first (role Bs) Ar u f w c = by-role (subst (By (Keyed b) a X) w c)
  as_first (link Bs t) Ar u f w c = by-link (f (use_of (1024 + t) 2 Bs Ar) (true, refl)).other (subst (By (Keyed b) a X) w c)
  as_first (Bs ∩ Ct) Ar u f w c = by_first (subst (By (Keyed b) a X) w c)
  as_first (Bs ⊙ Ct) Ar u f w c = by-union (subst (By (Keyed b) a X) w c)
  as_first (Bs ⊗ Ct) Ar u f w c = by_product (subst (By (Keyed b) a X) w c)

  pub as-second : (e : Body) (Ar : ℕ) (u : Use) → UsedAs true e Ar u → By (Keyed b) a X u → Gives (Keyed b) (Keyed a) e X
  as-second (set Y) Ar u w c = absurd w
  as-second (role Bs) Ar u w c = absurd w
  as-second (link Bs t) Ar u w c = by_name t (subst (By (Keyed b) a X) w c)
  as-second (Bs ∩ Ct) Ar u w c = by-second (subst (By (Keyed b) a X) w c)
  as-second (Bs ⊙ Ct) Ar u w c = by-union-second (subst (By (Keyed b) a X) w c)
  as-second (Bs ⊗ Ct) Ar u w c = by-product-second (subst (By (Keyed b) a X) w c)

-- ---- what is cited

-- the premises of a statement, by the kind of its use
abbrev pub Takes : Body → ℕ → Type 0
Takes e kind = ((kind ≡ 1) × (cites_second e ≡ false)) ⊎ ((kind ≡ 1 → ⊥) × (cites_second e ≡ true))

other-kind : {k : ℕ} (u : Use) → (k ≡ 1 → ⊥) → u.kind ≡ k → u.kind ≡ 1 → ⊥
other-kind u n e q = n (sym e ∙ q)

pub takes_first : (e : Body) (Ar : ℕ) (u : Use) → UsedAs false e Ar u → (cites_first e ≡ true) × Takes e u.kind
takes_first (set X) Ar u w = absurd w
takes_first (role Bs) Ar u w = (refl, inl (ap (λ (v : Use). v.kind) w, refl))
takes_first (link Bs t) Ar u w = (refl, inr (other-kind u (λ q. omega arith) (ap (λ (v : Use). v.kind) w), refl))
takes_first (Bs ∩ Ct) Ar u w = (refl, inr (other-kind u (λ q. omega arith) (ap (λ (v : Use). v.kind) w), refl))
takes_first (Bs ⊙ Ct) Ar u w = (refl, inr (other-kind u (λ q. omega arith) (ap (λ (v : Use). v.kind) w), refl))
takes_first (Bs ⊗ Ct) Ar u w = (refl, inr (other-kind u (λ q. omega arith) (ap (λ (v : Use). v.kind) w), refl))

pub takes-second : (e : Body) (Ar : ℕ) (u : Use) → UsedAs true e Ar u → (cites_first e ≡ true) × (cites_second e ≡ true) × (u.kind ≡ 1 → ⊥)
takes-second (set X) Ar u w = absurd w
takes-second (role Bs) Ar u w = absurd w
takes-second (link Bs t) Ar u w = (refl, refl, other-kind u (λ q. omega arith) (ap (λ (v : Use). v.kind) w))
takes-second (Bs ∩ Ct) Ar u w = (refl, refl, other-kind u (λ q. omega arith) (ap (λ (v : Use). v.kind) w))
takes-second (Bs ⊙ Ct) Ar u w = (refl, refl, other-kind u (λ q. omega arith) (ap (λ (v : Use). v.kind) w))
takes-second (Bs ⊗ Ct) Ar u w = (refl, refl, other-kind u (λ q. omega arith) (ap (λ (v : Use). v.kind) w))

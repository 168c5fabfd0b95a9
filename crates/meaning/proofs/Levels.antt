-- The list `level ss k` holds exactly the memberships of S_k.
use mathlib.Core.Path.{◌≡◌, refl, sym, ap, ◌∙◌, subst, subst⁻¹}
use mathlib.Core.Logic.{◌↔◌}
use mathlib.Core.List.Memᴰ.{head}
use mathlib.Core.List.{List, [], ◌∷◌, Memᴰ as Mem}
use Prim.Native.Nat.{ℕ, zero, suc, ◌^◌, ◌<◌, zero-le, suc-le-suc}
use native.Mathlib.Nat.{pow-suc, mul-mod_left, mul-div_cancel, le_of_suc-le-suc, not-suc-le-zero}
use native.Mathlib.Omega.{arith}
use lib.Bits.{bit_or, bit_and}
use lib.Dec.{eqb, eqb→eq, eqb_refl}
use Rattle.meaning.specs.Lists.{each}
use Rattle.meaning.specs.Credentials.{◌·◌, Body, set, role, link, ◌∩◌, ◌⊙◌, ◌⊗◌, Statement}
use Rattle.meaning.specs.Sequence.{Relation, Gives, S}
use Rattle.meaning.specs.Members.{Membership, member, entity_in, entity, single, sets_of, given, stated, next, level, In}
use Rattle.meaning.proofs.ListLaws.{each_in, each-out, map-in, map-out, only-in, only_out, sole, cast}
use Rattle.meaning.proofs.SortLaws.{sort-in, sort-out}
use Rattle.meaning.proofs.OrderLaws.{same-membership, memberships}

-- ---- the entity of a set of one

below_power : (C : ℕ) → C < 2 ^ C
below_power zero = suc-le-suc zero-le
below_power (suc C) = let h = below_power C in omega (arith, pow-suc 2 C)

entity-in : (k C : ℕ) → C < k → entity_in k (2 ^ C) ≡ C
entity-in zero C h = absurd (not-suc-le-zero h)
entity-in (suc k) zero h = refl
entity-in (suc k) (suc C) h =
    rw (pow-suc 2 C, mul-mod_left (2 ^ C) 2, entity_in)
    (rw (pow-suc 2 C, mul-div_cancel (2 ^ C) {n = 2} (suc-le-suc zero-le)) (ap suc (entity-in k C (le_of_suc-le-suc h))))

pub entity-power : (C : ℕ) → entity (2 ^ C) ≡ C
entity-power C = entity-in (2 ^ C) C (below_power C)

-- ---- what a body gives

sets-in : {M : List Membership} (Ar : ℕ) {X : ℕ} → In M Ar X → Mem X (sets_of Ar M)
sets-in Ar m = each_in _ m (only-in (eqb Ar Ar) (eqb_refl Ar) (head refl))

sets-out : (M : List Membership) (Ar : ℕ) {X : ℕ} → Mem X (sets_of Ar M) → In M Ar X
sets-out M Ar m =
    let r = each-out _ M m in
    let o = only_out (eqb r.0.role Ar) r.2 in
    cast (same-membership (sym (eqb→eq _ _ o.0)) (sole o.1)) r.1

given-in : (M : List Membership) (e : Body) (X : ℕ) → Gives (In M) (In M) e X → Mem X (given M e)
given-in M (set Y) X h = head h
given-in M (role Bs) X h = sets-in Bs h
given-in M (link Bs t) X (C, h, k) =
    each_in _ (sets-in Bs h) (rw entity-power (only-in (eqb (2 ^ C) (2 ^ C)) (eqb_refl (2 ^ C)) (sets-in (C · t) k)))
given-in M (Bs ∩ Ct) X (h, k) = each_in _ (sets-in Bs h) (each_in _ (sets-in Ct k) (only-in (eqb X X) (eqb_refl X) (head refl)))
given-in M (Bs ⊙ Ct) X (Y, Z, h, k, e) = each_in _ (sets-in Bs h) (each_in (λ x. bit_or Y x ∷ []) (sets-in Ct k) (head e))
given-in M (Bs ⊗ Ct) X (Y, Z, h, k, d, e) =
    each_in _ (sets-in Bs h) (each_in _ (sets-in Ct k) (only-in (eqb (bit_and Y Z) 0) (rw d tt) (head e)))

given_out : (M : List Membership) (e : Body) (X : ℕ) → Mem X (given M e) → Gives (In M) (In M) e X
given_out M (set Y) X m = sole m
given_out M (role Bs) X m = sets-out M Bs m
given_out M (link Bs t) X m =
    let r = each-out _ (sets_of Bs M) m in
    let o = only_out (single r.0) r.2 in
    (entity r.0, subst (In M Bs) (eqb→eq _ _ o.0) (sets-out M Bs r.1), sets-out M (entity r.0 · t) o.1)
given_out M (Bs ∩ Ct) X m =
    let r = each-out _ (sets_of Bs M) m in
    let q = each-out _ (sets_of Ct M) r.2 in
    let o = only_out (eqb r.0 q.0) q.2 in
    let e = sole o.1 in
    (subst⁻¹ (In M Bs) e (sets-out M Bs r.1), subst⁻¹ (In M Ct) (e ∙ eqb→eq _ _ o.0) (sets-out M Ct q.1))
given_out M (Bs ⊙ Ct) X m =
    let r = each-out _ (sets_of Bs M) m in
    let q = each-out (λ Z. bit_or r.0 Z ∷ []) (sets_of Ct M) r.2 in
    (r.0, q.0, sets-out M Bs r.1, sets-out M Ct q.1, sole q.2)
given_out M (Bs ⊗ Ct) X m =
    let r = each-out _ (sets_of Bs M) m in
    let q = each-out _ (sets_of Ct M) r.2 in
    let o = only_out (eqb (bit_and r.0 q.0) 0) q.2 in
    (r.0, q.0, sets-out M Bs r.1, sets-out M Ct q.1, eqb→eq _ _ o.0, sole o.1)

-- ---- the sequence

-- a body gives more from more
pub gives_more : {P P' Q Q' : Relation} (f : (Ar X : ℕ) → P Ar X → P' Ar X) (g : (Ar X : ℕ) → Q Ar X → Q' Ar X) (e : Body) (X : ℕ)
    → Gives P Q e X → Gives P' Q' e X
gives_more f g (set Y) X h = h
gives_more f g (role Bs) X h = f Bs _ h
gives_more f g (link Bs t) X (C, h, k) = (C, f Bs _ h, g (C · t) _ k)
gives_more f g (Bs ∩ Ct) X (h, k) = (f Bs _ h, g Ct _ k)
gives_more f g (Bs ⊙ Ct) X (Y, Z, h, k, e) = (Y, Z, f Bs _ h, g Ct _ k, e)
gives_more f g (Bs ⊗ Ct) X (Y, Z, h, k, d, e) = (Y, Z, f Bs _ h, g Ct _ k, d, e)

-- what the statements give from a relation
abbrev pub Next : List Statement → Relation → Relation
Next ss P Ar X = (s : Statement) × Mem s ss × (Ar ≡ s.head) × Gives P P s.body X

pub next_more : (ss : List Statement) {P Q : Relation} → ((Ar X : ℕ) → P Ar X → Q Ar X) → (Ar X : ℕ) → Next ss P Ar X → Next ss Q Ar X
next_more ss f Ar X (s, i, e, g) = (s, i, e, gives_more f f s.body X g)

module _ (ss : List Statement) where
  next-in : (M : List Membership) {Ar X : ℕ} → Next ss (In M) Ar X → In (next ss M) Ar X
  next-in M {Ar} {X} (s, i, e, g) =
      sort-in memberships (each_in (stated M) i (cast (same-membership e refl) (map-in (member s.head) (given-in M s.body X g))))

  next-out : (M : List Membership) {Ar X : ℕ} → In (next ss M) Ar X → Next ss (In M) Ar X
  next-out M {Ar} {X} h =
      let r = each-out (stated M) ss (sort-out memberships (each (stated M) ss) h) in
      let q = map-out (member r.0.head) (given M r.0.body) r.2 in (
        r.0,
        r.1,
        ap (λ (p : Membership). p.role) q.2,
        subst⁻¹ (Gives (In M) (In M) r.0.body) (ap (λ (p : Membership). p.set) q.2) (given_out M r.0.body q.0 q.1),
      )

  pub level_in : (k : ℕ) {Ar X : ℕ} → S ss k Ar X → In (level ss k) Ar X
  level_in zero h = absurd h
  level_in (suc k) h = next-in (level ss k) (next_more ss (λ Ar X. level_in k) _ _ h)

  pub level_out : (k : ℕ) {Ar X : ℕ} → In (level ss k) Ar X → S ss k Ar X
  level_out zero h = elim h [ ]
  level_out (suc k) h = next_more ss (λ Ar X. level_out k) _ _ (next-out (level ss k) h)

  pub levels : (k : ℕ) {Ar X : ℕ} → In (level ss k) Ar X ↔ S ss k Ar X
  levels k = (level_out k, level_in k)

-- What a body gives from an entry, by its kind.
use mathlib.Core.Path.{◌≡◌, refl, sym, subst⁻¹}
use mathlib.Core.Logic.{◌⊎◌, inl, inr}
use mathlib.Core.List.{List}
use Prim.Native.Nat.{ℕ, ◌+◌, ◌*◌, ◌/◌, ◌%◌, ◌^◌, ◌≤◌, ◌<◌}
use native.Mathlib.Omega.{arith}
use lib.Count.{ones, count_trailing_zeros}
use lib.ListN.{get_or}
use Rattle.meaning.specs.Credentials.{◌·◌}
use Rattle.meaning.specs.Sequence.{Relation}
use Rattle.store.specs.Entries.{role_in, set_in}
use Rattle.store.proofs.Chains.{equal_or_not}
use Rattle.store.proofs.Keys.{set_below}
use Rattle.rules.specs.Uses.{family_in, kind_in, other_in}
use Rattle.waiting.specs.Pairs.{Paired}
use Rattle.premises.specs.Combining.{Combined, inclusion, linking, linked, intersection, union, disjoint, InFamily}
use Rattle.premises.specs.Moves.{Codable}
use Rattle.premises.proofs.Ones.{sole, sole-below, power-ones, power-trailing}

-- more memberships, more sets
pub combined-more : {e family kind other X : ℕ} (P Q : Relation) → ((Ar Y : ℕ) → P Ar Y → Q Ar Y) → Combined P e family kind other X → Combined Q e family kind other X
combined-more P Q f (inclusion r q) = inclusion r q
combined-more P Q f (linking {t = t} {X = X} C r q p) = linking C r q (f (C · t) X p)
combined-more {e} P Q f (linked {Bs = Bs} r p q) = linked r (f Bs (2 ^ (role_in e / 32)) p) q
combined-more {e} P Q f (intersection {other = other} r p q) = intersection r (f other (set_in e) p) q
combined-more P Q f (union {other = other} Y r p q) = union Y r (f other Y p) q
combined-more P Q f (disjoint {other = other} Y r p z q) = disjoint Y r (f other Y p) z q

-- ---- what a set is given from, by the kind

module _ {P : Relation} {e : ℕ} where
  pub by_one : {family kind other X : ℕ} → kind ≡ 1 → Combined P e family kind other X → X ≡ set_in e
  by_one k (inclusion r q) = q
  by_one k (linking C r q p) = absurd (omega arith)
  by_one k (linked r p q) = absurd (omega arith)
  by_one k (intersection r p q) = absurd (omega arith)
  by_one k (union Y r p q) = absurd (omega arith)
  by_one k (disjoint Y r p z q) = absurd (omega arith)

  pub by_three : {family kind other X : ℕ} → kind ≡ 3 → Combined P e family kind other X → P other (set_in e) × (X ≡ set_in e)
  by_three k (inclusion r q) = absurd (omega arith)
  by_three k (linking C r q p) = absurd (omega arith)
  by_three k (linked r p q) = absurd (omega arith)
  by_three k (intersection r p q) = (p, q)
  by_three k (union Y r p q) = absurd (omega arith)
  by_three k (disjoint Y r p z q) = absurd (omega arith)

  pub by-pair : {family kind other X : ℕ} → 4 ≤ kind → Combined P e family kind other X → (Y : ℕ) × P other Y × Paired kind (set_in e) Y X
  by-pair k (inclusion r q) = absurd (omega arith)
  by-pair k (linking C r q p) = absurd (omega arith)
  by-pair k (linked r p q) = absurd (omega arith)
  by-pair k (intersection r p q) = absurd (omega arith)
  by-pair k (union Y r p q) = (Y, p, record { second = λ f. absurd (omega arith); joined = λ _. q; apart = λ f. absurd (omega arith) })
  by-pair k (disjoint Y r p z q) = (Y, p, record { second = λ f. absurd (omega arith); joined = λ _. q; apart = λ _. z })

  pub by_first : {family kind other X : ℕ} → kind ≡ 2 → family < 1024 → Combined P e family kind other X → (C : ℕ) × (set_in e ≡ 2 ^ C) × P (C · other) X
  by_first k l (inclusion r q) = absurd (omega arith)
  by_first k l (linking C r q p) = (C, q, p)
  by_first k l (linked r p q) = absurd (omega arith)
  by_first k l (intersection r p q) = absurd (omega arith)
  by_first k l (union Y r p q) = absurd (omega arith)
  by_first k l (disjoint Y r p z q) = absurd (omega arith)

  pub by-second : {family kind other X : ℕ} → kind ≡ 2 → 1024 ≤ family → role_in e < 1024 → Combined P e family kind other X → P other (2 ^ (role_in e / 32)) × (X ≡ set_in e)
  by-second k l m (inclusion r q) = absurd (omega arith)
  by-second k l m (linking C r q p) = absurd (omega arith)
  by-second k l m (linked r p q) = (p, q)
  by-second k l m (intersection r p q) = absurd (omega arith)
  by-second k l m (union Y r p q) = absurd (omega arith)
  by-second k l m (disjoint Y r p z q) = absurd (omega arith)

-- ---- a body's code

module _ {keys : List ℕ} {e code : ℕ} (c : Codable keys e code) (role : role_in (get_or keys e 0) < 1024) where
  abbrev a : ℕ
  a = get_or keys e 0

  -- what the body gives from entry e and the memberships in P
  abbrev pub Gets : Relation → ℕ → Type 0
  Gets P X = Combined P a (family_in code) (kind_in code) (other_in code) X

  -- the entry is of the body's family, unless that is a link's second
  pub by-role : family_in code < 1024 → role_in a ≡ family_in code
  by-role l = go c.family
    where
      go : InFamily keys e (family_in code) → role_in a ≡ family_in code
      go (inl q) = sym q
      go (inr q) = absurd (omega arith)

  pub by_name : 1024 ≤ family_in code → 1024 + role_in a % 32 ≡ family_in code
  by_name l = go c.family
    where
      go : InFamily keys e (family_in code) → 1024 + role_in a % 32 ≡ family_in code
      go (inl q) = absurd (omega arith)
      go (inr q) = sym q

  plain : (kind_in code ≡ 2 → ⊥) → role_in a ≡ family_in code
  plain ne = go c.family
    where
      go : InFamily keys e (family_in code) → role_in a ≡ family_in code
      go (inl q) = sym q
      go (inr q) = absurd (ne (c.named (omega arith)))

  module _ (P : Relation) where
    of-kind : {kind X : ℕ} → kind_in code ≡ kind → Combined P a (family_in code) kind (other_in code) X → Gets P X
    of-kind {X = X} k = subst⁻¹ (λ (x : ℕ). Combined P a (family_in code) x (other_in code) X) k

    pub gets-one : kind_in code ≡ 1 → Gets P (set_in a)
    gets-one k = of-kind k (inclusion (plain (λ f. omega arith)) refl)

    pub gets-same : kind_in code ≡ 3 → P (other_in code) (set_in a) → Gets P (set_in a)
    gets-same k p = of-kind k (intersection (plain (λ f. omega arith)) p refl)

    -- kinds 4 and 5
    pub gets-pair : 4 ≤ kind_in code → (Y X : ℕ) → P (other_in code) Y → Paired (kind_in code) (set_in a) Y X → Gets P X
    gets-pair k Y X p w = go (equal_or_not (kind_in code) 4)
      where
        ne : kind_in code ≡ 2 → ⊥
        ne f = omega arith

        go : (kind_in code ≡ 4) ⊎ (kind_in code ≡ 4 → ⊥) → Gets P X
        go (inl q) = of-kind q (union Y (plain ne) p (w.joined ne))
        go (inr nq) = let five : kind_in code ≡ 5 = omega (arith, c.kind) in of-kind five (disjoint Y (plain ne) p (w.apart five) (w.joined ne))

    -- kind 2, by the first premise
    module _ (k : kind_in code ≡ 2) (l : family_in code < 1024) where
      pub link-none : (ones (set_in a) ≡ 1 → ⊥) → (X : ℕ) → Gets P X → ⊥
      link-none ne X w = let u = by_first k l w in ne (power-ones (set_in a) (set_below a) u.0 u.1)

      pub gets-link : ones (set_in a) ≡ 1 → (Y X : ℕ) → P (count_trailing_zeros 32 (set_in a) * 32 + other_in code) Y → Paired 2 (set_in a) Y X → Gets P X
      gets-link o Y X p w =
          of-kind k
          (linking (count_trailing_zeros 32 (set_in a)) (by-role l) (sole (set_in a) (set_below a) o)
          (subst⁻¹ (λ (x : ℕ). P (count_trailing_zeros 32 (set_in a) · other_in code) x) (w.second refl) p))

      pub by-link : (X : ℕ) → Gets P X → (Y : ℕ) × P (count_trailing_zeros 32 (set_in a) * 32 + other_in code) Y × Paired 2 (set_in a) Y X
      by-link X w =
          let u = by_first k l w in
          let q = power-trailing (set_in a) (set_below a) u.0 u.1 in
          (X, subst⁻¹ (λ (x : ℕ). P (x · other_in code) X) q u.2, record { second = λ _. refl; joined = λ ne. absurd (ne refl); apart = λ f. absurd (omega arith) })

    -- kind 2, by the second premise
    pub gets-name : kind_in code ≡ 2 → 1024 ≤ family_in code → P (other_in code) (2 ^ (role_in a / 32)) → Gets P (set_in a)
    gets-name k l p = of-kind k (linked (by_name l) p refl)

  pub link-role : kind_in code ≡ 2 → family_in code < 1024 → ones (set_in a) ≡ 1 → count_trailing_zeros 32 (set_in a) * 32 + other_in code < 1024
  link-role k l o = omega (arith, sole-below (set_in a) (set_below a) o, c.name k l)

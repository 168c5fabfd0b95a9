-- The sequence of Definition 3 as lists, ascending by role, then by set; and the memberships at one minute.
use Rattle.std.specs.Prelude.{Bool, true, false, ◌||◌, ◌≡◌, ◌⊎◌, eqb, leb, length}
use mathlib.Core.List.{List, [], ◌∷◌, map, Memᴰ as Mem}
use Prim.Native.Nat.{ℕ, zero, suc, ◌<◌, ◌+◌, ◌/◌, ◌%◌, ◌^◌, compare, Ordering}
use Rattle.std.specs.Int.Bits.{bit_and, bit_or}
use Rattle.std.proofs.Math.Dec.{compare_is_eq}
use Rattle.meaning.specs.Lists.{only, each, sort}
use Rattle.meaning.specs.Sequence.{Relation}
use Rattle.meaning.specs.Credentials.{◌·◌, Body, set, role, link, ◌∩◌, ◌⊙◌, ◌⊗◌, Statement, Credential, valid_at}

-- a role with one of its sets
pub record Membership : Type 0 where
  pub role : ℕ
  pub set : ℕ

abbrev pub member : ℕ → ℕ → Membership
member Ar X = record { role = Ar; set = X }

-- the role has the set, in a list of memberships
abbrev pub In : List Membership → Relation
In M Ar X = Mem (member Ar X) M

-- by role, then by set
abbrev pub Before : Membership → Membership → Type 0
Before p q = (p.role < q.role) ⊎ ((p.role ≡ q.role) × (p.set < q.set))

abbrev pub then_by : Ordering → Ordering → Ordering
then_by Ordering.lt o = Ordering.lt
then_by Ordering.eq o = o
then_by Ordering.gt o = Ordering.gt

abbrev pub order : Membership → Membership → Ordering
order p q = then_by (compare p.role q.role) (compare p.set q.set)

abbrev pub has : Membership → List Membership → Bool
has p [] = false
has p (q ∷ qs) = compare_is_eq (order p q) || has p qs

-- the number of the lowest entity of a set, looked for among the first k
abbrev pub entity_in : ℕ → ℕ → ℕ
entity_in zero X = zero
entity_in (suc k) X = elim (X % 2) [ zero ↦ suc (entity_in k (X / 2)) | suc d ↦ zero ]

abbrev pub entity : ℕ → ℕ
entity X = entity_in X X

-- the set holds exactly one entity
abbrev pub single : ℕ → Bool
single X = eqb X (2 ^ entity X)

-- the sets of a role
abbrev pub sets_of : ℕ → List Membership → List ℕ
sets_of Ar M = each (λ p. only (eqb p.role Ar) (p.set ∷ [])) M

-- the sets that a body gives
abbrev pub given : List Membership → Body → List ℕ
given M (set X) = X ∷ []
given M (role Bs) = sets_of Bs M
given M (link Bs t) = each (λ Y. only (single Y) (sets_of (entity Y · t) M)) (sets_of Bs M)
given M (Bs ∩ Ct) = each (λ Y. each (λ Z. only (eqb Y Z) (Y ∷ [])) (sets_of Ct M)) (sets_of Bs M)
given M (Bs ⊙ Ct) = each (λ Y. each (λ Z. bit_or Y Z ∷ []) (sets_of Ct M)) (sets_of Bs M)
given M (Bs ⊗ Ct) = each (λ Y. each (λ Z. only (eqb (bit_and Y Z) 0) (bit_or Y Z ∷ [])) (sets_of Ct M)) (sets_of Bs M)

abbrev pub stated : List Membership → Statement → List Membership
stated M s = map (member s.head) (given M s.body)

-- S_(k+1) from S_k
abbrev pub next : List Statement → List Membership → List Membership
next ss M = sort order (each (stated M) ss)

-- S_k
abbrev pub level : List Statement → ℕ → List Membership
level ss zero = []
level ss (suc k) = next ss (level ss k)

-- The sequence until it no longer grows, in at most n rounds.
abbrev pub rounds : List Statement → ℕ → List Membership → List Membership
rounds ss zero M = M
rounds ss (suc n) M =
    let N : List Membership = next ss M in
    elim (leb (length N) (length M)) [ true ↦ M | false ↦ rounds ss n N ]

-- The fixpoint. There are at most 2 ^ 42 memberships of roles below 1,024 and sets below 2 ^ 32, so the rounds suffice.
unfoldable pub closure : List Statement → List Membership
closure ss = rounds ss (2 ^ 42 + 1) []

-- the memberships at a minute
abbrev pub members : List Credential → ℕ → List Membership
members cs m = closure (valid_at cs m)

-- the least k with the membership in S_k, in at most n rounds from S_k = M on
abbrev pub least_from : List Statement → Membership → ℕ → ℕ → List Membership → ℕ
least_from ss p zero k M = k
least_from ss p (suc n) k M = elim (has p M) [ true ↦ k | false ↦ least_from ss p n (suc k) (next ss M) ]

-- the least level of a membership at a minute
unfoldable pub least_level : List Credential → ℕ → Membership → ℕ
least_level cs m p = least_from (valid_at cs m) p (2 ^ 42 + 1) 0 []

-- The set-theoretic semantics: document 003, Definition 3, over the statements that are valid at one minute.
use Rattle.std.specs.Prelude.{◌≡◌, ℕ, zero, suc, ◌^◌, ◌<◌}
use mathlib.Core.List.{List, Memᴰ as Mem}
use Rattle.std.specs.Int.Bits.{bit_and, bit_or}
use Rattle.meaning.specs.Credentials.{◌·◌, Body, set, role, link, ◌∩◌, ◌⊙◌, ◌⊗◌, Statement}

-- a relation between roles and sets of entities
abbrev pub Relation : Type 1
Relation = ℕ → ℕ → Type 0

-- The function f of Definition 3: the set X that a body gives, by document 01's table of kinds. The first premise is taken from P and the
-- second from Q: in Definition 3 both are S_k, in a proof they are the two cited steps.
abbrev pub Gives : Relation → Relation → Body → ℕ → Type 0
Gives P Q (set Y) X = X ≡ Y
Gives P Q (role Bs) X = P Bs X
Gives P Q (link Bs t) X = (C : ℕ) × P Bs (2 ^ C) × Q (C · t) X
Gives P Q (Bs ∩ Ct) X = P Bs X × Q Ct X
Gives P Q (Bs ⊙ Ct) X = (Y Z : ℕ) × P Bs Y × Q Ct Z × (X ≡ bit_or Y Z)
Gives P Q (Bs ⊗ Ct) X = (Y Z : ℕ) × P Bs Y × Q Ct Z × (bit_and Y Z ≡ 0) × (X ≡ bit_or Y Z)

-- S_0 is empty; S_(k+1) is the union of what the statements give from S_k.
abbrev pub S : List Statement → ℕ → Relation
S ss zero Ar X = ⊥
S ss (suc k) Ar X = (s : Statement) × Mem s ss × (Ar ≡ s.head) × Gives (S ss k) (S ss k) s.body X

-- k is the least level at which the sequence has the membership
abbrev pub Least : List Statement → ℕ → Relation
Least ss k Ar X = S ss k Ar X × ((j : ℕ) → j < k → ¬ S ss j Ar X)

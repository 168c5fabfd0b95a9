-- The loop along the list of a role, from entry start - 1 on.
use mathlib.Core.Path.{◌≡◌, refl, ap}
use mathlib.Core.List.{List}
use Prim.Native.Nat.{ℕ, zero, suc, ◌-◌}
use native.Mathlib.Omega.{arith}
use borrow.Author.Tests.{eq-eqb}
use Rattle.store.specs.Entries.{latest}
use Rattle.heads.specs.Gaining.{Spanned, Origin}
use Rattle.heads.specs.Walks.{From, Along}
use Rattle.heads.specs.Heads.{FromHeads}
use Rattle.waiting.specs.declared.Offer.{Offer}
use Rattle.waiting.specs.Pairs.{role_of, Pairing}
use Rattle.portions.specs.Plans.{WithEntry}

-- what the heads of a body give from an offer and entry j, and by which pairs
abbrev pub Each : List ℕ → List ℕ → List ℕ → ℕ → List ℕ → List ℕ → Offer → ℕ → Spanned
Each codes valid lists body keys done o = WithEntry codes valid lists body keys done o.kind o.set o.spans

abbrev pub ByEach : List ℕ → List ℕ → ℕ → ℕ → List ℕ → List ℕ → ℕ → Offer → Origin
ByEach codes lists body own keys done start o = FromHeads codes lists body own (Pairing keys done start o.kind o.set)

-- what they give from the entries of the role at place d and after it, up to start
abbrev pub Passed : List ℕ → List ℕ → List ℕ → ℕ → List ℕ → List ℕ → ℕ → Offer → ℕ → Spanned
Passed codes valid lists body keys done start o d = From (role_of keys) (role_of keys (start - 1)) start d (Each codes valid lists body keys done o)

-- the loop at place c: what the entries passed give was added
abbrev pub Walked : ℕ → List ℕ → List ℕ → List ℕ → ℕ → List ℕ → List ℕ → List ℕ → ℕ → ℕ → List ℕ → ℕ → Offer → List ℕ → List ℕ → List ℕ → List ℕ → List ℕ → ℕ → ℕ → Type 0
Walked limit keys spans notes n codes valid lists body own done start o keys' spans' slots' links' notes' r c =
    Along limit keys spans notes n (role_of keys) (role_of keys (start - 1)) start (Each codes valid lists body keys done o) (ByEach codes lists body own keys done start o) keys' spans' slots' links' notes' r c

-- the list of a role may start at any entry of it
pub roles-start : (family : ℕ → ℕ) (start : ℕ) → start ≡ latest family (family (start - 1)) start
roles-start family zero = refl
roles-start family (suc n) = let e : n ≡ suc n - 1 = omega arith in simp (eq-eqb (family n) (family (suc n - 1)) (ap family e))

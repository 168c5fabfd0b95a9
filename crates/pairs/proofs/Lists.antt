-- The list of a role while entries are added, and the list of a body's heads.
use mathlib.Core.Path.{◌≡◌, ap, ◌∙◌}
use mathlib.Core.Logic.{◌⊎◌, inl, inr}
use mathlib.Core.List.{List}
use Prim.Native.Nat.{ℕ, ◌+◌, ◌-◌, ◌≤◌, ◌<◌}
use native.Mathlib.Omega.{arith}
use lib.ListN.{get_or}
use Rattle.store.specs.Entries.{role_in, Stored, Grown, latest}
use Rattle.store.proofs.Chains.{latest-same, latest-none}
use Rattle.rules.specs.Uses.{Listed, body_of_head, bodies_in, heads_in}
use Rattle.heads.specs.Walks.{On}
use Rattle.heads.proofs.Walks.{on-latest, passed}
use Rattle.heads.proofs.Heads.{heads-start, heads-next}
use Rattle.waiting.specs.Pairs.{role_of}
use Rattle.pairs.specs.Pairs.{OnlyHead}

-- ---- entries

-- the lists have grown, and the entry before an old one is the same
pub roles-next : {keys spans keys' spans' slots' links' : List ℕ} {n r : ℕ} → Stored keys' slots' links' r → Grown keys spans n keys' spans' r → (role start c d : ℕ) → start ≤ n → (c ≡ 0 → ⊥) → On (role_of keys) role start c → d ≡ get_or links' (c - 1) 0 → d ≡ latest (role_of keys) role (c - 1)
roles-next {keys} {keys' = keys'} {n = n} st g role start c d l nz on e =
    let o = on nz in
    let m = g.more in
    let q : role_of keys' (c - 1) ≡ role = ap role_in (g.same (c - 1) (omega arith)) ∙ o.1 in
    e ∙ st.chained.prevs (c - 1) (omega arith) ∙ ap (λ (x : ℕ). latest (role_of keys') x (c - 1)) q
    ∙ latest-same (role_of keys) role (role_of keys') (c - 1) (λ i k. ap role_in (g.same i (omega arith)))

-- ---- heads

module _ {codes valid lists : List ℕ} (l : Listed codes valid lists) (body c : ℕ) (low : body < bodies_in lists) (first : c ≡ get_or lists (2080 + body) 0) where
  start : c ≡ latest (body_of_head codes) body (heads_in lists)
  start = heads-start l body c (omega (arith, l.few)) first

  module _ (nz : c ≡ 0 → ⊥) where
    on : On (body_of_head codes) body (heads_in lists) c
    on = on-latest (body_of_head codes) body (heads_in lists) c (heads_in lists) (omega arith) start

    pub head-low : c ≤ 512
    head-low = omega (arith, (on nz).0, l.few)

    pub only-head : (d : ℕ) → d ≡ get_or lists (1568 + (c - 1)) 0 → d ≡ 0 → OnlyHead codes lists body (c - 1)
    only-head d e z =
        record {
          low = (on nz).0;
          of = (on nz).1;
          only = λ i k f. go i k f (passed (body_of_head codes) body (heads_in lists) c d i nz (heads-next l body c d nz on e) (omega arith) f);
        }
      where
        go : (i : ℕ) → i < heads_in lists → body_of_head codes i ≡ body → (c ≤ i) ⊎ (i ≡ c - 1) → i ≡ c - 1
        go i k f (inl p) = absurd (latest-none (body_of_head codes) body (heads_in lists) i (omega (arith, start)) k f)
        go i k f (inr q) = q

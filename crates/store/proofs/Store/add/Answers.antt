-- The cases of `Adding`.
use Rattle.std.proofs.Common.{arith, ◌≡◌, ◌-◌, ◌<◌, ◌∙◌, sym, ℕ, List, get_or}
use Rattle.store.specs.Entries.{At, Stored}
use Rattle.store.proofs.Searches.{leading, entry_at}
use Rattle.store.proofs.Adding.{added_none, added-known, added-over, added-by}
use Rattle.store.proofs.Store.add.Goals as goal

-- the entry to which a slot that is in use leads
found : {keys slots links : List ℕ} {n key p w : ℕ} → Stored keys slots links n → At keys slots key p → w ≡ get_or slots p 0 → (w ≡ 0 → ⊥) → (w - 1 < n) × (get_or keys (w - 1) 0 ≡ key)
found {keys} {slots} {n = n} {w = w} o a e nz = (entry_at keys slots n o.searchable a).present (w - 1) (omega arith)

pub returns-then-m-eq0-clause-added : goal.returns-then-m-eq0-clause-added
returns-then-m-eq0-clause-added c =
    let a = c.args in
    let s = a.self.now in
    added_none a.limit a.key a.m s.keys s.spans s.slots s.links s.count c.requires.stored.0 c.requires.few.0 c.if-m-eq0.true

pub find-p-requires : goal.find-p-requires
find-p-requires c =
    let s = c.args.self.now in
    let o = c.requires.stored.0 in
    leading s.keys s.slots s.count o.searchable o.few

pub bounds-self-c : goal.bounds-self-c
bounds-self-c c =
    let u = found c.requires.stored.0 c.find-p.ensures c.wide-c.ensures.0 c.if-c-ne0.true in let f = c.requires.stored.0.few in omega arith

pub bounds-self-c-then-c-ne0 : goal.bounds-self-c-then-c-ne0
bounds-self-c-then-c-ne0 c =
    let u = found c.requires.stored.0 c.find-p.ensures c.wide-c.ensures.0 c.if-c-ne0.true in let f = c.requires.stored.0.few in omega arith

pub returns-then-c-ne0-clause-added : goal.returns-then-c-ne0-clause-added
returns-then-c-ne0-clause-added c =
    let a = c.args in
    let s = a.self.now in
    let o = c.requires.stored.0 in
    let u = found o c.find-p.ensures c.wide-c.ensures.0 c.if-c-ne0.true in
    added-known a.limit a.key a.m s.keys s.spans s.slots s.links s.count o (c.wide-c.result - 1) c.requires.few.0 c.requires.stored.1 u.0 u.1

pub returns-then-limit-self-clause-added : goal.returns-then-limit-self-clause-added
returns-then-limit-self-clause-added c =
    let a = c.args in
    let s = a.self.now in
    let o = c.requires.stored.0 in
    added-over a.limit a.key a.m s.keys s.spans s.slots s.links s.count o c.requires.few.0 c.if-limit-self.true c.if-m-eq0.false ((entry_at s.keys s.slots s.count o.searchable c.find-p.ensures).absent (sym c.wide-c.ensures.0 ∙ c.if-c-ne0.false))

pub returns-clause-added : goal.returns-clause-added
returns-clause-added c =
    let a = c.args in
    let s = a.self.now in
    let d = c.append.new.self in
    let e = c.append.ensures in
    added-by a.limit a.key s.keys s.slots s.links s.count c.find-p.result c.requires.stored.0 c.if-limit-self.false c.requires.few.1 c.requires.role c.find-p.ensures (sym c.wide-c.ensures.0 ∙ c.if-c-ne0.false) a.m s.spans c.requires.stored.1
    d.keys d.spans d.slots d.links d.count c.if-m-eq0.false e.keys e.spans e.slots e.links e.count

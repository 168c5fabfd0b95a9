use mathlib.Core.Path.{◌≡◌, refl}
use Prim.Native.Nat.{◌-◌, ◌≤◌}
use native.Mathlib.Omega.{arith}
use Rattle.std.proofs.lemmas.Result.{err_from_is_err_and}
use Rattle.store.specs.Entries.{latest}
use Rattle.store.proofs.Searches.{leading}
use Rattle.store.proofs.Stores.{grown-trans}
use Rattle.heads.specs.Gaining.{Gains}
use Rattle.heads.proofs.Walks.{lower, along-over}
use Rattle.waiting.specs.Pairs.{role_of}
use Rattle.pairs.proofs.Lists.{roles-next}
use Rattle.pairs.proofs.OneHead.{entry-there, entry-added, walked_next}
use Rattle.portions.proofs.Walks.{Each, ByEach}
use Rattle.pairs.proofs.with_head.Goals as goal
use Rattle.pairs.proofs.with_head.Goals.{After-wide-at, then-g-ne0+in_ok-add_head, else-g-ne0}

-- all that the entry at the place gives is there after the turn
turned : (c : After-wide-at) →
    let a = c.args in
    let l = c.loop-at in
    let s = c.if-g-ne0.store in
    (s.count ≤ a.p.limit)
    × Gains a.p.limit l.store.keys l.store.spans l.store.notes l.store.count (Each a.uses.now.codes a.uses.now.valid a.uses.now.lists a.p.body a.store.now.keys a.done.now a.p.offer (l.at - 1)) (ByEach a.uses.now.codes a.uses.now.lists a.p.body a.p.own a.store.now.keys a.done.now a.p.start a.p.offer) s.keys s.spans s.slots s.links s.notes s.count
turned c =
    let o = c.args.p.offer in
    let p = c.requires in
    let v = c.loop-at.invariant in
    elim c.if-g-ne0.branch [
      | then-g-ne0+in_ok-add_head w ↦
          let h = rw (c.lacking-g.ensures.some w.if-g-ne0.true) at w.in_ok-add_head.ensures in
          rw w.store-is (h.within, entry-added o p.only v p.plan.0 c.loop-at-test.true h.gains)
      | else-g-ne0 w ↦
          rw w.store-is
          (v.few, entry-there o p.only v p.plan.0 c.loop-at-test.true c.head_role-role.ensures refl (c.lacking-g.ensures.none w.if-g-ne0.false c.loop-at.store.count (v.gains.kept v.few).stored.searchable))
    ]

-- the next place of the list
next : (c : After-wide-at) → c.wide-at.result ≡ latest (role_of c.args.store.now.keys) (role_of c.args.store.now.keys (c.args.p.start - 1)) (c.loop-at.at - 1)
next c =
    let v = c.loop-at.invariant in
    let g = turned c in
    roles-next (g.1.kept g.0).stored (grown-trans (v.gains.grown v.few) (g.1.grown g.0)) (role_of c.args.store.now.keys (c.args.p.start - 1)) c.args.p.start c.loop-at.at c.wide-at.result c.requires.plan.0 c.loop-at-test.true v.on c.wide-at.ensures.0

pub lacking-g-requires-clause-leading : goal.lacking-g-requires-clause-leading
lacking-g-requires-clause-leading c =
    let l = c.loop-at in
    let k = (l.invariant.gains.kept l.invariant.few).stored in
    leading l.store.keys l.store.slots l.store.count k.searchable k.few

pub returns-in_err-add_head : goal.returns-in_err-add_head
returns-in_err-add_head c =
    let e = err_from_is_err_and c.from_residual.result c.from_residual.ensures.1 in
    let v = c.loop-at.invariant in
    let h = rw (c.lacking-g.ensures.some c.if-g-ne0.true) at c.in_err-add_head.ensures in
    rw e.1
    (record { gains = along-over v c.loop-at-test.true (entry-added c.args.p.offer c.requires.only v c.requires.plan.0 c.loop-at-test.true h.gains) (λ k s w. w) (omega arith); within = h.within })

pub loop-at-smaller : goal.loop-at-smaller
loop-at-smaller c =
    lower (role_of c.args.store.now.keys) (role_of c.args.store.now.keys (c.args.p.start - 1)) c.args.p.start c.loop-at.at c.wide-at.result c.loop-at-test.true (next (goal.at.loop-at-smaller c).After-wide-at)

pub loop-at-preserved : goal.loop-at-preserved
loop-at-preserved c =
    let k = (goal.at.loop-at-preserved c).After-wide-at in
    let g = turned k in
    walked_next c.args.p.offer c.requires.only c.loop-at.invariant c.requires.plan.0 c.loop-at-test.true g.1 g.0 (next k)

-- `firing::fire_body` adds to the heads of a body what its move gives, in the spans in which some head of it is valid.
use Rattle.store.proofs.Searches.{leading}
use Rattle.firing.proofs.Moving.{without-spans, without-offer, by-set, by-each}
use Rattle.firing.proofs.fire_body.Goals as goal

pub returns-then-d-eq0 : goal.returns-then-d-eq0
returns-then-d-eq0 c = let r = c.requires in without-spans c.args.store.now c.args.uses.now r.ready r.firing c.body_spans.result c.body_spans.ensures c.if-d-eq0.true

pub plan-m-requires-clause-leading : goal.plan-m-requires-clause-leading
plan-m-requires-clause-leading c = let s = c.requires.ready.kept.stored in leading c.args.store.now.keys c.args.store.now.slots c.args.store.now.count s.searchable s.few

pub returns-then-offer-eq0 : goal.returns-then-offer-eq0
returns-then-offer-eq0 c =
    let r = c.requires in
    without-offer c.args.store.now c.args.uses.now r.ready r.firing c.body_spans.result c.body_spans.ensures c.plan-m.result c.plan-m.ensures c.if-offer-eq0.true

pub returns-then-m : goal.returns-then-m
returns-then-m c =
    let r = c.requires in
    by-each c.args.store.now c.args.uses.now r.ready r.firing c.body_spans.result c.body_spans.ensures c.plan-m.result c.plan-m.ensures c.if-offer-eq0.false c.if-m.true (rw c.plan_of-p.ensures at c.with_each.ensures)

pub returns : goal.returns
returns c =
    let r = c.requires in
    by-set c.args.store.now c.args.uses.now r.ready r.firing c.body_spans.result c.body_spans.ensures c.plan-m.result c.plan-m.ensures c.if-offer-eq0.false c.if-m.false (rw c.gift_of-g.ensures at c.add_heads.ensures)

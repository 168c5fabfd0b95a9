-- A slot that is in use has an entry whose own slots come later.
use Rattle.std.proofs.Common.{arith}
use Rattle.store.specs.Entries.{here}
use Rattle.store.proofs.Searches.{onward, slot-used, at-empty, at_entry}
use Rattle.store.proofs.find.Goals as goal

pub returns-then-c-eq0 : goal.returns-then-c-eq0
returns-then-c-eq0 c =
    at-empty c.args.keys.now c.args.slots.now c.requires c.loop-key.p c.wide-c.result c.wide-c.ensures.0 c.args.key c.loop-key.invariant.within (c.loop-key.invariant.onward c.loop-key.p here) c.if-c-eq0.true

pub bounds-keys-c : goal.bounds-keys-c
bounds-keys-c c =
    let u = slot-used c.args.keys.now c.args.slots.now c.requires c.loop-key.p c.wide-c.result c.wide-c.ensures.0 c.if-c-eq0.false in omega arith

pub returns-then-keys-c : goal.returns-then-keys-c
returns-then-keys-c c =
    at_entry c.args.keys.now c.args.slots.now c.requires c.loop-key.p c.wide-c.result c.wide-c.ensures.0 c.args.key c.loop-key.invariant.within (c.loop-key.invariant.onward c.loop-key.p here) c.if-keys-c.true

pub loop-key-smaller : goal.loop-key-smaller
loop-key-smaller c =
    let u = slot-used c.args.keys.now c.args.slots.now c.requires c.loop-key.p c.wide-c.result c.wide-c.ensures.0 c.if-c-eq0.false in omega arith

pub loop-key-preserved : goal.loop-key-preserved
loop-key-preserved c =
    let u = slot-used c.args.keys.now c.args.slots.now c.requires c.loop-key.p c.wide-c.result c.wide-c.ensures.0 c.if-c-eq0.false in
    record {
      within = omega arith;
      onward = λ q h. c.loop-key.invariant.onward q (onward c.args.keys.now c.args.slots.now c.args.key c.loop-key.p c.loop-key.x q c.wide-c.result c.wide-c.ensures.0 c.if-c-eq0.false c.if-keys-c.false h);
    }

-- No room, a set that is known or in no spans, and a new entry with its note.
use Rattle.std.proofs.Common.{arith}
use Rattle.heads.proofs.Gaining.{gains-full, gains-old, gains-new}
use Rattle.heads.proofs.Stores.{adds-full}
use Rattle.facts.proofs.Sets.{set-gains, set-fact}
use Rattle.facts.proofs.load_set.Goals as goal

pub returns-in_err-add : goal.returns-in_err-add
returns-in_err-add c =
    let a = c.args in
    let k = c.in_err-add.ensures in
    adds-full c.from_residual.ensures.0 k.within
    (set-gains a.policy.now a.i a.ends.now a.count c.statement_at-s.ensures _ c.if-s-ne0.false c.mask_at-v.ensures c.key_of.ensures
    (rw k.notes (gains-full c.requires.kept k.added (omega arith))))

pub returns-then-store-n : goal.returns-then-store-n
returns-then-store-n c =
    let a = c.args in
    let k = c.in_ok-add.ensures in
    record {
      gains =
          set-gains a.policy.now a.i a.ends.now a.count c.statement_at-s.ensures _ c.if-s-ne0.false c.mask_at-v.ensures c.key_of.ensures
          (rw k.notes (gains-old c.requires.kept k.added c.if-store-n.true));
      within = k.within;
    }

pub returns : goal.returns
returns c =
    let a = c.args in
    let k = c.in_ok-add.ensures in
    let o = c.note.ensures.others in
    let by = set-fact a.policy.now a.i a.ends.now a.count c.statement_at-s.ensures _ c.if-s-ne0.false c.mask_at-v.ensures c.key_of.ensures k.added k.within c.if-store-n.false in
    record {
      gains =
          rw (o.keys, o.spans, o.slots, o.links, o.count)
          (set-gains a.policy.now a.i a.ends.now a.count c.statement_at-s.ensures _ c.if-s-ne0.false c.mask_at-v.ensures c.key_of.ensures
          (gains-new c.requires.kept k.added a.i 0 0 k.within c.if-store-n.false (cc) (omega arith) (omega arith) by));
      within = rw o.count k.within;
    }

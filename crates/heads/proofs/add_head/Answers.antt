-- One key is added, and a new entry is noted by the source of the head.
use Rattle.std.proofs.Common.{arith, ap}
use Rattle.heads.specs.Heads.{credential_by, first_by, second_by}
use Rattle.heads.proofs.Gaining.{gains-key, gains-full, gains-old, gains-new}
use Rattle.heads.proofs.Heads.{cited-low}
use Rattle.heads.proofs.Stores.{adds-full}
use Rattle.heads.proofs.add_head.Goals as goal

pub returns-in_err-add : goal.returns-in_err-add
returns-in_err-add c =
    let k = c.in_err-add.ensures in
    adds-full c.from_residual.ensures.0 k.within (gains-key {key = c.key_of-key.result} _ (cc) (rw k.notes (gains-full c.requires.kept k.added (omega arith))))

pub returns-then-store-n : goal.returns-then-store-n
returns-then-store-n c =
    let k = c.in_ok-add.ensures in
    record { gains = gains-key {key = c.key_of-key.result} _ (cc) (rw k.notes (gains-old c.requires.kept k.added c.if-store-n.true)); within = k.within }

pub returns : goal.returns
returns c =
    let k = c.in_ok-add.ensures in
    let o = c.note_head.ensures.others in
    let x = c.source_of.result in
    let g = c.args.g in
    let low = cited-low x g.own g.other c.args.store.now.count c.requires.gift.1 c.requires.gift.2 in
    record {
      gains =
          rw (o.keys, o.spans, o.slots, o.links, o.count)
          (gains-key {key = c.key_of-key.result} _ (cc)
          (gains-new c.requires.kept k.added (credential_by x) (first_by x g.own g.other) (second_by x g.own g.other) k.within c.if-store-n.false (cc) low.0 low.1
          record {
            key = cc;
            credential = ap credential_by c.source_of.ensures;
            cited = ap (λ y. first_by y g.own g.other) c.source_of.ensures;
            partner = ap (λ y. second_by y g.own g.other) c.source_of.ensures;
          }));
      within = rw o.count k.within;
    }

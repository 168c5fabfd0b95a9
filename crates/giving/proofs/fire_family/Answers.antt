-- A family without bodies gives nothing.
use Rattle.firing.proofs.Firings.{family-low}
use Rattle.giving.proofs.Families.{no-bodies}
use Rattle.giving.proofs.fire_family.Goals as goal

pub returns-then-first_body-eq0 : goal.returns-then-first_body-eq0
returns-then-first_body-eq0 c =
    let a = c.args in
    let h = c.requires.held in
    let t = c.requires.firing in
    record {
      gains = no-bodies c.requires.listed.0 h.kept c.requires.few.0 (family-low a.store.now.keys a.t.e a.family (h.kept.stored.roles a.t.e t.low) c.requires.family) c.first_body.ensures c.if-first_body-eq0.true;
      within = c.requires.few.0;
    }

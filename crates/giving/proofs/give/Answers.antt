-- What an entry gives closes its new spans.
use Rattle.giving.proofs.Giving.{gains-gave}
use Rattle.giving.proofs.give.Goals as goal

pub returns : goal.returns
returns c =
    let a = c.args in
    let p = c.requires in
    record {
      gave = gains-gave p.held a.v p.entry.0 a.uses.now.codes a.uses.now.valid a.uses.now.lists p.few.0 p.entry.1 c.not_done-d.ensures.1 c.not_done-d.ensures.0 c.fire_both.ensures.gains;
      within = c.fire_both.ensures.within;
    }

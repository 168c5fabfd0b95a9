use Rattle.waiting.proofs.Uniting.{stored-joined, stored-new}
use Rattle.waiting.proofs.unite.Goals as goal

pub returns-then-place-count : goal.returns-then-place-count
returns-then-place-count c =
    let r = c.place_of-place in
    stored-joined r.ensures.1 c.requires.waiting r.result c.if-place-count.true (r.ensures.0.equal c.if-place-count.true)

pub returns : goal.returns
returns c = stored-new c.place_of-place.ensures.1 c.requires.waiting c.requires.some.0 c.requires.some.1 c.requires.fits.0

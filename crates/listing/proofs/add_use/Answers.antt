-- First the body is placed, which leaves the uses as they were, then the head.
use Rattle.std.proofs.Common.{◌<◌, ℕ, List, arith}
use mathlib.Core.Logic.{⊎_elim}
use Rattle.rules.specs.Uses.{bodies_in}
use Rattle.listing.specs.Places.{BodyPlaced}
use Rattle.listing.proofs.Searching.{last-body, last-head, body-list, head-list}
use Rattle.listing.proofs.Bodies.{body-placed}
use Rattle.listing.proofs.Heads.{head-placed}
use Rattle.listing.proofs.Placing.{use-placed}
use Rattle.listing.proofs.add_use.Goals as goal

below : {codes lists codes' lists' : List ℕ} {family code r : ℕ} → BodyPlaced codes lists family code codes' lists' r → bodies_in lists < 512 → r < 512
below p few = ⊎_elim (λ x. omega arith) (λ x. omega arith) p.placed

pub body_at-body-requires-clause-items : goal.body_at-body-requires-clause-items
body_at-body-requires-clause-items c = body-list c.requires.listed _ c.requires.fitting.family

pub body_at-body-requires-clause-room : goal.body_at-body-requires-clause-room
body_at-body-requires-clause-room c = (c.requires.room.0, c.requires.fitting.family, last-body c.requires.listed _ c.requires.fitting.family)

pub add_head-requires-clause-items : goal.add_head-requires-clause-items
add_head-requires-clause-items c =
    let p = c.body_at-body.ensures in
    let d = body-placed _ c.requires.fitting c.requires.listed c.requires.room.0 p.placed in
    head-list d.listed _ (below p.placed c.requires.room.0)

pub add_head-requires-clause-room : goal.add_head-requires-clause-room
add_head-requires-clause-room c =
    let p = c.body_at-body.ensures in
    let d = body-placed _ c.requires.fitting c.requires.listed c.requires.room.0 p.placed in
    let low = below p.placed c.requires.room.0 in
    (omega (arith, d.none, c.requires.room.1), low, last-head d.listed _ low)

pub returns : goal.returns
returns c =
    let p = c.body_at-body.ensures in
    let d = body-placed _ c.requires.fitting c.requires.listed c.requires.room.0 p.placed in
    let h = rw p.valid at c.add_head.ensures in
    let a = head-placed _ c.requires.fitting _ _ d.listed (omega (arith, d.none, c.requires.room.1)) d.low d.coded h in
    use-placed c.requires.listed d a.0 a.1

-- A byte is passed, or a comma and the entity before it.
use Rattle.std.proofs.Common.{sym, ◌∙◌}
use Rattle.sets.proofs.Scanning.{taken, passed}
use Rattle.sets.proofs.parse_list.Goals as goal
use Rattle.sets.proofs.parse_list.Goals.{then-bytes-i-eq44+in_ok-set, else-bytes-i-eq44}

pub loop-i-preserved : goal.loop-i-preserved
loop-i-preserved c =
    let p = c.loop-i.invariant in
    let h = c.loop-i-test.true in
    elim c.if-bytes-i-eq44.branch [
      | then-bytes-i-eq44+in_ok-set w ↦ rw (w.set-is, w.from-is) (taken p h w.if-bytes-i-eq44.true (sym w.with_entity.ensures ∙ w.in_ok-set.was))
      | else-bytes-i-eq44 w ↦ rw (w.set-is, w.from-is) (passed p h w.if-bytes-i-eq44.false)
    ]

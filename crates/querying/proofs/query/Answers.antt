-- The steps of the proof are written, zeros after 10 and 13, and nothing after other refusals.
use Rattle.std.proofs.Common.{refl, sym}
use Rattle.withdrawals.specs.Source.{◌without◌}
use Rattle.asking.specs.Asking.{request, step_lists}
use Rattle.querying.proofs.Replies.{steps-fit, queried-kept, queried-written}
use Rattle.querying.proofs.query.Goals as goal

pub returns-then-not-lists_written : goal.returns-then-not-lists_written
returns-then-not-lists_written c =
    let a = c.args in
    let t = step_lists a.credential.now a.first.now a.second.now a.sets.now in
    let p = c.prove-answer.ensures t (record { credential = refl; first = refl; second = refl; sets = refl }) in
    queried-kept (a.file.now without a.withdrawals.now) (request a.role a.set a.minute) t p (sym c.if-not-lists_written.ensures)

pub write-requires : goal.write-requires
write-requires c =
    let a = c.args in
    let t = step_lists a.credential.now a.first.now a.second.now a.sets.now in
    let p = c.prove-answer.ensures t (record { credential = refl; first = refl; second = refl; sets = refl }) in
    steps-fit (a.file.now without a.withdrawals.now) (request a.role a.set a.minute) t p c.steps_of.ensures

pub returns : goal.returns
returns c =
    let a = c.args in
    let t = step_lists a.credential.now a.first.now a.second.now a.sets.now in
    let p = c.prove-answer.ensures t (record { credential = refl; first = refl; second = refl; sets = refl }) in
    let w = c.write.ensures in
    queried-written (a.file.now without a.withdrawals.now) (request a.role a.set a.minute) t p (sym c.if-not-lists_written.ensures) c.steps_of.ensures w.credential w.first w.second w.sets

-- `complete_bytes::complete` answers as completing does, and the lists hold the entries of what completing leaves, as bytes.
use mathlib.Core.Path.{◌≡◌}
use Rattle.completing.specs.Completing.{lent}
use Rattle.replies.specs.Interface.{word}
use Rattle.withdrawals.specs.Source.{◌without◌}
use Rattle.complete_bytes.specs.Interface.{complete_bytes}
use Rattle.complete_bytes.proofs.Tables.{completed}
use Rattle.complete_bytes.proofs.complete.Goals as goal
use Rattle.complete_bytes.proofs.complete.Goals.{After-number_of}

both : (c : After-number_of) →
    (c.number_of.result ≡ word (λ n. n) (complete_bytes (c.args.file.now without c.args.withdrawals.now) (lent c.args.roles.now c.args.sets.now c.args.spans.now)).reply)
    × (lent c.encode32.new.dst c.encode32-2.new.dst c.encode64.new.dst ≡ (complete_bytes (c.args.file.now without c.args.withdrawals.now) (lent c.args.roles.now c.args.sets.now c.args.spans.now)).lists)
both c =
    completed (c.args.file.now without c.args.withdrawals.now) (lent c.args.roles.now c.args.sets.now c.args.spans.now) c.args.n c.requires
    c.room32-role_room.result c.room32-set_room.result c.room64-span_room.result c.room32-role_room.ensures c.room32-set_room.ensures c.room64-span_room.ensures
    c.complete-answer.auto.roles c.complete-answer.auto.sets c.complete-answer.auto.spans c.complete-answer.ensures c.number_of.ensures c.changed-count.ensures
    c.encode32.ensures c.encode32-2.ensures c.encode64.ensures

pub returns-clause-value : goal.returns-clause-value
returns-clause-value c = (both ((goal.at.returns-clause-value c).After-number_of)).0

pub returns-clause-spans_after : goal.returns-clause-spans_after
returns-clause-spans_after c = (both ((goal.at.returns-clause-spans_after c).After-number_of)).1

-- `check_bytes::check` meets its contract.
use mathlib.Core.Path.{sym, ◌∙◌}
use Rattle.asking.specs.Asking.{request, step_lists}
use Rattle.replies.proofs.Leaving.{room-part}
use Rattle.check_bytes.proofs.Checks.{checked}
use borrow.Author.Rules.{rules}
use Rattle.check_bytes.proofs.check.Statement.{statement}
use Rattle.withdrawals.specs.Source.{◌without◌}
use Rattle.check_bytes.proofs.check.Tie as tie

fewer-requires : tie.Need-fewer-count-requires
fewer-requires c κs = search rules

room32-requires : tie.Need-room32-credential_room-requires
room32-requires c κs = search rules

room32-requires-2 : tie.Need-room32-first_room-requires
room32-requires-2 c κs = search rules

room32-requires-3 : tie.Need-room32-second_room-requires
room32-requires-3 c κs = search rules

room32-requires-4 : tie.Need-room32-set_room-requires
room32-requires-4 c κs = search rules

read-requires : tie.Need-read-requires
read-requires c κs = search rules

read-requires-2 : tie.Need-read-requires-2
read-requires-2 c κs = search rules

read-requires-3 : tie.Need-read-requires-3
read-requires-3 c κs = search rules

read-requires-4 : tie.Need-read-requires-4
read-requires-4 c κs = search rules

array-share-prefix-credential-room : tie.Need-slice_bounds-credential_room-end
array-share-prefix-credential-room c = search rules

slice-aggregate-check : tie.Need-slice_bounds-check-end
slice-aggregate-check c = sym (room-part c.before.before.before.before.before.before.before.before.before.before.before.before.before.before.before.before.before.before.before.before.args.n c.before.before.before.before.before.before.before.read.new.room c.before.before.before.before.before.before.before.read.ensures.0 c.before.before.before.before.before.before.before.before.before.before.before.before.before.before.before.before.before.before.before.before.requires.few)

array-share-prefix-first-room : tie.Need-slice_bounds-first_room-end
array-share-prefix-first-room c = search rules

slice-aggregate-check-2 : tie.Need-slice_bounds-check-end-2
slice-aggregate-check-2 c = sym (room-part c.before.before.before.before.before.before.before.before.before.before.before.before.before.before.before.before.before.before.before.before.before.args.n c.before.before.before.before.before.before.read-2.new.room c.before.before.before.before.before.before.read-2.ensures.0 c.before.before.before.before.before.before.before.before.before.before.before.before.before.before.before.before.before.before.before.before.before.requires.few)

array-share-prefix-second-room : tie.Need-slice_bounds-second_room-end
array-share-prefix-second-room c = search rules

slice-aggregate-check-3 : tie.Need-slice_bounds-check-end-3
slice-aggregate-check-3 c = sym (room-part c.before.before.before.before.before.before.before.before.before.before.before.before.before.before.before.before.before.before.before.before.before.before.args.n c.before.before.before.before.before.read-3.new.room c.before.before.before.before.before.read-3.ensures.0 c.before.before.before.before.before.before.before.before.before.before.before.before.before.before.before.before.before.before.before.before.before.before.requires.few)

array-share-prefix-set-room : tie.Need-slice_bounds-set_room-end
array-share-prefix-set-room c = search rules

slice-aggregate-check-4 : tie.Need-slice_bounds-check-end-4
slice-aggregate-check-4 c = sym (room-part c.before.before.before.before.before.before.before.before.before.before.before.before.before.before.before.before.before.before.before.before.before.before.before.args.n c.before.before.before.before.read-4.new.room c.before.before.before.before.read-4.ensures.0 c.before.before.before.before.before.before.before.before.before.before.before.before.before.before.before.before.before.before.before.before.before.before.before.requires.few)

check-requires : tie.Need-check-requires
check-requires c κs = search rules

number-of-requires : tie.Need-number_of-requires
number-of-requires c κs = search rules

returns : tie.Need-returns
returns c = let a = c.before.before.before.before.before.before.before.before.before.before.before.before.before.before.before.before.before.before.before.before.before.before.before.before.before.args in
    c.number_of.ensures ∙ checked (a.file.now without a.withdrawals.now) (request a.role a.set a.minute) (step_lists a.credential.now a.first.now a.second.now a.sets.now) a.n a.steps c.before.before.before.before.before.before.before.before.before.before.before.before.before.before.before.before.before.before.fewer-count.result c.before.before.before.before.before.before.before.before.before.before.before.before.before.before.before.before.before.before.before.before.before.before.before.before.before.requires c.before.before.before.before.before.before.before.before.before.before.before.before.before.before.before.before.before.before.fewer-count.ensures (step_lists c.before.before.before.before.before.before.before.before.before.before.before.before.read.new.room c.before.before.before.before.before.before.before.before.before.before.read-2.new.room c.before.before.before.before.before.before.before.before.read-3.new.room c.before.before.before.before.before.before.read-4.new.room) c.before.before.before.before.before.before.before.before.before.before.before.before.read.ensures c.before.before.before.before.before.before.before.before.before.before.read-2.ensures c.before.before.before.before.before.before.before.before.read-3.ensures c.before.before.before.before.before.before.read-4.ensures c.before.check.ensures

pub check_spec : {M : Type 1} → statement M
check_spec =
    tie.close
    (tie.spec
    fewer-requires
    room32-requires
    room32-requires-2
    room32-requires-3
    room32-requires-4
    read-requires
    read-requires-2
    read-requires-3
    read-requires-4
    array-share-prefix-credential-room
    slice-aggregate-check
    array-share-prefix-first-room
    slice-aggregate-check-2
    array-share-prefix-second-room
    slice-aggregate-check-3
    array-share-prefix-set-room
    slice-aggregate-check-4
    check-requires
    number-of-requires
    returns)

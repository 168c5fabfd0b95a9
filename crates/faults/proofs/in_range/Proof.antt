-- `in_range` meets its contract.
use mathlib.Core.Path.{sym}
use Rattle.file.proofs.Uses.{in-range-kind}
use borrow.Author.Rules.{rules}
use Rattle.faults.proofs.in_range.Statement.{statement}
use Rattle.faults.proofs.in_range.Tie as tie

mul_at : tie.Need-overflow_mul-at
mul_at c = search rules

add_at : tie.Need-overflow_add-at
add_at c = search rules

shared-slice-read-used-by : tie.Need-bounds-file-at
shared-slice-read-used-by c = search rules

used-by-requires : tie.Need-used_by-u-requires
used-by-requires c κs = search rules

add-below : tie.Need-overflow_add-at-2
add-below c = search rules

below-requires : tie.Need-below-requires
below-requires c κs = search rules

add-below-2 : tie.Need-overflow_add-at-3
add-below-2 c = search rules

below-requires-2 : tie.Need-below-requires-2
below-requires-2 c κs = search rules

add-below-if-used : tie.Need-overflow_add-at-4
add-below-if-used c = search rules

below-if-used-requires : tie.Need-below_if_used-requires
below-if-used-requires c κs = search rules

add-below-3 : tie.Need-overflow_add-at-5
add-below-3 c = search rules

below-requires-3 : tie.Need-below-requires-3
below-requires-3 c κs = search rules

add-below-if-used-2 : tie.Need-overflow_add-at-6
add-below-if-used-2 c = search rules

below-if-used-requires-2 : tie.Need-below_if_used-requires-2
below-if-used-requires-2 c κs = search rules

add-below-if-used-3 : tie.Need-overflow_add-at-7
add-below-if-used-3 c = search rules

below-if-used-requires-3 : tie.Need-below_if_used-requires-3
below-if-used-requires-3 c κs = search rules

returns : tie.Need-returns
returns c =
    let s = c.before.before.before.before.before.before.before.before.before in
    simp
    (c.before.before.before.before.before.before.used_by-u.ensures, c.before.before.before.before.before.below.ensures, c.before.before.before.before.below-2.ensures, c.before.before.before.below_if_used.ensures, c.before.before.below-3.ensures, c.before.below_if_used-2.ensures, c.below_if_used-3.ensures)
    (sym (in-range-kind s.args.file.now s.args.i s.args.e s.args.r s.requires.0.kind s.requires.1.0 s.requires.1.1))

pub in_range_spec : {M : Type 1} → statement M
in_range_spec =
    tie.close
    (tie.spec
    mul_at
    add_at
    shared-slice-read-used-by
    used-by-requires
    add-below
    below-requires
    add-below-2
    below-requires-2
    add-below-if-used
    below-if-used-requires
    add-below-3
    below-requires-3
    add-below-if-used-2
    below-if-used-requires-2
    add-below-if-used-3
    below-if-used-requires-3
    returns)

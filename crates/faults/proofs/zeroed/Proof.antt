-- `zeroed` meets its contract.
use mathlib.Core.Path.{sym}
use Rattle.file.proofs.Uses.{zeros-kind}
use borrow.Author.Rules.{rules}
use Rattle.faults.proofs.zeroed.Statement.{statement}
use Rattle.faults.proofs.zeroed.Tie as tie

mul_at : tie.Need-overflow_mul-at
mul_at c = search rules

add_at : tie.Need-overflow_add-at
add_at c = search rules

shared-slice-read-used-by : tie.Need-bounds-file-at
shared-slice-read-used-by c = search rules

used-by-requires : tie.Need-used_by-u-requires
used-by-requires c κs = search rules

add-zero-if-unused : tie.Need-overflow_add-at-2
add-zero-if-unused c = search rules

zero-if-unused-requires : tie.Need-zero_if_unused-requires
zero-if-unused-requires c κs = search rules

add-zero-if-unused-2 : tie.Need-overflow_add-at-3
add-zero-if-unused-2 c = search rules

zero-if-unused-requires-2 : tie.Need-zero_if_unused-requires-2
zero-if-unused-requires-2 c κs = search rules

add-zero-if-unused-3 : tie.Need-overflow_add-at-4
add-zero-if-unused-3 c = search rules

zero-if-unused-requires-3 : tie.Need-zero_if_unused-requires-3
zero-if-unused-requires-3 c κs = search rules

add-result : tie.Need-overflow_add-result
add-result c = search rules

shared-slice-read-result : tie.Need-bounds-file-at-2
shared-slice-read-result c = search rules

returns : tie.Need-returns
returns c =
    let s = c.before.before.before.before.before.before.before in
    simp
    (c.before.before.before.before.used_by-u.ensures, c.before.before.before.zero_if_unused.ensures, c.before.before.zero_if_unused-2.ensures, c.before.zero_if_unused-3.ensures)
    (sym (zeros-kind s.args.file.now s.args.i s.requires.kind))

pub zeroed_spec : {M : Type 1} → statement M
zeroed_spec =
    tie.close
    (tie.spec
    mul_at
    add_at
    shared-slice-read-used-by
    used-by-requires
    add-zero-if-unused
    zero-if-unused-requires
    add-zero-if-unused-2
    zero-if-unused-requires-2
    add-zero-if-unused-3
    zero-if-unused-requires-3
    add-result
    shared-slice-read-result
    returns)

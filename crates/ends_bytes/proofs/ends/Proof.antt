-- `ends_bytes::ends` meets its contract.
use mathlib.Core.Path.{◌∙◌}
use native.Mathlib.Omega.{arith}
use Rattle.ends_bytes.proofs.Replies.{file-refused, length-refused, places, ends-written}
use borrow.Author.Rules.{rules}
use Rattle.ends_bytes.proofs.ends.Statement.{statement}
use Rattle.withdrawals.specs.Source.{◌without◌}
use Rattle.ends_bytes.proofs.ends.Tie as tie

ends-of-requires : tie.Need-ends_of-e-requires
ends-of-requires c κs = search rules

refusal-requires : tie.Need-refusal-requires
refusal-requires c κs = search rules

returns : tie.Need-returns-then-e-ne0
returns c = let a = c.before.before.before.before.before.before.before.args in let x = c.before.before.before.ends_of-e in
    let k = file-refused (a.file.now without a.withdrawals.now) a.list.now x.result x.ensures c.before.if-e-ne0.true in
    (c.refusal.ensures ∙ k.0, k.1)

refusal-requires-2 : tie.Need-refusal-requires-then-list-ne256
refusal-requires-2 c κs = search rules

returns-2 : tie.Need-returns-then-list-ne256
returns-2 c = let a = c.before.before.before.before.before.before.before.before.args in let x = c.before.before.before.before.ends_of-e in
    let k = length-refused (a.file.now without a.withdrawals.now) a.list.now x.result x.ensures c.before.before.if-e-ne0.false c.before.if-list-ne256.true in
    (c.refusal-then-list-ne256.ensures ∙ k.0, k.1)

slice-aggregate-encode32 : tie.Need-slice_bounds-encode32-end
slice-aggregate-encode32 c = search rules

encode32-requires : tie.Need-encode32-requires
encode32-requires c κs = let a = c.before.before.before.before.before.before.before.before.before.before.args in let x = c.before.before.before.before.before.before.ends_of-e in
    let k = places (a.file.now without a.withdrawals.now) a.list.now x.result x.ensures c.before.before.before.before.if-e-ne0.false in
    omega arith

cast-result : tie.Need-overflow_cast-result
cast-result c = search rules

same_length : tie.Need-shape_of-list
same_length c = search rules

returns-3 : tie.Need-returns
returns-3 c = let a = c.before.before.before.before.before.before.before.before.before.before.before.before.before.before.args in let x = c.before.before.before.before.before.before.before.before.before.before.ends_of-e in
    ends-written (a.file.now without a.withdrawals.now) a.list.now x.result x.ensures c.before.before.before.before.before.before.before.before.if-e-ne0.false c.before.before.before.before.before.before.before.if-list-ne256.false c.before.before.before.encode32.ensures

pub ends_spec : {M : Type 1} → statement M
ends_spec =
    tie.close
    (tie.spec
    ends-of-requires
    refusal-requires
    returns
    refusal-requires-2
    returns-2
    slice-aggregate-encode32
    encode32-requires
    cast-result
    same_length
    returns-3)

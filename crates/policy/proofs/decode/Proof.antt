-- `decode` meets its contract: the head decides, and where it passes, the credentials do.
use Rattle.file.proofs.Sizes.{headed-read}
use Rattle.policy.proofs.Deciding.{head-refused, one-refused, all-decoded}
use borrow.Author.Rules.{rules}
use Rattle.policy.proofs.decode.Statement.{statement}
use Rattle.policy.proofs.decode.Tie as tie

read-head-requires : tie.Need-read_head-h-requires
read-head-requires c κs = search rules

refused-requires : tie.Need-refused-requires
refused-requires c κs = search rules

returns : tie.Need-returns-then-h-ne0
returns c =
    let h = c.before.before.before.read_head-h in
    rw c.refused.ensures (head-refused _ _ h.result h.ensures c.before.if-h-ne0.true)

decode-all-requires : tie.Need-decode_all-j-requires
decode-all-requires c κs =
    let h = c.before.before.before.read_head-h in
    headed-read c.before.before.before.before.before.args.file.now h.result h.ensures c.before.if-h-ne0.false

refused-requires-2 : tie.Need-refused-requires-then-j-ne0
refused-requires-2 c κs = search rules

returns-2 : tie.Need-returns-then-j-ne0
returns-2 c =
    let h = c.before.before.before.before.before.before.before.read_head-h in
    let d = c.before.before.before.decode_all-j in
    rw c.refused-then-j-ne0.ensures (one-refused _ _ h.result h.ensures c.before.before.before.before.before.if-h-ne0.false d.result d.ensures c.before.if-j-ne0.true)

returns-3 : tie.Need-returns
returns-3 c =
    let h = c.before.before.before.before.before.before.read_head-h in
    let d = c.before.before.decode_all-j in
    all-decoded _ _ h.result h.ensures c.before.before.before.before.if-h-ne0.false d.result d.ensures c.if-j-ne0.false

pub decode_spec : {M : Type 1} → statement M
decode_spec =
    tie.close
    (tie.spec
    read-head-requires
    refused-requires
    returns
    decode-all-requires
    refused-requires-2
    returns-2
    returns-3)

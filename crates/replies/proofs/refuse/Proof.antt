-- `replies::refuse` meets its contract.
use mathlib.Core.Path.{◌∙◌}
use Rattle.replies.proofs.Refusing.{file-refused, file-passed}
use borrow.Author.Rules.{rules}
use Rattle.replies.proofs.refuse.Statement.{statement}
use Rattle.withdrawals.specs.Source.{◌without◌}
use Rattle.replies.proofs.refuse.Tie as tie

ends-of-requires : tie.Need-ends_of-e-requires
ends-of-requires c κs = search rules

refusal-requires : tie.Need-refusal-requires
refusal-requires c κs = search rules

returns : tie.Need-returns-then-e-ne0
returns c = c.refusal.ensures ∙ file-refused (c.before.before.before.before.before.before.args.file.now without c.before.before.before.before.before.before.args.withdrawals.now) c.before.before.before.ends_of-e.result c.before.before.before.ends_of-e.ensures c.before.if-e-ne0.true

refusal-requires-2 : tie.Need-refusal-requires-2
refusal-requires-2 c κs = search rules

returns-2 : tie.Need-returns
returns-2 c = c.refusal-2.ensures ∙ file-passed (c.before.before.before.before.before.before.args.file.now without c.before.before.before.before.before.before.args.withdrawals.now) c.before.before.before.ends_of-e.result c.before.before.before.ends_of-e.ensures c.before.if-e-ne0.false

pub refuse_spec : {M : Type 1} → statement M
refuse_spec =
    tie.close (tie.spec ends-of-requires refusal-requires returns refusal-requires-2 returns-2)

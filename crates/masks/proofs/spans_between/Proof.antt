-- `masks::spans_between` takes one shifted bit from another.
use Rattle.masks.proofs.Masks.{no-spans, some-spans, shifts-ordered}
use native.Mathlib.Omega.{arith}
use borrow.Author.Rules.{rules}
use Rattle.masks.proofs.spans_between.Statement.{statement}
use Rattle.masks.proofs.spans_between.Tie as tie

returns : tie.Need-returns-then-q-p
returns c = no-spans c.before.args.p c.before.args.q c.if-q-p.true

shl-result : tie.Need-overflow_shl-result
shl-result c = search rules

shl-result-2 : tie.Need-overflow_shl-result-2
shl-result-2 c = search rules

sub-result : tie.Need-overflow_sub-result
sub-result c = shifts-ordered c.before.args.p c.before.args.q c.before.requires.0 c.before.requires.1 (omega arith)

returns-2 : tie.Need-returns
returns-2 c = some-spans c.before.args.p c.before.args.q c.before.requires.0 c.before.requires.1

pub spans_between_spec : {M : Type 1} → statement M
spans_between_spec = tie.close (tie.spec returns shl-result shl-result-2 sub-result returns-2)

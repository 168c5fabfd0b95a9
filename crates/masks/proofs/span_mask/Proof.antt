-- `masks::span_mask` finds the first span not before the period and the first after it.
use Rattle.masks.proofs.Masks.{masked}
use borrow.Author.Rules.{rules}
use Rattle.masks.proofs.span_mask.Statement.{statement}
use Rattle.masks.proofs.span_mask.Tie as tie

first-at-requires : tie.Need-first_at-p-requires
first-at-requires c κs = search rules

first-at-requires-2 : tie.Need-first_at-q-requires
first-at-requires-2 c κs = search rules

spans-between-requires : tie.Need-spans_between-requires
spans-between-requires c κs = search rules

returns : tie.Need-returns
returns c = let s = c.before.before.before.before.before in
    masked s.requires record { from = s.args.from; until = s.args.until } c.before.before.before.first_at-p.result c.before.first_at-q.result c.spans_between.result c.before.before.before.first_at-p.ensures c.before.first_at-q.ensures c.spans_between.ensures

pub span_mask_spec : {M : Type 1} → statement M
span_mask_spec = tie.close (tie.spec first-at-requires first-at-requires-2 spans-between-requires returns)

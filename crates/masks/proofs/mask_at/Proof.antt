-- `masks::mask_at` meets its contract, in a short way where there is one span.
use mathlib.Core.Path.{ap, ◌∙◌, subst, subst⁻¹}
use Prim.Native.Nat.{ℕ}
use borrow.Author.Rules.{rules}
use Rattle.file.specs.declared.Period.{Period}
use Rattle.meaning.specs.Table.{digit}
use Rattle.policy.specs.Policy.{credential_of}
use Rattle.masks.specs.Masks.{Masked}
use Rattle.masks.proofs.Masks.{first-masked}
use Rattle.masks.proofs.mask_at.Statement.{statement}
use Rattle.masks.proofs.mask_at.Tie as tie

element-copy-out-valid-at : tie.Need-bounds-ends-0
element-copy-out-valid-at c = search rules

valid-at-requires : tie.Need-valid_at-requires
valid-at-requires c κs = search rules

first-span-requires : tie.Need-first_span-requires
first-span-requires c κs = search rules

returns : tie.Need-returns-then-count-eq1
returns c =
    let a = c.before.before.before.before.before.args in
    let v = (credential_of a.policy.now a.i).period in
    subst⁻¹ (λ (n : ℕ). Masked a.ends.now n v c.first_span.result) c.before.before.before.before.if-count-eq1.true
    (first-masked a.ends.now v c.first_span.result (c.first_span.ensures ∙ ap digit c.before.valid_at.ensures))

period-at-requires : tie.Need-period_at-t-requires
period-at-requires c κs = search rules

span-mask-requires : tie.Need-span_mask-requires
span-mask-requires c κs = search rules

returns-2 : tie.Need-returns
returns-2 c =
    let a = c.before.before.before.args in
    subst (λ (t : Period). Masked a.ends.now a.count record { from = t.from; until = t.until } c.span_mask.result) c.before.period_at-t.ensures c.span_mask.ensures

pub mask_at_spec : {M : Type 1} → statement M
mask_at_spec =
    tie.close
    (tie.spec
    element-copy-out-valid-at
    valid-at-requires
    first-span-requires
    returns
    period-at-requires
    span-mask-requires
    returns-2)

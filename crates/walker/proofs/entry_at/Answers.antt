-- `walker::entry_at` says what stands at the place, or the refusal that a walker over the file carries.
use mathlib.Core.Path.{◌≡◌, sym, ap, ◌∙◌, subst}
use Rattle.file.specs.Refusals.{refused}
use Rattle.file.specs.declared.Refusal.{Refusal}
use Rattle.walker.proofs.Places.{entry-refused, entry_found}
use Rattle.walker.proofs.entry_at.Goals as goal

pub returns-then-s-ne0 : goal.returns-then-s-ne0
returns-then-s-ne0 c =
    let o = c.open-s.ensures in
    ap (λ (r : Refusal). refused r.number r.place) o
    ∙ sym (entry-refused c.args.file.now c.args.at (subst (λ (r : Refusal). r.number ≡ 0 → ⊥) o c.if-s-ne0.true))

pub returns-in-Credential : goal.returns-in-Credential
returns-in-Credential c =
    sym (entry_found c.args.file.now c.args.at (subst (λ (r : Refusal). r.number ≡ 0) c.open-s.ensures c.if-s-ne0.false) _ (sym c.nth.ensures ∙ c.in-Credential.is))

pub returns-in-End : goal.returns-in-End
returns-in-End c =
    sym (entry_found c.args.file.now c.args.at (subst (λ (r : Refusal). r.number ≡ 0) c.open-s.ensures c.if-s-ne0.false) _ (sym c.nth.ensures ∙ c.in-End.is))

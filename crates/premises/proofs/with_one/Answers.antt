-- `premises::with_one` looks for the entry of a role and a set, unless the role has no entry.
use Rattle.std.proofs.Common.{ap, ◌∙◌, sym, refl, arith}
use Rattle.store.specs.Entries.{key_of, latest_in}
use Rattle.store.proofs.Keys.{role-of-key}
use Rattle.premises.proofs.Moving.{single-none, role-none, single-some}
use Rattle.premises.proofs.with_one.Goals as goal

pub returns-then-latest-eq0 : goal.returns-then-latest-eq0
returns-then-latest-eq0 c =
    let a = c.args in
    let e = role-of-key a.role a.y c.requires.low.1 in
    let z = ap (latest_in a.store.now.links) e ∙ sym c.latest.ensures ∙ c.if-latest-eq0.true in
    rw c.single.ensures (λ n st. single-none a.done.now a.x a.d (role-none st (key_of a.role a.y) (omega arith) z))

pub returns-in-Some : goal.returns-in-Some
returns-in-Some c =
    rw c.single-in-Some.ensures (λ n st. single-some st c.args.done.now c.in-Some.i c.args.x c.args.d (rw c.key_of.ensures at (c.in-Some.ensures.entry n st.searchable)))

pub returns-in-None : goal.returns-in-None
returns-in-None c =
    rw c.single-in-None.ensures (λ n st. single-none c.args.done.now c.args.x c.args.d ((rw c.key_of.ensures at (c.in-None.ensures.entry n st.searchable)).absent refl))

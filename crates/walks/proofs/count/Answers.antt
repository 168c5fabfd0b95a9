-- `walks::count` counts a credential at each place before the end, and then the place is the end's.
use mathlib.Core.Path.{◌≡◌, refl, sym, ap, ap₂, ◌∙◌}
use mathlib.Core.Bool.{true}
use mathlib.Core.List.{List}
use Prim.Native.Nat.{ℕ}
use native.Mathlib.Omega.{arith}
use denote.Ref.{Bor}
use Rattle.walker.specs.declared.Walker.{Walker}
use Rattle.walks.specs.Walks.{stands, counted_as}
use Rattle.walks.proofs.Places.{walker_on, found_on, standing, standing-low, ended, count-read}
use Rattle.walks.proofs.Steps.{stands-at, refusal-at, moved}
use Rattle.walks.proofs.count.Goals as goal
use Rattle.walks.proofs.count.Goals.{After-next-w}

-- a credential stands at the loop's place
here : (c : After-next-w) → stands (found_on c.args.file.now c.loop-w.n) ≡ true
here c =
    let v = c.loop-w.invariant in
    sym (stands-at c.loop-w.w c.args.file.now c.loop-w.n v.0 v.1) ∙ ap stands (sym c.credential.ensures) ∙ sym c.is_credential.ensures ∙ c.loop-w-test.true

pub loop-w-init : goal.loop-w-init
loop-w-init c =
    let e = c.walk-w.ensures in
    let file : c.walk-w.result.file ≡ c.args.file = ap (λ (w : Walker). w.file) e in
    (e ∙ ap (λ (s : Bor (List ℕ)). walker_on s 0) (sym file), ap (λ (s : Bor (List ℕ)). s.now) file, omega arith, omega arith)

pub overflow_add-n : goal.overflow_add-n
overflow_add-n c = omega (arith, standing-low c.args.file.now c.loop-w.n (here c))

pub loop-w-smaller : goal.loop-w-smaller
loop-w-smaller c = let k = standing c.args.file.now c.loop-w.n (here c) in omega arith

pub loop-w-preserved : goal.loop-w-preserved
loop-w-preserved c =
    let v = c.loop-w.invariant in
    let h = here c in
    let m = moved c.loop-w.w c.args.file.now c.loop-w.n v.0 v.1 c.next-w.result c.next-w.ensures h in
    (m.0, m.1, omega (arith, standing c.args.file.now c.loop-w.n h), omega (arith, standing-low c.args.file.now c.loop-w.n h))

pub returns : goal.returns
returns c =
    let v = c.loop-w.invariant in
    let gone = sym (stands-at c.loop-w.w c.args.file.now c.loop-w.n v.0 v.1) ∙ ap stands (sym c.credential.ensures) ∙ sym c.is_credential.ensures ∙ c.loop-w-test.false in
    c.answer.ensures
    ∙ ap₂ counted_as (c.refusal.ensures ∙ refusal-at c.loop-w.w c.args.file.now c.loop-w.n v.0 v.1) (ended c.args.file.now c.loop-w.n v.2 gone)
    ∙ count-read c.args.file.now

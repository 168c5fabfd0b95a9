-- `earlier` meets its contract. The invariant: none of the credentials below j has the serial.
use mathlib.Core.Path.{◌≡◌, sym, ◌∙◌}
use Prim.Native.Nat.{ℕ, ◌-◌, ◌≤◌, ◌<◌}
use native.Mathlib.Omega.{arith}
use borrow.Author.Count.{below_more}
use Rattle.file.specs.Format.{serial_of}
use Rattle.serials.proofs.Searching.{found_here, found_nowhere}
use Rattle.serials.proofs.earlier.Statement.{statement}
use Rattle.serials.proofs.earlier.Tie as tie

abbrev invariant-loop : tie.invariant-loop-j
invariant-loop file n x j₀ j = (j ≤ n) × ((k : ℕ) → k < j → serial_of file k ≡ x → ⊥)

abbrev decreases-loop : tie.decreases-loop-j
decreases-loop file n x j₀ j = n - j

loop-holds : tie.Need-loop-j-init invariant-loop decreases-loop
loop-holds c = (omega arith, λ k l. absurd (omega arith))

serial-at-requires : tie.Need-serial_at-requires invariant-loop decreases-loop
serial-at-requires c κs = omega arith

returns : tie.Need-returns-then-serial_at-x invariant-loop decreases-loop
returns c =
    let s = c.before.before.before.before.before in
    let l = c.before.before.before.loop-j in
    found_here s.args.file.now s.args.n s.args.x l.j (omega arith) (sym c.before.serial_at.ensures ∙ c.if-serial_at-x.true)

add-j : tie.Need-overflow_add-j invariant-loop decreases-loop
add-j c = omega arith

loop-less : tie.Need-loop-j-smaller invariant-loop decreases-loop
loop-less c = omega arith

loop-again : tie.Need-loop-j-preserved invariant-loop decreases-loop
loop-again c =
    let l = c.before.before.before.loop-j in
    (omega arith, below_more _ _ l.invariant.1 (λ e. c.if-serial_at-x.false (c.before.serial_at.ensures ∙ e)))

returns-2 : tie.Need-returns invariant-loop decreases-loop
returns-2 c =
    let s = c.before.before.before in
    let l = c.before.loop-j in
    found_nowhere s.args.file.now s.args.n s.args.x (λ k m. l.invariant.1 k (omega arith))

pub earlier_spec : {M : Type 1} → statement M
earlier_spec =
    tie.close
    (tie.spec
    invariant-loop
    decreases-loop
    loop-holds
    serial-at-requires
    returns
    add-j
    loop-less
    loop-again
    returns-2)

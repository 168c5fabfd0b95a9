-- `repeated` meets its contract. The invariant: none of the withdrawals below j has the serial.
use mathlib.Core.Path.{◌≡◌, sym, ◌∙◌}
use Prim.Native.Nat.{ℕ, ◌-◌, ◌≤◌, ◌<◌}
use native.Mathlib.Omega.{arith}
use borrow.Author.Count.{below_more}
use Rattle.withdrawals.specs.List.{serial_at}
use Rattle.withdrawals.proofs.Searching.{found_here, found_nowhere}
use Rattle.withdrawals.proofs.repeated.Statement.{statement}
use Rattle.withdrawals.proofs.repeated.Tie as tie

abbrev invariant-loop : tie.invariant-loop-j
invariant-loop list k x j₀ j = (j ≤ k) × ((i : ℕ) → i < j → serial_at list i ≡ x → ⊥)

abbrev decreases-loop : tie.decreases-loop-j
decreases-loop list k x j₀ j = k - j

loop-holds : tie.Need-loop-j-init invariant-loop decreases-loop
loop-holds c = (omega arith, λ i l. absurd (omega arith))

serial-at-requires : tie.Need-serial_at-requires invariant-loop decreases-loop
serial-at-requires c κs = omega arith

returns : tie.Need-returns-then-serial_at-x invariant-loop decreases-loop
returns c = found_here c.before.before.before.before.before.args.list.now c.before.before.before.before.before.args.k c.before.before.before.before.before.args.x c.before.before.before.loop-j.j (omega arith) (sym c.before.serial_at.ensures ∙ c.if-serial_at-x.true)

add-j : tie.Need-overflow_add-j invariant-loop decreases-loop
add-j c = omega arith

loop-less : tie.Need-loop-j-smaller invariant-loop decreases-loop
loop-less c = omega arith

loop-again : tie.Need-loop-j-preserved invariant-loop decreases-loop
loop-again c = (omega arith, below_more _ _ c.before.before.before.loop-j.invariant.1 (λ e. c.if-serial_at-x.false (c.before.serial_at.ensures ∙ e)))

returns-2 : tie.Need-returns invariant-loop decreases-loop
returns-2 c = found_nowhere c.before.before.before.args.list.now c.before.before.before.args.k c.before.before.before.args.x (λ i m. c.before.loop-j.invariant.1 i (omega arith))

pub repeated_spec : {M : Type 1} → statement M
repeated_spec =
    tie.close
    (tie.spec
    invariant-loop
    decreases-loop
    loop-holds
    serial-at-requires
    returns
    add-j
    loop-less
    loop-again
    returns-2)

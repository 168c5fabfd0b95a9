-- `position_of` meets its contract. The invariant: none of the credentials below i has the serial.
use mathlib.Core.Path.{◌≡◌, sym, ◌∙◌}
use Prim.Native.Nat.{ℕ, ◌-◌, ◌≤◌, ◌<◌}
use native.Mathlib.Omega.{arith}
use borrow.Author.Count.{below_more}
use Rattle.file.specs.Format.{serial_of}
use Rattle.serials.proofs.position_of.Statement.{statement}
use Rattle.serials.proofs.position_of.Tie as tie

abbrev invariant-loop : tie.invariant-loop-i
invariant-loop file n x i₀ i = (i ≤ n) × ((k : ℕ) → k < i → serial_of file k ≡ x → ⊥)

abbrev decreases-loop : tie.decreases-loop-i
decreases-loop file n x i₀ i = n - i

loop-holds : tie.Need-loop-i-init invariant-loop decreases-loop
loop-holds c = (omega arith, λ k l. absurd (omega arith))

serial-at-requires : tie.Need-serial_at-requires invariant-loop decreases-loop
serial-at-requires c κs = omega arith

returns : tie.Need-returns-then-serial_at-x invariant-loop decreases-loop
returns c = record { within = omega arith; before = c.before.before.before.loop-i.invariant.1; here = λ _. sym c.before.serial_at.ensures ∙ c.if-serial_at-x.true }

add-i : tie.Need-overflow_add-i invariant-loop decreases-loop
add-i c = omega arith

loop-less : tie.Need-loop-i-smaller invariant-loop decreases-loop
loop-less c = omega arith

loop-again : tie.Need-loop-i-preserved invariant-loop decreases-loop
loop-again c = (omega arith, below_more _ _ c.before.before.before.loop-i.invariant.1 (λ e. c.if-serial_at-x.false (c.before.serial_at.ensures ∙ e)))

returns-2 : tie.Need-returns invariant-loop decreases-loop
returns-2 c = record { within = omega arith; before = λ k m. c.before.loop-i.invariant.1 k (omega arith); here = λ l. absurd (omega arith) }

pub position_of_spec : {M : Type 1} → statement M
position_of_spec =
    tie.close
    (tie.spec
    invariant-loop
    decreases-loop
    loop-holds
    serial-at-requires
    returns
    add-i
    loop-less
    loop-again
    returns-2)

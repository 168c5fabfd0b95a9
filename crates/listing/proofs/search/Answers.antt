-- The item before each is lower, which is the measure.
use Rattle.std.proofs.Common.{◌≡◌, ◌+◌, ◌-◌, ◌<◌, ◌≤◌, get_or, ℕ, List, arith}
use Prim.Native.Nat.{zero, suc, suc-le-suc}
use mathlib.Core.Path.{refl}
use Rattle.listing.specs.Places.{ItemList}
use Rattle.listing.proofs.search.Goals as goal

next-lower : {lists : List ℕ} {base prev at : ℕ} → ItemList lists base prev at → (c : ℕ) → (c ≡ 0 → ⊥) → c ≤ at → get_or lists (prev + c - 1) 0 < c
next-lower s zero n l = absurd (n refl)
next-lower {prev = prev} s (suc i) n l = let e : prev + suc i - 1 ≡ prev + i = omega arith in rw e (suc-le-suc (s.lower i l))

pub loop-c-smaller : goal.loop-c-smaller
loop-c-smaller c =
    let h = next-lower c.requires c.loop-c.c c.loop-c-test.true c.loop-c.invariant in
    omega arith

pub loop-c-preserved : goal.loop-c-preserved
loop-c-preserved c =
    let h = next-lower c.requires c.loop-c.c c.loop-c-test.true c.loop-c.invariant in
    let i = c.loop-c.invariant in
    omega arith

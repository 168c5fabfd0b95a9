-- The walker is at place n of the file, which no place after the end is.
use mathlib.Core.Path.{◌≡◌}
use Prim.Native.Nat.{◌-◌, ◌≤◌}
use Rattle.walks.proofs.Places.{walker_on, limit}
use Rattle.walks.proofs.count.Given as goal

abbrev pub invariant-loop-w : goal.invariant-loop-w
invariant-loop-w l = (l.w ≡ walker_on l.w.file l.n) × (l.w.file.now ≡ l.file) × (l.n ≤ limit l.file) × (l.n ≤ 256)

abbrev pub decreases-loop-w : goal.decreases-loop-w
decreases-loop-w l = limit l.file - l.n

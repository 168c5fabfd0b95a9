use mathlib.Core.Path.{ap₂, ◌∙◌}
use mathlib.Core.List.{◌++◌}
use Prim.Native.Nat.{ℕ, ◌+◌, ◌*◌}
use native.Mathlib.Omega.{arith}
use lib.ListN.{take, drop}
use Rattle.codec.specs.Bytes.{bytes}
use Rattle.blocks.specs.Blocks.{written, raised}
use Rattle.blocks.proofs.Writing.{blocks_more, part-size, with-length}
use Rattle.blocks.proofs.put_periods.Goals as goal

pub loop-i-preserved : goal.loop-i-preserved
loop-i-preserved c =
    let a = c.args in
    let l = c.loop-i in
    blocks_more a.dst.now a.at 8 a.count (raised a.src.now a.from a.by) l.i l.invariant c.loop-i-test.true (with-length a.src.now (a.from + 8 * l.i) 4 (omega arith) _) (omega arith)
    (c.put_with.ensures ∙ ap₂ (λ (k x : ℕ). written l.dst (a.at + 8 * l.i) (take k (drop (a.from + 8 * l.i) a.src.now) ++ bytes 4 (x + a.by))) (part-size a.src.now (a.from + 8 * l.i) 4 (omega arith)) c.number_at.ensures.0)

use mathlib.Core.Path.{ap, ◌∙◌}
use mathlib.Core.List.{◌++◌}
use Prim.Native.Nat.{ℕ, ◌+◌, ◌*◌}
use native.Mathlib.Omega.{arith}
use lib.ListN.{take, drop}
use Rattle.codec.specs.Bytes.{bytes}
use Rattle.blocks.specs.Blocks.{written, serialled}
use Rattle.blocks.proofs.Writing.{blocks_more, part-size, with-length}
use Rattle.blocks.proofs.put_statements.Goals as goal

pub loop-i-preserved : goal.loop-i-preserved
loop-i-preserved c =
    let a = c.args in
    let l = c.loop-i in
    blocks_more a.dst.now 6 12 a.n (serialled a.src.now) l.i l.invariant c.loop-i-test.true (with-length a.src.now (6 + 8 * l.i) 8 (omega arith) (l.i + 1)) (omega arith)
    (c.put_with.ensures ∙ ap (λ (k : ℕ). written l.dst (6 + 12 * l.i) (take k (drop (6 + 8 * l.i) a.src.now) ++ bytes 4 (l.i + 1))) (part-size a.src.now (6 + 8 * l.i) 8 (omega arith)))

use mathlib.Core.Path.{ap, ◌∙◌}
use Prim.Native.Nat.{ℕ, ◌+◌, ◌*◌}
use native.Mathlib.Omega.{arith}
use lib.ListN.{take, drop}
use Rattle.blocks.specs.Blocks.{written, bare}
use Rattle.blocks.proofs.Writing.{blocks_more, part-size, whole_length}
use Rattle.blocks.proofs.copy_statements.Goals as goal

pub loop-i-preserved : goal.loop-i-preserved
loop-i-preserved c =
    let a = c.args in
    let l = c.loop-i in
    blocks_more a.dst.now 6 8 a.n (bare a.src.now) l.i l.invariant c.loop-i-test.true (whole_length a.src.now (6 + 12 * l.i) 8 (omega arith)) (omega arith)
    (c.copy.ensures ∙ ap (λ (k : ℕ). written l.dst (6 + 8 * l.i) (take k (drop (6 + 12 * l.i) a.src.now))) (part-size a.src.now (6 + 12 * l.i) 8 (omega arith)))

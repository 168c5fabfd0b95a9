-- `cut_all` meets its contract. The invariant: the policy is cut by the withdrawals below k.
use mathlib.Core.Path.{subst}
use Prim.Native.Nat.{◌-◌, ◌≤◌}
use native.Mathlib.Omega.{arith}
use Rattle.withdrawals.specs.Source.{◌without◌}
use Rattle.cutting.specs.Cutting.{CutTo, CutAt}
use Rattle.cutting.proofs.Cutting.{cut-start, cut-more, cut-wrong, cut-end}
use Rattle.cutting.proofs.cut_all.Statement.{statement}
use Rattle.cutting.proofs.cut_all.Tie as tie

abbrev invariant-loop : tie.invariant-loop-k
invariant-loop policy₀ file n list count k₀ policy k = (k ≤ count) × CutTo (file without list) policy n k

abbrev decreases-loop : tie.decreases-loop-k
decreases-loop policy₀ file n list count k₀ policy k = count - k

loop-holds : tie.Need-loop-k-init invariant-loop decreases-loop
loop-holds c = (omega arith, cut-start (c.before.before.args.file.now without c.before.before.args.list.now) c.before.before.requires.0.0 c.before.before.requires.0.1 c.before.before.args.n c.before.before.requires.0.2)

position-requires : tie.Need-position-i-requires invariant-loop decreases-loop
position-requires c κs = (c.before.before.before.before.requires.0.0, c.before.before.before.before.requires.0.2.count, c.before.before.before.before.requires.1.0, let e = c.before.before.before.before.requires.1.1 in omega arith)

returns : tie.Need-returns-then-i-n invariant-loop decreases-loop
returns c = cut-wrong (c.before.before.before.before.before.before.args.file.now without c.before.before.before.before.before.before.args.list.now) c.before.before.before.before.before.before.requires.0.0 c.before.before.before.before.before.before.requires.0.1 c.before.before.before.before.before.before.args.n c.before.before.before.before.before.before.requires.0.2.count c.before.before.before.loop-k.k (let e = c.before.before.before.before.before.before.requires.1.1 in omega arith) c.if-i-n.true c.before.position-i.ensures

minute-at-requires : tie.Need-minute_at-minute-requires invariant-loop decreases-loop
minute-at-requires c κs = (c.before.before.before.before.before.before.requires.1.1, let e = c.before.before.before.before.before.before.requires.1.1 in let q = c.before.before.before.before.before.before.requires.1.0.whole in omega arith)

cut-one-requires : tie.Need-cut_one-requires invariant-loop decreases-loop
cut-one-requires c κs = let f = c.before.before.before.before.before.before.before.before.requires.0.2.decoded.few in let w = c.before.before.before.position-i.ensures.within in omega arith

add-k : tie.Need-overflow_add-k invariant-loop decreases-loop
add-k c = omega arith

loop-less : tie.Need-loop-k-smaller invariant-loop decreases-loop
loop-less c = omega arith

loop-again : tie.Need-loop-k-preserved invariant-loop decreases-loop
loop-again c = (omega arith, cut-more (c.before.before.before.before.before.before.before.before.before.args.file.now without c.before.before.before.before.before.before.before.before.before.args.list.now) c.before.before.before.before.before.before.before.before.before.requires.0.0 c.before.before.before.before.before.before.before.before.before.requires.0.1 c.before.before.before.before.before.before.before.before.before.args.n c.before.before.before.before.before.before.before.before.before.requires.0.2.count c.before.before.before.before.before.before.loop-k.k (let w = c.before.before.before.before.position-i.ensures.within in omega arith) c.before.before.before.before.before.before.loop-k.invariant.1 c.before.before.before.before.position-i.ensures (subst (CutAt _ _ _) c.before.before.minute_at-minute.ensures c.cut_one.ensures))

returns-2 : tie.Need-returns invariant-loop decreases-loop
returns-2 c = cut-end (c.before.before.before.before.args.file.now without c.before.before.before.before.args.list.now) c.before.before.before.before.requires.0.0 c.before.before.before.before.requires.0.1 c.before.before.before.before.args.n c.before.before.before.before.requires.0.2.count (let e = c.before.before.before.before.requires.1.1 in let i = c.before.loop-k.invariant.0 in omega arith) c.before.loop-k.invariant.1

pub cut_all_spec : {M : Type 1} → statement M
cut_all_spec =
    tie.close
    (tie.spec
    invariant-loop
    decreases-loop
    loop-holds
    position-requires
    returns
    minute-at-requires
    cut-one-requires
    add-k
    loop-less
    loop-again
    returns-2)

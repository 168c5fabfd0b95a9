use mathlib.Core.Path.{sym, ap, ◌∙◌}
use Prim.Native.Nat.{ℕ}
use native.Mathlib.Omega.{arith}
use Rattle.file.specs.Refusals.{done}
use Rattle.old_file.specs.OldFormat.{old_length}
use Rattle.carrying.proofs.Answers.{back-refused, back-unlike, back-out-of-place, brought-back}
use Rattle.carrying.proofs.back.Goals as goal

pub returns-then-j-ne0 : goal.returns-then-j-ne0
returns-then-j-ne0 c =
    let k = back-refused c.args.file.now c.args.old.now (c.judge-j.ensures.refused c.if-j-ne0.true) in
    record { fact_1 = c.refusal.ensures ∙ k.0; fact_2 = k.1 }

pub returns-then-old-size : goal.returns-then-old-size
returns-then-old-size c =
    let j = c.judge-j.ensures in let ok = c.if-j-ne0.false in
    let k = back-unlike c.args.file.now c.args.old.now (j.accepted ok) (λ e. c.if-old-size.true (e ∙ ap old_length (sym (j.count ok)))) in
    record { fact_1 = c.refusal-then-old-size.ensures ∙ k.0; fact_2 = k.1 }

pub returns-then-p-n : goal.returns-then-p-n
returns-then-p-n c =
    let j = c.judge-j.ensures in let ok = c.if-j-ne0.false in let p = c.first_out_of_place-p in
    let e = j.count ok in
    let k = back-out-of-place c.args.file.now c.args.old.now (j.accepted ok) (c.if-old-size.false ∙ ap old_length e) p.result (omega (arith, c.if-p-n.true)) p.ensures.before (p.ensures.out c.if-p-n.true) in
    record { fact_1 = c.refusal-then-p-n.ensures ∙ k.0; fact_2 = k.1 }

pub returns : goal.returns
returns c =
    let j = c.judge-j.ensures in let ok = c.if-j-ne0.false in let p = c.first_out_of_place-p.ensures in
    let e = j.count ok in
    let k = brought-back c.args.file.now c.args.old.now (j.accepted ok) (c.if-old-size.false ∙ ap old_length e) (λ i l. p.before i (omega (arith, c.if-p-n.false))) c.write_old.ensures in
    record { fact_1 = c.counted.ensures ∙ ap (λ (x : ℕ). done x) e ∙ k.0; fact_2 = k.1 }

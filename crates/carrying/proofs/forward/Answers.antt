use mathlib.Core.Path.{◌≡◌, sym, ap, ◌∙◌, subst}
use mathlib.Core.List.{List}
use Prim.Native.Nat.{ℕ, ◌+◌, ◌*◌}
use native.Mathlib.Omega.{arith}
use lib.ListN.{length, take}
use lib.Seq.{length-take-le}
use Rattle.file.specs.Refusals.{refused}
use Rattle.file.specs.Conditions.{Accepted, Refused}
use Rattle.blocks.proofs.Writing.{written-whole}
use Rattle.carrying.proofs.Answers.{head-refused, file-refused, length-refused, brought-forward}
use Rattle.carrying.proofs.forward.Goals as goal

pub returns-then-h-ne0 : goal.returns-then-h-ne0
returns-then-h-ne0 c =
    let e = c.old_head-h.ensures.number in
    let k = head-refused c.args.old.now c.args.file.now (λ z. c.if-h-ne0.true (e ∙ z)) in
    record { fact_1 = c.refusal.ensures ∙ ap (λ (m : ℕ). refused m 0) e ∙ k.0; fact_2 = k.1 }

pub returns-then-j-ne0 : goal.returns-then-j-ne0
returns-then-j-ne0 c =
    let h = c.old_head-h in let j = c.judge-j in
    let r = subst (λ (l : List ℕ). Refused l j.result.number j.result.place) c.new_bytes-new.ensures.1 (j.ensures.refused c.if-j-ne0.true) in
    let k = file-refused c.args.old.now c.args.file.now h.result.credentials (h.ensures.sizes c.if-h-ne0.false) r in
    record { fact_1 = c.refusal-then-j-ne0.ensures ∙ k.0; fact_2 = k.1 }

pub returns-then-file-size : goal.returns-then-file-size
returns-then-file-size c =
    let h = c.old_head-h in
    let r = subst Accepted c.new_bytes-new.ensures.1 (c.judge-j.ensures.accepted c.if-j-ne0.false) in
    let k = length-refused c.args.old.now c.args.file.now h.result.credentials (h.ensures.sizes c.if-h-ne0.false) r c.if-file-size.true in
    record { fact_1 = c.refusal-then-file-size.ensures ∙ k.0; fact_2 = k.1 }

pub returns : goal.returns
returns c =
    let out = c.args.file.now in let h = c.old_head-h in let new = c.new_bytes-new in let n = h.result.credentials in
    let s = h.ensures.sizes c.if-h-ne0.false in
    let size = c.if-file-size.false in
    let l : length (take (6 + 20 * n) new.result) ≡ length out = length-take-le (6 + 20 * n) new.result (omega (arith, new.ensures.0)) ∙ sym size in
    let r = subst Accepted new.ensures.1 (c.judge-j.ensures.accepted c.if-j-ne0.false) in
    let k = brought-forward c.args.old.now out n s r size (c.copy.ensures ∙ written-whole out (take (6 + 20 * n) new.result) l ∙ new.ensures.1) in
    record { fact_1 = c.counted.ensures ∙ k.0; fact_2 = k.1 }

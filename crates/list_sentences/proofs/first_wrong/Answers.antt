-- One of the withdrawals that are looked at is wrong, or none.
use Rattle.std.proofs.Common.{◌≡◌, ℕ, min, sym, ap, ◌∙◌, arith}
use Rattle.withdrawals.specs.List.{count}
use Rattle.list_sentences.specs.ListSentences.{wrong_at}
use Rattle.list_sentences.proofs.Searching.{first-in, first-none, tested}
use Rattle.list_sentences.proofs.first_wrong.Goals as goal

pub returns-then-repeated-on_credential : goal.returns-then-repeated-on_credential
returns-then-repeated-on_credential c =
    let a = c.args in
    let e : c.looked-k-end.result ≡ min (count a.list.now) 256 = c.looked-k-end.ensures ∙ ap (λ (n : ℕ). min n 256) c.two_at.ensures.0 in
    let t = tested a.file.now a.list.now c.loop-k.k _ c.serial_at-x.ensures c.repeated.ensures c.on_credential.ensures in
    (sym (first-in (wrong_at a.file.now a.list.now) (min (count a.list.now) 256) c.loop-k.k (omega arith) (t ∙ c.if-repeated-on_credential.true) c.loop-k.invariant), omega arith)

pub returns : goal.returns
returns c =
    let a = c.args in
    let e : c.looked-k-end.result ≡ min (count a.list.now) 256 = c.looked-k-end.ensures ∙ ap (λ (n : ℕ). min n 256) c.two_at.ensures.0 in
    (sym (first-none (wrong_at a.file.now a.list.now) (min (count a.list.now) 256) (λ j m. c.loop-k.invariant j (omega arith))), omega arith)

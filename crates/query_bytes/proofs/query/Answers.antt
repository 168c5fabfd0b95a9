-- What querying leaves in entries, as bytes.
use mathlib.Core.Path.{sym, ap, ◌∙◌}
use native.Mathlib.Omega.{arith}
use Rattle.withdrawals.specs.Source.{◌without◌}
use Rattle.asking.specs.Asking.{request, StepLists, step_lists}
use Rattle.derivation.specs.HandedOut.{words}
use Rattle.answering.specs.Steps.{steps_in}
use Rattle.querying.proofs.Replies.{steps-fit, queried-kept, queried-written}
use Rattle.replies.specs.Interface.{step_lists_in}
use Rattle.query_bytes.proofs.Queries.{sized, bytes-kept, bytes-written}
use Rattle.query_bytes.proofs.query.Goals as goal

pub returns-then-not-lists_written : goal.returns-then-not-lists_written
returns-then-not-lists_written c =
    let a = c.args in
    let f = a.file.now without a.withdrawals.now in
    let q = request a.role a.set a.minute in
    let b = step_lists a.credential.now a.first.now a.second.now a.sets.now in
    let p = c.prove-answer.ensures (step_lists_in b) (sized f q b a.n c.requires) in
    let w = sym c.lists_written.ensures ∙ c.if-not-lists_written.true in
    bytes-kept f q b a.n c.requires (queried-kept f q (step_lists_in b) p w) w c.number_of.ensures

pub write-requires-clause-few : goal.write-requires-clause-few
write-requires-clause-few c =
    let a = c.args in
    let f = a.file.now without a.withdrawals.now in
    let q = request a.role a.set a.minute in
    let b = step_lists a.credential.now a.first.now a.second.now a.sets.now in
    let z = sized f q b a.n c.requires in
    omega (arith, (steps-fit f q (step_lists_in b) (c.prove-answer.ensures (step_lists_in b) z) c.steps_of.ensures).0, z.credential)

pub returns : goal.returns
returns c =
    let a = c.args in
    let f = a.file.now without a.withdrawals.now in
    let q = request a.role a.set a.minute in
    let b = step_lists a.credential.now a.first.now a.second.now a.sets.now in
    let z = sized f q b a.n c.requires in
    let p = c.prove-answer.ensures (step_lists_in b) z in
    let w = sym c.lists_written.ensures ∙ c.if-not-lists_written.false in
    let ss = steps_in c.prove-answer.new.store.keys c.prove-answer.new.store.notes c.steps_of.result in
    let t : StepLists = step_lists (words (λ s. s.credential) a.n ss) (words (λ s. s.first) a.n ss) (words (λ s. s.second) a.n ss) (words (λ s. s.set) a.n ss) in
    let d = queried-written f q (step_lists_in b) p w c.steps_of.ensures {t' = t} (ap (λ k. words (λ s. s.credential) k ss) (sym z.credential)) (ap (λ k. words (λ s. s.first) k ss) (sym z.first)) (ap (λ k. words (λ s. s.second) k ss) (sym z.second)) (ap (λ k. words (λ s. s.set) k ss) (sym z.sets)) in
    let l = c.write.ensures in
    bytes-written f q b a.n c.requires d w c.number_of-2.ensures l.credential l.first l.second l.sets

-- The refusals of the request, or what was loaded from the policy.
use Rattle.withdrawals.specs.Source.{◌without◌}
use Rattle.asking.specs.Asking.{request}
use Rattle.asking.proofs.Asked.{askable}
use Rattle.finding.proofs.Finding.{size_few}
use Rattle.finding.proofs.Sizes.{some, some-sized}
use Rattle.finding.proofs.prepare.Goals as goal

pub load-loaded-requires-clause-decoded : goal.load-loaded-requires-clause-decoded
load-loaded-requires-clause-decoded c = let a = c.args.q in ((c.judge-j.ensures (some a.credential a.first a.second a.sets) (some-sized a.credential a.first a.second a.sets)).policy c.if-j-ne0.false).decoded

pub load-loaded-requires-clause-limit : goal.load-loaded-requires-clause-limit
load-loaded-requires-clause-limit c =
    let a = c.args.q in
    let t = some a.credential a.first a.second a.sets in
    let z = some-sized a.credential a.first a.second a.sets in
    rw (← z.credential) (size_few (askable (c.args.file.now without c.args.withdrawals.now) (request a.role a.set a.minute) t (record { number = c.judge-j.result.number; place = c.judge-j.result.place }) (c.judge-j.ensures t z).refusal c.if-j-ne0.false))

pub returns : goal.returns
returns c = λ t z. let j = c.judge-j.ensures t z in record { refusal = j.refusal; loaded = λ o. rw (← (j.policy o).means, z.credential) c.load-loaded.ensures.loaded }

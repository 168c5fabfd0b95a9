use Rattle.std.proofs.Common.{ap, arith}
use Rattle.loading.proofs.Blank.{zero-at, no-uses}
use Rattle.tabling.proofs.Tabling.{blank-kept, held, spanned, all-loaded, filled-over, filled-full, filled, finished-in}
use Rattle.tabling.proofs.fill.Goals as goal

pub load_uses-requires-clause-spans : goal.load_uses-requires-clause-spans
load_uses-requires-clause-spans c = spanned c.requires.loadable

pub load_uses-requires-clause-none : goal.load_uses-requires-clause-none
load_uses-requires-clause-none c = let e = c.new-uses.ensures in no-uses (ap (λ u. u.codes) e) (ap (λ u. u.valid) e) (ap (λ u. u.lists) e)

pub load_sets-requires-clause-spans : goal.load_sets-requires-clause-spans
load_sets-requires-clause-spans c = spanned c.requires.loadable

pub load_sets-requires-clause-empty : goal.load_sets-requires-clause-empty
load_sets-requires-clause-empty c = blank-kept c.requires.blank

pub returns-in_err-load_sets : goal.returns-in_err-load_sets
returns-in_err-load_sets c =
    let n = (blank-kept c.requires.blank).1 in
    let d = c.in_err-load_sets.ensures in
    filled-full c.from_residual.ensures.0 d.within (filled-over (all-loaded c.requires.loadable n c.load_uses.ensures d.gains) (omega arith))

pub close-requires-clause-held : goal.close-requires-clause-held
close-requires-clause-held c = let d = c.in_ok-load_sets.ensures in held (d.gains.kept d.within) c.room_for_spans-done.ensures

pub close-requires-clause-fresh : goal.close-requires-clause-fresh
close-requires-clause-fresh c = zero-at 1024 c.room_for_spans-done.ensures

pub returns : goal.returns
returns c =
    let n = (blank-kept c.requires.blank).1 in
    let d = all-loaded c.requires.loadable n c.load_uses.ensures c.in_ok-load_sets.ensures.gains in
    let o = c.close.ensures.outcome in
    record {
      filled = filled d c.in_ok-load_sets.ensures.within c.room_for_spans-done.ensures o.closes (finished-in c.args.limit c.close.new.store c.close.new.done c.close.result c.close.ensures.finished);
      within = o.within;
    }

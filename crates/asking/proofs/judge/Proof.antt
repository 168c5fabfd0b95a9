-- `asking::judge` meets its contract: each answer is the first refusal of the rows.
use mathlib.Core.Path.{◌≡◌, sym, ◌∙◌}
use mathlib.Core.Bool.{◌&&◌}
use mathlib.Core.List.{[]}
use lib.Dec.{eqb}
use Rattle.file.specs.Reading.{between}
use borrow.Author.Tests.{not-true, not-false}
use Rattle.asking.specs.Asking.{Request, request, StepLists, step_lists, Sized, one_length}
use Rattle.asking.proofs.Judging.{file-refused, entities-few, nine, eleven, twelve, admitted}
use borrow.Author.Rules.{rules}
use Rattle.asking.proofs.judge.Statement.{statement}
use Rattle.withdrawals.specs.Source.{◌without◌}
use Rattle.asking.proofs.judge.Tie as tie

abbrev q : tie.Start → Request
q s = request s.args.role s.args.set s.args.minute

-- the test of the lengths is that of the lists
tested : (s : tie.Start) (t : StepLists) → Sized t s.args.credential s.args.first s.args.second s.args.sets
    → one_length t ≡ (eqb s.args.first s.args.credential && eqb s.args.second s.args.credential && eqb s.args.sets s.args.credential && between 1 1024 s.args.credential)
tested s t z j = eqb (z.first j) (z.credential j) && eqb (z.second j) (z.credential j) && eqb (z.sets j) (z.credential j) && between 1 1024 (z.credential j)

no-ends-requires : tie.Need-no_ends-ends-requires
no-ends-requires c κs = search rules

survey-requires : tie.Need-survey-s-requires
survey-requires c κs = search rules

refused-requires : tie.Need-refused-requires
refused-requires c κs = search rules

returns : tie.Need-returns-then-s-ne0
returns c t z = let s = c.before.before.before.before.before.before.before.before.before in
    let v = c.before.before.before.survey-s in
    file-refused (s.args.file.now without s.args.withdrawals.now) (q s) t v.new.policy v.new.ends v.result v.ensures c.before.if-s-ne0.true c.refused.ensures

one-length-requires : tie.Need-one_length-requires
one-length-requires c κs = search rules

refused-requires-2 : tie.Need-refused-requires-then-not-one_length
refused-requires-2 c κs = search rules

returns-2 : tie.Need-returns-then-not-one_length
returns-2 c t z = let s = c.before.before.before.before.before.before.before.before.before.before.before in
    let v = c.before.before.before.before.before.survey-s in
    nine (s.args.file.now without s.args.withdrawals.now) (q s) t v.new.policy v.new.ends v.result v.ensures c.before.before.before.if-s-ne0.false
    (tested s t z ∙ sym c.before.before.one_length.ensures ∙ not-true _ c.before.if-not-one_length.true-raw) c.refused-then-not-one_length.ensures

within-requires : tie.Need-within-requires
within-requires c κs = let s = c.before.before.before.before.before.before.before.before.before.before in
    let v = c.before.before.before.before.survey-s in
    entities-few (s.args.file.now without s.args.withdrawals.now) (q s) (step_lists [] [] [] []) v.new.policy v.new.ends v.result v.ensures c.before.before.if-s-ne0.false

refused-requires-3 : tie.Need-refused-requires-then-not-within-set
refused-requires-3 c κs = search rules

returns-3 : tie.Need-returns-then-not-within-set
returns-3 c t z = let s = c.before.before.before.before.before.before.before.before.before.before.before.before.before in
    let v = c.before.before.before.before.before.before.before.survey-s in
    eleven (s.args.file.now without s.args.withdrawals.now) (q s) t v.new.policy v.new.ends v.result v.ensures c.before.before.before.before.before.if-s-ne0.false
    (tested s t z ∙ sym c.before.before.before.before.one_length.ensures ∙ not-false _ c.before.before.before.if-not-one_length.false-raw) c.before.before.within.result c.before.before.within.ensures (not-true _ c.before.if-not-within-set.true-raw) c.refused-then-not-within-set.ensures

refused-requires-4 : tie.Need-refused-requires-then-minute-eq4294967295
refused-requires-4 c κs = search rules

returns-4 : tie.Need-returns-then-minute-eq4294967295
returns-4 c t z = let s = c.before.before.before.before.before.before.before.before.before.before.before.before.before.before in
    let v = c.before.before.before.before.before.before.before.before.survey-s in
    twelve (s.args.file.now without s.args.withdrawals.now) (q s) t v.new.policy v.new.ends v.result v.ensures c.before.before.before.before.before.before.if-s-ne0.false
    (tested s t z ∙ sym c.before.before.before.before.before.one_length.ensures ∙ not-false _ c.before.before.before.before.if-not-one_length.false-raw) c.before.before.before.within.result c.before.before.before.within.ensures (not-false _ c.before.before.if-not-within-set.false-raw) c.before.if-minute-eq4294967295.true c.refused-then-minute-eq4294967295.ensures

returns-5 : tie.Need-returns
returns-5 c t z = let s = c.before.before.before.before.before.before.before.before.before.before.before.before.before in
    let v = c.before.before.before.before.before.before.before.survey-s in
    admitted (s.args.file.now without s.args.withdrawals.now) (q s) t v.new.policy v.new.ends v.result v.ensures c.before.before.before.before.before.if-s-ne0.false
    (tested s t z ∙ sym c.before.before.before.before.one_length.ensures ∙ not-false _ c.before.before.before.if-not-one_length.false-raw) c.before.before.within.result c.before.before.within.ensures (not-false _ c.before.if-not-within-set.false-raw) c.if-minute-eq4294967295.false

pub judge_spec : {M : Type 1} → statement M
judge_spec =
    tie.close
    (tie.spec
    no-ends-requires
    survey-requires
    refused-requires
    returns
    one-length-requires
    refused-requires-2
    returns-2
    within-requires
    refused-requires-3
    returns-3
    refused-requires-4
    returns-4
    returns-5)

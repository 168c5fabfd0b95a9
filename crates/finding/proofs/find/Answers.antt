-- The refusals of the request, then 10, 13 or an entry.
use mathlib.Core.Path.{◌≡◌, refl, sym, ◌∙◌, subst⁻¹}
use Rattle.withdrawals.specs.Source.{◌without◌, credentials}
use Rattle.rules.specs.Lists.{no_uses}
use Rattle.rules.specs.declared.UseLists.{UseLists}
use Rattle.loading.specs.Lists.{NoUsesIn}
use Rattle.loading.proofs.Blank.{no-uses}
use Rattle.finding.proofs.Finding.{role-below, request-refused, asked, loaded, find-over, leads, find_none, found-leveled, found-rising, find-entry}
use Rattle.finding.proofs.Sizes.{some, some-sized}
use Rattle.finding.proofs.find.Goals as goal

without-uses : {u : UseLists} → u ≡ no_uses → NoUsesIn u
without-uses e = subst⁻¹ NoUsesIn e (no-uses refl refl refl)

pub prepare-p-requires : goal.prepare-p-requires
prepare-p-requires c = without-uses c.new-uses.ensures

pub returns-then-p-ne0 : goal.returns-then-p-ne0
returns-then-p-ne0 c = λ t z. request-refused (c.prepare-p.ensures t z) c.if-p-ne0.true c.not_found.ensures

pub search-requires : goal.search-requires
search-requires c =
    let a = c.args in
    let z = some-sized a.credential a.first a.second a.sets in
    (credentials (a.file.now without a.withdrawals.now), a.minute, loaded z (c.prepare-p.ensures (some a.credential a.first a.second a.sets) z) c.if-p-ne0.false)

pub returns-then-is_err : goal.returns-then-is_err
returns-then-is_err c = λ t z. find-over z (c.prepare-p.ensures t z) c.if-p-ne0.false c.search.ensures.searched (sym c.is_err.ensures.value ∙ c.if-is_err.true) c.not_found-then-is_err.ensures

pub key_of-requires : goal.key_of-requires
key_of-requires c =
    let a = c.args in
    let z = some-sized a.credential a.first a.second a.sets in
    (role-below (asked z (c.prepare-p.ensures (some a.credential a.first a.second a.sets) z) c.if-p-ne0.false), c.ranges.set.fits)

pub entry_of-requires : goal.entry_of-requires
entry_of-requires c =
    let a = c.args in
    let z = some-sized a.credential a.first a.second a.sets in
    leads z (c.prepare-p.ensures (some a.credential a.first a.second a.sets) z) c.if-p-ne0.false c.search.ensures.searched (sym c.is_err.ensures.value ∙ c.if-is_err.false)

pub level_of-requires-clause-leveled : goal.level_of-requires-clause-leveled
level_of-requires-clause-leveled c =
    let a = c.args in
    let z = some-sized a.credential a.first a.second a.sets in
    found-leveled z (c.prepare-p.ensures (some a.credential a.first a.second a.sets) z) c.if-p-ne0.false c.search.ensures.searched (sym c.is_err.ensures.value ∙ c.if-is_err.false) c.key_of.ensures c.in-Some.ensures

pub level_of-requires-clause-rising : goal.level_of-requires-clause-rising
level_of-requires-clause-rising c =
    let a = c.args in
    let z = some-sized a.credential a.first a.second a.sets in
    found-rising z (c.prepare-p.ensures (some a.credential a.first a.second a.sets) z) c.if-p-ne0.false c.search.ensures.searched (sym c.is_err.ensures.value ∙ c.if-is_err.false) c.key_of.ensures c.in-Some.ensures

pub returns-in-Some : goal.returns-in-Some
returns-in-Some c = λ t z. find-entry z (c.prepare-p.ensures t z) c.if-p-ne0.false c.search.ensures.searched (sym c.is_err.ensures.value ∙ c.if-is_err.false) c.key_of.ensures c.in-Some.ensures c.ranges.set.fits c.level_of.ensures

pub returns-in-None : goal.returns-in-None
returns-in-None c = λ t z. find_none z (c.prepare-p.ensures t z) c.if-p-ne0.false c.search.ensures.searched (sym c.is_err.ensures.value ∙ c.if-is_err.false) c.key_of.ensures c.ranges.set.fits c.in-None.ensures c.not_found-in-None.ensures

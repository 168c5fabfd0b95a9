-- `asked` says what is wrong with the issuer, the name or the set.
use mathlib.Core.Path.{sym}
use borrow.Author.Tests.{le-leb, lt-leb, eq-eqb, ne_eqb}
use Rattle.request_sentences.proofs.Wording.{issuer-line, name-line, empty-line, entity-line}
use Rattle.request_sentences.proofs.asked.Goals as goal

pub returns-then-entities-issuer : goal.returns-then-entities-issuer
returns-then-entities-issuer c = rw (sym c.two_at-entities.ensures.0, le-leb _ _ c.if-entities-issuer.true) (issuer-line _ _)

pub returns-then-names-name : goal.returns-then-names-name
returns-then-names-name c = rw (sym c.two_at-entities.ensures.0, lt-leb _ _ c.if-entities-issuer.false, sym c.two_at-names.ensures.0, le-leb _ _ c.if-names-name.true) (name-line _ _)

pub returns-then-set-eq0 : goal.returns-then-set-eq0
returns-then-set-eq0 c = rw (sym c.two_at-entities.ensures.0, lt-leb _ _ c.if-entities-issuer.false, sym c.two_at-names.ensures.0, lt-leb _ _ c.if-names-name.false, eq-eqb _ _ c.if-set-eq0.true) empty-line

pub returns : goal.returns
returns c = rw (sym c.two_at-entities.ensures.0, lt-leb _ _ c.if-entities-issuer.false, sym c.two_at-names.ensures.0, lt-leb _ _ c.if-names-name.false, ne_eqb _ _ c.if-set-eq0.false, sym c.first_from-x.ensures) (entity-line _ _)

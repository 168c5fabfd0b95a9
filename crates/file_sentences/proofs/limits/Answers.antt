-- `limits` says the first size that is outside its limits.
use mathlib.Core.Path.{sym, ◌∙◌}
use Rattle.file_sentences.proofs.Wording.{entities-line, names-line, credentials-line}
use Rattle.file_sentences.proofs.limits.Goals as goal

pub returns-then-not-within : goal.returns-then-not-within
returns-then-not-within c = rw (sym c.two_at-entities.ensures.0, sym c.within.ensures ∙ c.if-not-within.true) (entities-line _)

pub returns-then-not-within-2 : goal.returns-then-not-within-2
returns-then-not-within-2 c = rw (sym c.two_at-entities.ensures.0, sym c.within.ensures ∙ c.if-not-within.false, sym c.two_at-names.ensures.0, sym c.within-2.ensures ∙ c.if-not-within-2.true) (names-line _)

pub returns : goal.returns
returns c = rw (sym c.two_at-entities.ensures.0, sym c.within.ensures ∙ c.if-not-within.false, sym c.two_at-names.ensures.0, sym c.within-2.ensures ∙ c.if-not-within-2.false, sym c.two_at.ensures.0) (credentials-line _)

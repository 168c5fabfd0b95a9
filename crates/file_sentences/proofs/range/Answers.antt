-- `range` says the entity that the file does not have; if there is none, the name.
use Rattle.file_sentences.proofs.Wording.{entity-line, name-line}
use Rattle.file_sentences.proofs.Ranges.{entity-said, name-said}
use Rattle.file_sentences.proofs.range.Goals as goal

pub returns-then-j-ne0 : goal.returns-then-j-ne0
returns-then-j-ne0 c =
    let a = c.args in
    let w = entity-said a.file.now a.place _ _ c.two_at-entities.ensures.0 c.stray_entity-j.ensures _ c.if-j-ne0.true c.field_at.ensures in
    rw w (entity-line _ _ _)

pub returns : goal.returns
returns c =
    let a = c.args in
    let w = name-said a.file.now a.place _ _ c.two_at-entities.ensures.0 c.stray_entity-j.ensures _ _ _ c.if-j-ne0.false c.two_at-names.ensures.0 c.stray_name-k.ensures c.field_at-2.ensures in
    rw w (name-line _ _ _)

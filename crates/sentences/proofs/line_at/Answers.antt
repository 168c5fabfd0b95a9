-- A newline is passed, or another byte.
use Rattle.std.proofs.Common.{sym, ◌∙◌}
use Rattle.sentences.proofs.Lines.{past-newline, past-byte, past_end}
use Rattle.sentences.proofs.line_at.Goals as goal
use Rattle.sentences.proofs.line_at.Goals.{then-words-i-eq10, else-words-i-eq10}

pub loop-i-preserved : goal.loop-i-preserved
loop-i-preserved c =
    let w = c.args.words.now in
    let l = c.loop-i in
    let h = c.loop-i-test.true in
    let n = c.if-left-eq0.false in
    elim c.if-words-i-eq10.branch [
      | then-words-i-eq10 b ↦ rw b.left-is (sym (past-newline w l.left l.i h n b.if-words-i-eq10.true) ∙ l.invariant)
      | else-words-i-eq10 b ↦ rw b.left-is (sym (past-byte w l.left l.i h n b.if-words-i-eq10.false) ∙ l.invariant)
    ]

pub returns-clause-at : goal.returns-clause-at
returns-clause-at c = past_end c.args.words.now c.loop-i.left c.loop-i.i c.loop-i-test.false ∙ c.loop-i.invariant

-- The line is as far from i on as `left` says.
use Rattle.std.proofs.Common.{◌≡◌, drop}
use Rattle.sentences.specs.Filling.{line_from}
use Rattle.sentences.proofs.line_at.Given as goal

abbrev pub invariant-loop-i : goal.invariant-loop-i
invariant-loop-i l = line_from l.left (drop l.i l.words) ≡ line_from l.line l.words

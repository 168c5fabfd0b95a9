-- A brace at each end, and the list between them.
use Rattle.std.proofs.Common.{sym, ◌∙◌}
use Rattle.sets.proofs.Scanning.{short, not_opened, not-closed, in-braces}
use Rattle.sets.proofs.parse_set.Goals as goal

pub returns-then-n-lt2 : goal.returns-then-n-lt2
returns-then-n-lt2 c = sym (short _ c.if-n-lt2.true)

pub returns-then-bytes-ne123 : goal.returns-then-bytes-ne123
returns-then-bytes-ne123 c = sym (not_opened _ c.if-n-lt2.false c.if-bytes-ne123.true)

pub returns-then-bytes-last-ne125 : goal.returns-then-bytes-last-ne125
returns-then-bytes-last-ne125 c = sym (not-closed _ c.if-n-lt2.false c.if-bytes-ne123.false c.if-bytes-last-ne125.true)

pub returns : goal.returns
returns c = c.parse_list.ensures ∙ sym (in-braces _ c.if-n-lt2.false c.if-bytes-ne123.false c.if-bytes-last-ne125.false)

-- None of the numbers before number j is x.
use Rattle.std.proofs.Common.{◌≡◌, ℕ, ◌<◌, false}
use Rattle.list_sentences.proofs.Searching.{is}
use Rattle.list_sentences.proofs.among.Given as goal

abbrev pub invariant-loop-j : goal.invariant-loop-j
invariant-loop-j l = (i : ℕ) → i < l.j → is l.bytes l.from l.step l.x i ≡ false

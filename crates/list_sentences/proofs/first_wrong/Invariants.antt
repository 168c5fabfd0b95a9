-- No withdrawal before k is wrong.
use Rattle.std.proofs.Common.{◌≡◌, ℕ, ◌<◌, false}
use Rattle.list_sentences.specs.ListSentences.{wrong_at}
use Rattle.list_sentences.proofs.first_wrong.Given as goal

abbrev pub invariant-loop-k : goal.invariant-loop-k
invariant-loop-k l = (j : ℕ) → j < l.k → wrong_at l.file l.list j ≡ false

-- None before e is in the set.
use Rattle.std.proofs.Common.{◌≡◌}
use Rattle.sets.specs.Sets.{has}
use Rattle.sentences.specs.Words.{first_of}
use Rattle.request_sentences.proofs.Onward.{onward}
use Rattle.request_sentences.proofs.first_from.Given as goal

abbrev pub invariant-loop-e : goal.invariant-loop-e
invariant-loop-e l = first_of (has l.set) (onward l.fn.from) ≡ first_of (has l.set) (onward l.e)

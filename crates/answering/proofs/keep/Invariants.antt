-- The entries before j had their turns; `numbers` had the marks when the loop began.
use lib.ListN.{drop}
use Rattle.store.specs.Store.{SameLists}
use Rattle.answering.specs.Marks.{Marked}
use Rattle.answering.proofs.Keeping.{Progress}
use Rattle.answering.proofs.keep.Given as goal

abbrev pub invariant-loop-j : goal.invariant-loop-j
invariant-loop-j l = Marked l.fn.store.notes l.fn.x 0 (drop 1 l.initial.numbers) × Progress l.fn.store.keys l.fn.store.notes (drop 1 l.initial.numbers) l.j l.numbers l.store.keys l.store.notes l.k × SameLists l.fn.store l.store

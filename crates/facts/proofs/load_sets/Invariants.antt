-- The sets of the credentials before i were added.
use Rattle.std.specs.Prelude.{Ok}
use Rattle.heads.specs.Stores.{Adds}
use Rattle.facts.specs.Facts.{StatedBy, FactBy}
use Rattle.facts.proofs.load_sets.Given as goal

abbrev pub invariant-loop-i : goal.invariant-loop-i
invariant-loop-i l = Adds l.limit l.fn.store (StatedBy l.policy l.i l.ends l.count) (FactBy l.policy l.i l.ends l.count) l.store (Ok tt)

-- The item before each is lower.
use Rattle.std.proofs.Common.{◌≤◌}
use Rattle.listing.proofs.search.Given as goal

abbrev pub invariant-loop-c : goal.invariant-loop-c
invariant-loop-c l = l.c ≤ l.at

abbrev pub decreases-loop-c : goal.decreases-loop-c
decreases-loop-c l = l.c

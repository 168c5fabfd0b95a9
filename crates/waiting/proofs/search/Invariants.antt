use Rattle.std.proofs.Common.{◌≡◌, ◌<◌, ◌≤◌}
use Rattle.waiting.proofs.search.Given as goal

abbrev pub invariant-loop : goal.invariant-loop
invariant-loop l = record { same : l.waiting ≡ l.fn.waiting; high : 48 ≤ l.p; low : l.p < 97; fits : l.x < 4294967296 }

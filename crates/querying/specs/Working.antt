-- What the proof of a request comes to before it is written into lists.
use Rattle.std.specs.Prelude.{◌≡◌, List, ℕ, ◌≤◌, length}
use Rattle.meaning.specs.Proofs.{Step}
use Rattle.file.specs.Refusals.{Outcome, done, refused}
use Rattle.withdrawals.specs.Source.{Source, credentials}
use Rattle.asking.specs.Asking.{Request, StepLists, size, Askable}
use Rattle.derivation.specs.HandedOut.{HandedOut}
use Rattle.answering.specs.Steps.{steps_in}
use Rattle.querying.specs.Querying.{Counts, reply_with}

-- how many steps a reply has, none for a refusal
abbrev pub step_count : Outcome Counts → ℕ
step_count (done c) = c.steps
step_count (refused n p) = 0

-- The reply to a request with lists t; the steps of a proof are the first places of keys and notes.
pub record Proves (f : Source) (q : Request) (t : StepLists) (keys notes : List ℕ) (reply : Outcome Counts) : Type 0 where
  pub steps : List Step
  pub says : reply ≡ reply_with f q t steps
  pub handed : (c : Counts) → reply ≡ done c → HandedOut (credentials f) q.minute q.role q.set c.level steps × (length steps ≤ size t)
  pub places : (c : Counts) → reply ≡ done c → (steps ≡ steps_in keys notes c.steps) × (c.steps ≤ 1024)
  pub asks : (c : Counts) → reply ≡ done c → Askable f q t

-- Querying on bytes (document 01).
use Rattle.std.specs.Prelude.{◌≡◌, List, ℕ, ◌+◌, ◌*◌, ◌≤◌, length}
use Rattle.meaning.specs.Lists.{if}
use Rattle.meaning.specs.Proofs.{Step}
use Rattle.file.specs.Refusals.{Outcome, done, left}
use Rattle.withdrawals.specs.Source.{Source, credentials}
use Rattle.asking.specs.Asking.{Request, StepLists, step_lists}
use Rattle.derivation.specs.HandedOut.{HandedOut, words}
use Rattle.querying.specs.Querying.{Counts, counts, reply_with, QueryEnding, query_ending, Bounded}
use Rattle.codec.specs.Bytes.{bytes_of}
use Rattle.replies.specs.Interface.{word, not_whole, entry_count, whole_steps, step_lists_in}

-- steps + level × 65,536
abbrev pub steps_and_level : Counts → ℕ
steps_and_level c = c.steps + c.level * 65536

unfoldable pub query_reply : Source → Request → StepLists → List Step → Outcome Counts
query_reply f q b ss = if (whole_steps b) (reply_with f q (step_lists_in b) ss) (not_whole f (counts 0 0))

-- the reply and the bytes as the call leaves them, where ss are the steps handed out
unfoldable pub query_bytes : Source → Request → StepLists → List Step → QueryEnding
query_bytes f q b ss =
    query_ending (query_reply f q b ss)
    (step_lists
    (left (query_reply f q b ss) b.credential (bytes_of 4 (words (λ s. s.credential) (entry_count b.credential) ss)))
    (left (query_reply f q b ss) b.first (bytes_of 4 (words (λ s. s.first) (entry_count b.credential) ss)))
    (left (query_reply f q b ss) b.second (bytes_of 4 (words (λ s. s.second) (entry_count b.credential) ss)))
    (left (query_reply f q b ss) b.sets (bytes_of 4 (words (λ s. s.set) (entry_count b.credential) ss))))

-- What is true of a query for every input, where r is the number that it returns. The choice of the steps is the one result that document 01 leaves open.
pub record QueriedBytes (f : Source) (q : Request) (b : StepLists) (r : ℕ) (b' : StepLists) : Type 0 where
  pub steps : List Step
  pub reply : r ≡ word steps_and_level (query_bytes f q b steps).reply
  pub lists : b' ≡ (query_bytes f q b steps).lists
  pub handed : (c : Counts) → (query_bytes f q b steps).reply ≡ done c
      → HandedOut (credentials f) q.minute q.role q.set c.level steps × (length steps ≤ entry_count b.credential)
  pub bounded : (c : Counts) → (query_bytes f q b steps).reply ≡ done c → Bounded f q (entry_count b.credential) c.level

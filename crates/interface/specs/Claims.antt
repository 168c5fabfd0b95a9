-- Demand 3 (document 01) on bytes: one claim over rtt_complete, rtt_query and rtt_check, the calls of the server's program.
-- `complete_bytes`, `QueriedBytes` and `check_reply` are what the contracts of the three say of their replies and bytes. One file with one withdrawal list, the source f, stands in all three.
-- `lent_in` and `step_lists_in` read entries from bytes. Written validity, proofs and requests are those of the claim on lists (crates/joint).
use Rattle.std.specs.Prelude.{◌≡◌, ◌↔◌, List, ℕ, ◌+◌, ◌*◌, ◌≤◌, ◌<◌, length, take}
use Rattle.meaning.specs.Proofs.{Step, Proof}
use Rattle.withdrawals.specs.Source.{Source, credentials}
use Rattle.asking.specs.Asking.{Request, StepLists, step_in, steps_in}
use Rattle.derivation.specs.HandedOut.{HandedOut}
use Rattle.completing.specs.Completing.{Lent}
use Rattle.joint.specs.Joint.{InRange, InWrittenValidity, SomeProof}
use Rattle.replies.specs.Interface.{word, step_lists_in}
use Rattle.replies.specs.Lengths.{Rooms}
use Rattle.complete_bytes.specs.Interface.{lent_in, complete_bytes}
use Rattle.query_bytes.specs.Interface.{QueriedBytes}
use Rattle.check_bytes.specs.Interface.{check_reply}

-- A proof was handed out: r is the query's reply, and b are the bytes as it left them.
pub record GivenBytes (f : Source) (q : Request) (r : ℕ) (b : StepLists) : Type 0 where
  pub steps : ℕ
  pub level : ℕ
  -- the reply is steps + level × 65,536; it determines both, and is below every refusal's
  pub replied : r ≡ steps + level * 65536
  pub apart : (steps < 65536) × (r < 4294967296)
  -- the bytes hold so many steps from entry 0 on, and zeros after them
  pub fits : 4 * steps ≤ length b.credential
  pub zeros : (i : ℕ) → steps ≤ i → step_in (step_lists_in b) i ≡ record { credential = 0; first = 0; second = 0; set = 0 }
  -- these steps are a proof of the membership in document 01's form for querying, and the level is its own
  pub handed : HandedOut (credentials f) q.minute q.role q.set level (steps_in (step_lists_in b) steps)
  -- rtt_check, lent these bytes and this step count, replies the level
  pub checked : word (λ n. n) (check_reply f q b steps) ≡ level
  -- every proof of the membership at the minute, however many steps it has, has at least as many levels
  pub least : (k : ℕ) (ss : List Step) → Proof (credentials f) q.minute q.role q.set k ss → level ≤ k

-- after a query that replied r and left the bytes b
pub record AfterQueryBytes (f : Source) (q : Request) (r : ℕ) (b : StepLists) : Type 0 where
  -- if a proof exists, one was handed out
  pub given : SomeProof f q → GivenBytes f q r b
  -- the reply is 13 with place 0 exactly when none exists
  pub none : r ≡ 13 * 4294967296 ↔ ¬ SomeProof f q

-- of one completed table, whose bytes rtt_complete left as `after`, and one request
pub record JointBytes (f : Source) (after : Lent) (size count : ℕ) (q : Request) : Type 0 where
  -- the minute stands in the membership's written validity exactly when some proof exists
  pub validity : InWrittenValidity f (lent_in after) count q ↔ SomeProof f q
  -- and a query of the same file and list ends as `AfterQueryBytes` says, with four lists of as many bytes as the list of roles has
  pub query : (b b' : StepLists) (r : ℕ) → Rooms b → length b.credential ≡ size → QueriedBytes f q b r b' → AfterQueryBytes f q r b'

-- for every file and withdrawal list for which rtt_complete replied a count (a refusal's reply is 4,294,967,296 or more), and every request in range
abbrev pub Demand3Bytes : Type 0
Demand3Bytes =
    (f : Source) (before after : Lent) (count : ℕ)
    → count ≡ word (λ n. n) (complete_bytes f before).reply → after ≡ (complete_bytes f before).lists → count < 4294967296
    → (q : Request) → InRange f q
    → JointBytes f after (length before.roles) count q

-- ---- checking reads no byte past the step count

-- of one length, and the same bytes before byte n
abbrev pub Same : ℕ → List ℕ → List ℕ → Type 0
Same n x y = (length x ≡ length y) × (take n x ≡ take n y)

pub record SameBefore (n : ℕ) (b c : StepLists) : Type 0 where
  pub credential : Same n b.credential c.credential
  pub first : Same n b.first c.first
  pub second : Same n b.second c.second
  pub sets : Same n b.sets c.sets

-- rtt_check replies alike to bytes that are the same before byte 4 × steps of each list
abbrev pub BytesBeforeCount : Type 0
BytesBeforeCount = (f : Source) (q : Request) (b c : StepLists) (steps : ℕ) → SameBefore (4 * steps) b c → check_reply f q b steps ≡ check_reply f q c steps

-- The three calls for C made one after the other: what each replied, and demand 3 of these replies and the bytes that the calls left.
use Rattle.std.specs.Prelude.{◌≡◌, ◌↔◌, ℕ, ◌*◌, ◌%◌, ◌<◌, ltb, length}
use Rattle.meaning.specs.Lists.{if}
use Rattle.withdrawals.specs.Source.{Source}
use Rattle.asking.specs.Asking.{Request, StepLists}
use Rattle.completing.specs.Completing.{Lent}
use Rattle.joint.specs.Joint.{InRange, InWrittenValidity, SomeProof}
use Rattle.replies.specs.Interface.{word}
use Rattle.replies.specs.Lengths.{Rooms}
use Rattle.complete_bytes.specs.Interface.{lent_in, complete_bytes}
use Rattle.query_bytes.specs.Interface.{QueriedBytes}
use Rattle.check_bytes.specs.Interface.{check_reply}
use Rattle.interface.specs.Claims.{GivenBytes}
use Rattle.joint_bytes.specs.declared.Replies.{Replies}

-- the step count in a query's reply, 0 where it refused
abbrev pub steps_of : ℕ → ℕ
steps_of r = if (ltb r 4294967296) (r % 65536) 0

-- where rtt_complete replied a count, the request is in range and the four step lists have as many bytes as the list of roles
pub record AsDemandedBytes (f : Source) (q : Request) (after : Lent) (b' : StepLists) (r : Replies) : Type 0 where
  -- the minute stands in the written validity exactly when some proof exists
  pub validity : InWrittenValidity f (lent_in after) r.completed q ↔ SomeProof f q
  -- if one exists, the query's reply is steps + level × 65,536 of a proof in the bytes that it left, and the third reply is that level
  pub given : SomeProof f q → (g : GivenBytes f q r.queried b') × (r.checked ≡ g.level)
  -- the second reply is 13 with place 0 exactly when none exists
  pub none : r.queried ≡ 13 * 4294967296 ↔ ¬ SomeProof f q

pub record TogetherBytes (f : Source) (q : Request) (before after : Lent) (b b' : StepLists) (r : Replies) : Type 0 where
  pub completed : (r.completed ≡ word (λ n. n) (complete_bytes f before).reply) × (after ≡ (complete_bytes f before).lists)
  pub queried : QueriedBytes f q b r.queried b'
  pub checked : r.checked ≡ word (λ n. n) (check_reply f q b' (steps_of r.queried))
  -- a refusal's reply is 4,294,967,296 or more
  pub demand3 : r.completed < 4294967296 → InRange f q → Rooms b → length b.credential ≡ length before.roles → AsDemandedBytes f q after b' r

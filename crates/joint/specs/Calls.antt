-- The three calls made one after the other: what each answered, and demand 3 of these answers.
use Rattle.std.specs.Prelude.{◌≡◌, ◌↔◌, true, length, ℕ}
use Rattle.file.specs.Refusals.{done, refused}
use Rattle.withdrawals.specs.Source.{Source}
use Rattle.asking.specs.Asking.{Request, StepLists, size, one_length}
use Rattle.completing.specs.Completing as Completing
use Rattle.completing.specs.Completing.{Lent, completing}
use Rattle.querying.specs.Querying as Querying
use Rattle.querying.specs.Querying.{Queried}
use Rattle.querying.specs.declared.Answer.{Answer}
use Rattle.querying.specs.declared.Answer.TheVariants as A
use Rattle.checking.specs.Checking as Checking
use Rattle.checking.specs.Checking.{checking}
use Rattle.joint.specs.declared.Replies.{Replies}
use Rattle.joint.specs.Joint.{InRange, InWrittenValidity, SomeProof, Given}

-- the step count that querying returned, 0 where it refused
abbrev pub steps_of : Answer → ℕ
steps_of (A.Proof steps level) = steps
steps_of (A.Refused n p) = 0

-- where the table was completed with count memberships, the request is in range and the step lists have completing's length
pub record AsDemanded (f : Source) (q : Request) (after : Lent) (t' : StepLists) (r : Replies) (count : ℕ) : Type 0 where
  -- the minute stands in the written validity exactly when some proof exists
  pub validity : InWrittenValidity f after count q ↔ SomeProof f q
  -- if one exists, one was handed out, and the checker answered its level
  pub given : SomeProof f q → (g : Given f q (Querying.says_answer r.answer) t') × (Checking.says_checked r.checked ≡ done g.counts.level)
  -- 13 exactly when none exists
  pub none : Querying.says_answer r.answer ≡ refused 13 0 ↔ ¬ SomeProof f q

pub record Together (f : Source) (q : Request) (before after : Lent) (t t' : StepLists) (r : Replies) : Type 0 where
  pub completed : Completing.table_ending (Completing.says_completed r.completed) after.roles after.sets after.spans ≡ completing f before
  pub queried : Queried f q t (Querying.says_answer r.answer) t'
  pub checked : Checking.says_checked r.checked ≡ checking f q t' (steps_of r.answer)
  pub demand3 : (count : ℕ) → Completing.says_completed r.completed ≡ done count → InRange f q → one_length t ≡ true → size t ≡ length before.roles → AsDemanded f q after t' r count

-- When querying replies what, of every reply that its contract allows. The laws behind each claim are in `Refusals`.
use mathlib.Core.Path.{◌≡◌, ap, ◌∙◌}
use mathlib.Core.Logic.{◌↔◌}
use mathlib.Core.Bool.{not}
use mathlib.Core.List.{List, [], ◌∷◌, ◌++◌, append_assoc}
use Prim.Native.Nat.{ℕ, ◌<◌, ◌≤◌}
use lib.Dec.{ltb}
use lib.ListN.{length}
use Rattle.meaning.specs.Members.{member, has, members, least_level}
use Rattle.meaning.specs.Proofs.{Step, Provable}
use Rattle.file.specs.Refusals.{RefusalRow, Outcome, done, refused, first, ◌when◌}
use Rattle.file.specs.Format as F
use Rattle.file.specs.Reading as Reading
use Rattle.withdrawals.specs.List.{none}
use Rattle.withdrawals.specs.Source.{Source, ◌without◌, credentials, reading}
use Rattle.withdrawals.proofs.Claims.{uncut-first}
use Rattle.asking.specs.Asking.{Request, StepLists, size, request_rows, asking, Askable}
use Rattle.querying.specs.Querying.{Counts, counts, level_for, minute_full_row, none_row, reply_with, Queried}
use Rattle.querying.specs.Conditions.{members_for, RefusedQuery}
use Rattle.querying.proofs.Refusals as Refusals

module _ (f : Source) (q : Request) (t : StepLists) {reply : Outcome Counts} {t' : StepLists} (d : Queried f q t reply t') where
  -- A refusal is given exactly when its condition holds and none above it does, with its place.
  pub refusals-exact : (n p : ℕ) → reply ≡ refused n p ↔ RefusedQuery f q t n p
  refusals-exact = Refusals.refused-exact f q t d

  -- 10: none of 1 to 9, 11, 12, 17, 20 and 21, and more than L memberships at the minute.
  pub ten-exact : reply ≡ refused 10 0 ↔ (Askable f q t × (size t < members_for f q))
  ten-exact = Refusals.ten-exact f q t d

  -- 13: none of these, and no proof exists.
  pub thirteen-exact : reply ≡ refused 13 0 ↔ (Askable f q t × (members_for f q ≤ size t) × ¬ Provable (credentials f) q.minute q.role q.set)
  thirteen-exact = Refusals.thirteen-exact f q t d

  -- A step count and a level are replied exactly when nothing is refused.
  pub proof-exact : ((c : Counts) × (reply ≡ done c)) ↔ (Askable f q t × (members_for f q ≤ size t) × Provable (credentials f) q.minute q.role q.set)
  proof-exact = Refusals.proof-exact f q t d

  -- A level that is replied is at most the number of memberships at the minute, which is at most L; on cut periods too, since f has the withdrawals.
  pub level-bound : (c : Counts) → reply ≡ done c → (c.level ≤ members_for f q) × (members_for f q ≤ size t) × (size t ≤ 1024)
  level-bound = d.bounded

-- With the list of count 0 the reply is by the file's own refusals and credentials.
pub uncut-reply : (f : List ℕ) (q : Request) (t : StepLists) (ss : List Step) → reply_with (f without none) q t ss
    ≡ first (Reading.reading f ++ (request_rows (f without none) q t
    ++ (10 when (ltb (size t) (length (members (F.credentials f) q.minute)))
    ∷ 13 when (not (has (member q.role q.set) (members (F.credentials f) q.minute))) ∷ [])))
    (counts (length ss) (least_level (F.credentials f) q.minute (member q.role q.set)))
unfolding reply_with asking
uncut-reply f q t ss =
    ap (λ (rows : List RefusalRow). first rows (counts (length ss) (level_for (f without none) q)))
    (append_assoc (reading (f without none)) (request_rows (f without none) q t) (minute_full_row (f without none) q (size t) ∷ none_row (f without none) q ∷ []))
    ∙ uncut-first f
    (λ cs. request_rows (f without none) q t ++ (10 when (ltb (size t) (length (members cs q.minute)))
    ∷ 13 when (not (has (member q.role q.set) (members cs q.minute))) ∷ []))
    (λ cs. counts (length ss) (least_level cs q.minute (member q.role q.set)))

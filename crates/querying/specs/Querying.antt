-- Querying (document 01): the reply, what the four lent lists then hold, and the proof that is handed out.
use Rattle.std.specs.Prelude.{◌≡◌, not, List, [], ◌∷◌, ◌++◌, ℕ, ◌≤◌, ltb, length}
use Rattle.meaning.specs.Members.{member, has, members, least_level}
use Rattle.meaning.specs.Proofs.{Step}
use Rattle.file.specs.Refusals.{RefusalRow, Outcome, done, refused, first, ◌when◌, left}
use Rattle.withdrawals.specs.Source.{Source, credentials}
use Rattle.asking.specs.Asking.{Request, StepLists, step_lists, size, asking}
use Rattle.derivation.specs.HandedOut.{HandedOut, words}
use Rattle.querying.specs.declared.Answer.{Answer}
use Rattle.querying.specs.declared.Answer.TheVariants as A

-- what querying returns: step count and level
pub record Counts : Type 0 where
  pub steps : ℕ
  pub level : ℕ

abbrev pub counts : ℕ → ℕ → Counts
counts steps level = record { steps = steps; level = level }

-- 10: more than L memberships at that minute
abbrev pub minute_full_row : Source → Request → ℕ → RefusalRow
minute_full_row f q L = 10 when (ltb L (length (members (credentials f) q.minute)))

-- 13: no proof
abbrev pub none_row : Source → Request → RefusalRow
none_row f q = 13 when (not (has (member q.role q.set) (members (credentials f) q.minute)))

-- the least level of any proof of the membership at the minute
abbrev pub level_for : Source → Request → ℕ
level_for f q = least_level (credentials f) q.minute (member q.role q.set)

-- the reply, where ss are the steps handed out
unfoldable pub reply_with : Source → Request → StepLists → List Step → Outcome Counts
reply_with f q t ss = first (asking f q t ++ (minute_full_row f q (size t) ∷ none_row f q ∷ [])) (counts (length ss) (level_for f q))

-- how the call ends: its reply, and the lists as it leaves them
pub record QueryEnding : Type 0 where
  pub reply : Outcome Counts
  pub lists : StepLists

abbrev pub query_ending : Outcome Counts → StepLists → QueryEnding
query_ending reply lists = record { reply = reply; lists = lists }

-- the words of the steps, zeros after the last
unfoldable pub querying : Source → Request → StepLists → List Step → QueryEnding
querying f q t ss =
    query_ending (reply_with f q t ss)
    (step_lists
    (left (reply_with f q t ss) t.credential (words (λ s. s.credential) (size t) ss))
    (left (reply_with f q t ss) t.first (words (λ s. s.first) (size t) ss))
    (left (reply_with f q t ss) t.second (words (λ s. s.second) (size t) ss))
    (left (reply_with f q t ss) t.sets (words (λ s. s.set) (size t) ss)))

-- a level is at most the number of memberships at the minute, which is at most L, at most 1,024 (document 02, Five)
abbrev pub Bounded : Source → Request → ℕ → ℕ → Type 0
Bounded f q L level = (level ≤ length (members (credentials f) q.minute)) × (length (members (credentials f) q.minute) ≤ L) × (L ≤ 1024)

-- What is true of a query for every input. The choice of the steps is the one result that document 01 leaves open.
pub record Queried (f : Source) (q : Request) (t : StepLists) (reply : Outcome Counts) (t' : StepLists) : Type 0 where
  pub steps : List Step
  pub ends : query_ending reply t' ≡ querying f q t steps
  pub handed : (c : Counts) → reply ≡ done c → HandedOut (credentials f) q.minute q.role q.set c.level steps × (length steps ≤ size t)
  pub bounded : (c : Counts) → reply ≡ done c → Bounded f q (size t) c.level

-- document 01's number and values for each case of the answer
abbrev pub says_answer : Answer → Outcome Counts
says_answer (A.Proof steps level) = done (counts steps level)
says_answer (A.Refused n p) = refused n p

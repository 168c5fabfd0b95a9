-- Demand 3 (document 01): one claim over completing, querying and checking together.
-- `completing`, `Queried` and `checking` are what the contracts of the three calls say of their replies and lists. One file with one withdrawal list, the source f, stands in all three.
use Rattle.std.specs.Prelude.{◌≡◌, ◌↔◌, true, List, map, ℕ, ◌≤◌, T, length, get_or}
use Rattle.meaning.specs.Lists.{below}
use Rattle.meaning.specs.Table.{Row, ends, written}
use Rattle.meaning.specs.Proofs.{Step, Proof, Provable}
use Rattle.file.specs.Refusals.{Outcome, done, refused}
use Rattle.withdrawals.specs.Source.{Source, credentials}
use Rattle.asking.specs.Asking.{Request, StepLists, step_in, steps_in, size, one_length, within}
use Rattle.derivation.specs.HandedOut.{HandedOut}
use Rattle.completing.specs.Completing.{Lent, completing}
use Rattle.completing.specs.Completing as Completing
use Rattle.querying.specs.Querying.{Counts, Queried}
use Rattle.checking.specs.Checking.{checking}

-- the first entries of completing's lists, as many as the returned count
abbrev pub rows_in : Lent → ℕ → List Row
rows_in t count = map (λ i. record { role = get_or t.roles i 0; set = get_or t.sets i 0; spans = get_or t.spans i 0 }) (below count)

-- The minute stands in the membership's written validity: of these entries take the one with its role and set, and of that one the minutes of
-- every span whose bit is set.
abbrev pub InWrittenValidity : Source → Lent → ℕ → Request → Type 0
InWrittenValidity f t count q = T (written (ends (credentials f)) (rows_in t count) q.role q.set q.minute)

-- some proof of the membership exists, of any length, from credentials valid at the minute
abbrev pub SomeProof : Source → Request → Type 0
SomeProof f q = Provable (credentials f) q.minute q.role q.set

-- a role and a non-empty set within the file's numbers, and a minute
pub record InRange (f : Source) (q : Request) : Type 0 where
  pub numbers : within f q.role q.set ≡ true
  pub some : q.set ≡ 0 → ⊥
  pub minute : q.minute ≤ 4294967294

-- A proof was handed out: t are the lists as querying left them.
pub record Given (f : Source) (q : Request) (reply : Outcome Counts) (t : StepLists) : Type 0 where
  pub counts : Counts
  -- the reply is a step count and a level, and the lists hold so many steps from entry 0 on, and zeros after them
  pub replied : reply ≡ done counts
  pub fits : counts.steps ≤ size t
  pub zeros : (i : ℕ) → counts.steps ≤ i → step_in t i ≡ record { credential = 0; first = 0; second = 0; set = 0 }
  -- these steps are a proof of the membership in document 01's form for querying, and the level is its own
  pub handed : HandedOut (credentials f) q.minute q.role q.set counts.level (steps_in t counts.steps)
  -- the checker passes these lists with this count, and returns the same level
  pub checked : checking f q t counts.steps ≡ done counts.level
  -- every proof of the membership at the minute, however many steps it has, has at least as many levels
  pub least : (k : ℕ) (ss : List Step) → Proof (credentials f) q.minute q.role q.set k ss → counts.level ≤ k

-- after a query that replied and left the lists t'
pub record AfterQuery (f : Source) (q : Request) (reply : Outcome Counts) (t' : StepLists) : Type 0 where
  -- if a proof exists, one was handed out
  pub given : SomeProof f q → Given f q reply t'
  -- 13 was given exactly when none exists
  pub none : reply ≡ refused 13 0 ↔ ¬ SomeProof f q

-- of one completed table, whose lists completing left as `after`, and one request
pub record JointClaim (f : Source) (after : Lent) (L count : ℕ) (q : Request) : Type 0 where
  -- the minute stands in the membership's written validity exactly when some proof exists
  pub validity : InWrittenValidity f after count q ↔ SomeProof f q
  -- and a query of the same file and list with step lists of the same length L ends as `AfterQuery` says
  pub query : (t t' : StepLists) (reply : Outcome Counts) → one_length t ≡ true → size t ≡ L → Queried f q t reply t' → AfterQuery f q reply t'

-- for every file and withdrawal list whose table was completed, with lists of length L, and every request in range
abbrev pub Demand3 : Type 0
Demand3 =
    (f : Source) (before after : Lent) (count : ℕ)
    → Completing.table_ending (done count) after.roles after.sets after.spans ≡ completing f before
    → (q : Request) → InRange f q
    → JointClaim f after (length before.roles) count q

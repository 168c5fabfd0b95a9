-- Checking a proof (document 01): the level, or a refusal of 1 to 9, 11, 12, 14 to 17, 20 and 21.
use Rattle.std.specs.Prelude.{Bool, ◌&&◌, not, List, [], ◌∷◌, ◌++◌, map, ℕ, ◌-◌, eqb, ltb, length, get_or, take}
use Rattle.meaning.specs.Lists.{below}
use Rattle.meaning.specs.Credentials.{Credential, credential_at}
use Rattle.meaning.specs.Proofs.{Step, Shown, nothing, keeps, shown_by}
use Rattle.file.specs.Refusals.{RefusalRow, Outcome, done, refused, first, ◌when◌, ◌at◌when◌}
use Rattle.file.specs.Reading.{between}
use Rattle.withdrawals.specs.Source.{Source, credentials}
use Rattle.asking.specs.Asking.{Request, StepLists, step_lists, step_in, steps_in, size, asking}
use Rattle.checking.specs.declared.Checked.{Checked}
use Rattle.checking.specs.declared.Checked.TheVariants as C

-- the step names a credential of the file and keeps the rules for a proof step, after the steps before it
abbrev pub step_holds : List Credential → ℕ → List Step → Step → Bool
step_holds cs m before s = ltb s.credential (length cs) && keeps m (credential_at cs s.credential) (shown_by cs [] before) s

-- 15, for the first step that does not
abbrev pub step_row : List Credential → ℕ → StepLists → ℕ → RefusalRow
step_row cs m t i = 15 at i when (not (step_holds cs m (steps_in t i) (step_in t i)))

-- what the last of n steps shows
abbrev pub last_shown : List Credential → StepLists → ℕ → Shown
last_shown cs t n = get_or (shown_by cs [] (steps_in t n)) (n - 1) nothing

-- 16: the last step isn't the queried membership
abbrev pub last_row : List Credential → Request → StepLists → ℕ → RefusalRow
last_row cs q t n = 16 when (not (eqb (last_shown cs t n).role q.role && eqb (last_shown cs t n).set q.set))

-- 15 and 16
abbrev pub step_rows : List Credential → Request → StepLists → ℕ → List RefusalRow
step_rows cs q t n = map (step_row cs q.minute t) (below n) ++ last_row cs q t n ∷ []

-- the entries before the step count, which are all that is read
abbrev pub part_before : ℕ → StepLists → StepLists
part_before n t = step_lists (take n t.credential) (take n t.first) (take n t.second) (take n t.sets)

-- 14 to 16; 14: step count outside 1 to L
abbrev pub proof_rows : List Credential → Request → StepLists → ℕ → List RefusalRow
proof_rows cs q t n = 14 when (not (between 1 (size t) n)) ∷ step_rows cs q (part_before n t) n

-- the level of the proof, which is its last step's
unfoldable pub checking : Source → Request → StepLists → ℕ → Outcome ℕ
checking f q t n = first (asking f q t ++ proof_rows (credentials f) q t n) (last_shown (credentials f) (part_before n t) n).level

-- document 01's number and values for each case of the answer
abbrev pub says_checked : Checked → Outcome ℕ
says_checked (C.Level k) = done k
says_checked (C.Refused n p) = refused n p

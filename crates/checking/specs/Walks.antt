-- What the private functions take and answer.
use Rattle.std.specs.Prelude.{◌≡◌, true, false, ◌&&◌, List, [], ℕ, ◌<◌, ◌≤◌, eqb, ltb, length, get_or}
use Rattle.meaning.specs.Lists.{if}
use Rattle.meaning.specs.Credentials.{Credential}
use Rattle.meaning.specs.Proofs.{shown_by}
use Rattle.file.specs.Refusals.{Outcome, done, refused, first}
use Rattle.asking.specs.Asking.{Request, StepLists, step_in, steps_in}
use Rattle.steps.specs.Steps.{shown_in}
use Rattle.checking.specs.declared.Kept.{Kept}
use Rattle.checking.specs.Checking.{step_holds, step_rows, last_shown}

-- no more than 256 credentials, and four lists of k steps, from 1 to 1,024
pub record Walkable (n : ℕ) (t : StepLists) (k : ℕ) : Type 0 where
  pub credentials : n ≤ 256
  pub credential : length t.credential ≡ k
  pub first : length t.first ≡ k
  pub second : length t.second ≡ k
  pub sets : length t.sets ≡ k
  pub some : 1 ≤ k
  pub few : k ≤ 1024

-- the first i steps keep the rules, and what they show is in the lists
pub record Walking (cs : List Credential) (m : ℕ) (t : StepLists) (roles levels : List ℕ) (i : ℕ) : Type 0 where
  pub rooms : (length roles ≡ 1024) × (length levels ≡ 1024)
  pub kept : (j : ℕ) → j < i → step_holds cs m (steps_in t j) (step_in t j) ≡ true
  pub shown : shown_in roles t.sets levels i ≡ shown_by cs [] (steps_in t i)
  pub low : (j : ℕ) → j < i → get_or levels j 0 ≤ i

-- all k do, and the last one shows this; or the next one does not
pub record Walked (cs : List Credential) (m : ℕ) (t : StepLists) (k : ℕ) (r : Kept) : Type 0 where
  pub within : r.count ≤ k
  pub kept : (j : ℕ) → j < r.count → step_holds cs m (steps_in t j) (step_in t j) ≡ true
  pub stops : r.count < k → step_holds cs m (steps_in t r.count) (step_in t r.count) ≡ false
  pub last : k ≤ r.count → record { role = r.role; set = r.set; level = r.level } ≡ last_shown cs t k

-- 15, 16 or the level; by how many of n steps keep the rules
abbrev pub concluded_by : Kept → ℕ → ℕ → ℕ → Outcome ℕ
concluded_by k role set n = if (ltb k.count n) (refused 15 k.count) (if (eqb k.role role && eqb k.set set) (done k.level) (refused 16 0))

-- and by the steps
unfoldable pub concluding : List Credential → Request → StepLists → ℕ → Outcome ℕ
concluding cs q t n = first (step_rows cs q t n) (last_shown cs t n).level

-- What the functions that cut a policy leave.
use Rattle.std.specs.Prelude.{◌≡◌, ◌⊎◌, List, [], ◌∷◌, ℕ, ◌*◌, ◌<◌, ◌≤◌, get_or}
use Rattle.meaning.specs.Credentials.{◌during◌}
use Rattle.file.specs.Format as F
use Rattle.file.specs.Format.{serial_of}
use Rattle.file.specs.Refusals.{◌when◌}
use Rattle.file.specs.Values.{first_number}
use Rattle.policy.specs.Policy.{credential_of, Decoded}
use Rattle.withdrawals.specs.List.{serial_at, unfounded}
use Rattle.withdrawals.specs.Cut.{cut, cut_to}
use Rattle.withdrawals.specs.Source.{Source, N, list_rows}
use Rattle.cutting.specs.Policy.{PolicyOf}

-- r is 20, 21 or 0; where it is 0, p is the policy of the source
pub record Withdraws (f : Source) (p : List ℕ) (n r : ℕ) : Type 0 where
  pub number : r ≡ first_number (list_rows f)
  pub policy : r ≡ 0 → PolicyOf f p n

-- r is 21 or 0, and likewise
pub record CutAll (f : Source) (p : List ℕ) (n r : ℕ) : Type 0 where
  pub number : r ≡ first_number (21 when (unfounded f.file f.withdrawals) ∷ [])
  pub policy : r ≡ 0 → PolicyOf f p n

-- i is the position of the credential that withdrawal k is of; n where an earlier one has that serial, or no credential
pub record Placed (f : Source) (n k i : ℕ) : Type 0 where
  pub within : i ≤ n
  pub found : i < n → (serial_of f.file i ≡ serial_at f.withdrawals k) × ((j : ℕ) → j < k → ¬ (serial_at f.withdrawals j ≡ serial_at f.withdrawals k))
  pub none : i ≡ n → ((j : ℕ) × (j < k) × (serial_at f.withdrawals j ≡ serial_at f.withdrawals k)) ⊎ ((j : ℕ) → j < n → ¬ (serial_of f.file j ≡ serial_at f.withdrawals k))

-- p with the period at position i cut
pub record CutAt (p p' : List ℕ) (i minute : ℕ) : Type 0 where
  pub here : credential_of p' i ≡ (credential_of p i).statement during cut (credential_of p i).period minute
  pub others : (j : ℕ) → ¬ (j ≡ i) → credential_of p' j ≡ credential_of p j
  pub words : (j : ℕ) → get_or p' (2 * j) 0 ≡ get_or p (2 * j) 0

-- p has the credentials of the file, cut by the first k withdrawals, each of which is founded
pub record CutTo (f : Source) (p : List ℕ) (n k : ℕ) : Type 0 where
  pub decoded : Decoded p n
  pub each : (i : ℕ) → i < n → credential_of p i ≡ (F.credential_in f.file i).statement during cut_to f.withdrawals (serial_of f.file i) (F.credential_in f.file i).period k
  pub known : (j : ℕ) → j < k → (i : ℕ) × (i < N f) × (serial_of f.file i ≡ serial_at f.withdrawals j)
  pub once : (i j : ℕ) → i < j → j < k → ¬ (serial_at f.withdrawals i ≡ serial_at f.withdrawals j)

-- The documents' conditions for the replies of completing, in propositions: when each refusal is given.
use Rattle.std.specs.Prelude.{◌≡◌, ℕ, ◌<◌, ◌≤◌, length}
use Rattle.meaning.specs.Table.{table}
use Rattle.withdrawals.specs.Source.{Source, credentials}
use Rattle.withdrawals.specs.Conditions.{Accepted, Refused}
use Rattle.completing.specs.Completing.{Lent}

-- the three lists are of one length, from 1 to 1,024
pub record ThreeOfOneLength (t : Lent) : Type 0 where
  pub sets : length t.sets ≡ length t.roles
  pub spans : length t.spans ≡ length t.roles
  pub limits : (1 ≤ length t.roles) × (length t.roles ≤ 1024)

-- `RefusedTable f t n p`: the condition of refusal n holds at place p, and none above it does
pub data RefusedTable (f : Source) (t : Lent) : ℕ → ℕ → Type 0 where
  file : {n p : ℕ} → Refused f n p → RefusedTable f t n p
  lengths : Accepted f → ¬ ThreeOfOneLength t → RefusedTable f t 9 0
  full : Accepted f → ThreeOfOneLength t → length t.roles < length (table (credentials f)) → RefusedTable f t 10 0

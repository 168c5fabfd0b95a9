-- A decoded policy of a file with its withdrawals.
use Rattle.std.specs.Prelude.{◌≡◌, List, ℕ}
use Rattle.policy.specs.Policy.{Decoded, credentials_of}
use Rattle.withdrawals.specs.Source.{Source, N, credentials}

-- the n credentials are those of the source
pub record PolicyOf (f : Source) (p : List ℕ) (n : ℕ) : Type 0 where
  pub count : n ≡ N f
  pub decoded : Decoded p n
  pub means : credentials_of p n ≡ credentials f

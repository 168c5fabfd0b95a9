-- Credentials whose periods lie within those of others: the same statements at the same positions.
use Rattle.std.specs.Prelude.{◌≡◌, List, ℕ, T, length}
use Rattle.meaning.specs.Credentials.{covers, Credential, credential_at}

pub record Within (cs ds : List Credential) : Type 0 where
  pub count : length cs ≡ length ds
  pub same : (i : ℕ) → (credential_at cs i).statement ≡ (credential_at ds i).statement
  pub minutes : (i m : ℕ) → T (covers (credential_at cs i).period m) → T (covers (credential_at ds i).period m)

-- What writing the table requires and leaves.
use Rattle.std.specs.Prelude.{◌≡◌, List, ℕ, ◌≤◌, ◌<◌, length, get_or}
use Rattle.meaning.specs.Credentials.{Credential}
use Rattle.meaning.specs.Table.{ends, span_count, table}
use Rattle.policy.specs.Policy.{credentials_of, Decoded}
use Rattle.survey.specs.Ends.{padded}
use Rattle.store.specs.Entries.{Stored}
use Rattle.closure.specs.Closure.{Closed, Finished, TooMany}
use Rattle.loading.specs.Loading.{by_span}
use Rattle.writing.specs.Columns.{column}

-- What is left in lists of one length: the columns of the table and its count, or an answer above the length, where the table is longer.
pub record Worked (cs : List Credential) (size : ℕ) (roles sets spans : List ℕ) (r : ℕ) : Type 0 where
  pub count : r ≤ size → r ≡ length (table cs)
  pub by_role : r ≤ size → roles ≡ column (λ x. x.role) size (table cs)
  pub by_set : r ≤ size → sets ≡ column (λ x. x.set) size (table cs)
  pub by_spans : r ≤ size → spans ≡ column (λ x. x.spans) size (table cs)
  pub over : size < r → size < length (table cs)

-- a policy of n credentials, with its ends and the number of its spans, and a limit on memberships
pub record Loadable (p : List ℕ) (n : ℕ) (es : List ℕ) (count limit : ℕ) : Type 0 where
  pub decoded : Decoded p n
  pub few : length (ends (credentials_of p n)) ≤ 64
  pub held : es ≡ padded 64 (ends (credentials_of p n))
  pub counted : count ≡ span_count (ends (credentials_of p n))
  pub small : limit ≤ 1024

-- What loading and closing leave in the store: closed entries with nothing left to do, or too many.
pub record Filled (cs : List Credential) (limit : ℕ) (keys found slots links : List ℕ) (r : ℕ) : Type 0 where
  pub stored : r ≤ limit → Stored keys slots links r
  pub some : r ≤ limit → (i : ℕ) → i < r → get_or found i 0 ≡ 0 → ⊥
  pub finished : r ≤ limit → (done : List ℕ) × Closed (by_span cs) keys found done r × Finished found done r
  pub room : r ≤ limit → length found ≡ 1024
  pub over : limit < r → TooMany (by_span cs) limit

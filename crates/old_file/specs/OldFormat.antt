-- The credentials file as document 01 first had it: statements of 8 bytes without serials, and periods whose `to` is not covered.
-- Later requests do not change it. Multi-byte numbers are lowest byte first; sizes and bytes are those of `crates/file/specs/Format.antt`.
use Rattle.std.specs.Prelude.{List, [], ◌∷◌, map, ℕ, ◌+◌, ◌*◌, ◌^◌, get_or}
use Rattle.std.proofs.Math.Option.{Option, none, some}
use Rattle.meaning.specs.Lists.{below}
use Rattle.meaning.specs.Credentials.{◌·◌, Body, set, role, link, ◌∩◌, ◌⊙◌, ◌⊗◌, ◌⟵◌, Period, Credential, ◌during◌, no_credential}
use Rattle.file.specs.Format.{byte, four, N}

abbrev pub old_length : ℕ → ℕ
old_length n = 6 + 16 * n

abbrev pub old_statement_at : ℕ → ℕ
old_statement_at i = 6 + 8 * i

abbrev pub old_period_at : List ℕ → ℕ → ℕ
old_period_at f i = 6 + 8 * N f + 8 * i

-- byte j of statement i: 0 kind, 1 issuer A, 2 name r, 3 b, 4 s, 5 c, 6 t, 7 always zero
abbrev pub old_field : List ℕ → ℕ → ℕ → ℕ
old_field f i j = byte f (old_statement_at i + j)

abbrev pub old_from : List ℕ → ℕ → ℕ
old_from f i = four f (old_period_at f i)

abbrev pub old_to : List ℕ → ℕ → ℕ
old_to f i = four f (old_period_at f i + 4)

-- the body by kind, of b, s, c, t; there is none for a kind above 5
abbrev pub old_body : ℕ → ℕ → ℕ → ℕ → ℕ → Option Body
old_body kind b s c t =
    get_or (some (set (2 ^ b)) ∷ some (role (b · s)) ∷ some (link (b · s) t) ∷ some (b · s ∩ c · t) ∷ some (b · s ⊙ c · t) ∷ some (b · s ⊗ c · t) ∷ []) kind none

-- `to` itself is not covered
abbrev pub old_period : List ℕ → ℕ → Period
old_period f i = record { from = old_from f i; until = old_to f i }

abbrev pub old_with_body : ℕ → Period → Option Body → Credential
old_with_body Ar v none = no_credential
old_with_body Ar v (some e) = Ar ⟵ e during v

-- the credential at position i
abbrev pub old_credential_in : List ℕ → ℕ → Credential
old_credential_in f i =
    old_with_body (old_field f i 1 · old_field f i 2) (old_period f i) (old_body (old_field f i 0) (old_field f i 3) (old_field f i 4) (old_field f i 5) (old_field f i 6))

-- the credentials of an old file
unfoldable pub old_credentials : List ℕ → List Credential
old_credentials f = map (old_credential_in f) (below (N f))

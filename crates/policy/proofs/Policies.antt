-- The credentials of a decoded policy by position, and that they fit the format.
use mathlib.Core.Path.{◌≡◌, ap, ◌∙◌, subst⁻¹}
use mathlib.Core.List.{List}
use Prim.Native.Nat.{ℕ, ◌*◌, ◌/◌, ◌%◌, ◌≤◌, ◌<◌}
use native.Mathlib.Omega.{arith}
use lib.ListN.{length, get_or, length-map}
use Rattle.meaning.specs.Lists.{below}
use Rattle.meaning.specs.Credentials.{Credential, no_credential, credential_at, SetFits, FitsAll}
use Rattle.meaning.proofs.ListLaws.{map-out, below_out}
use Rattle.file.proofs.Uses.{by_kind}
use Rattle.file.proofs.Credentials.{length-below, get_d-below, get_d-map-lt}
use Rattle.policy.specs.Policy.{stated_kind, stated_set, credential_of, credentials_of, Decoded}
use Rattle.policy.proofs.Words.{numbered}

pub length-of : (p : List ℕ) (n : ℕ) → length (credentials_of p n) ≡ n
unfolding credentials_of
length-of p n = length-map (below n) (credential_of p) ∙ length-below n

pub credential-of : (p : List ℕ) (n i : ℕ) → i < n → credential_at (credentials_of p n) i ≡ credential_of p i
unfolding credentials_of
credential-of p n i h =
    let l = length-below n in
    get_d-map-lt (credential_of p) (below n) i 0 no_credential (omega arith) ∙ ap (credential_of p) (get_d-below n i 0 h)

set-fits : (x : ℕ) → x < 4294967296 → (k : ℕ) → k ≤ 5 → SetFits (numbered k x)
set-fits x h = by_kind (λ k. SetFits (numbered k x)) h tt tt tt tt tt

pub decoded-fits : (p : List ℕ) (n : ℕ) → Decoded p n → FitsAll (credentials_of p n)
unfolding credentials_of
decoded-fits p n d c m =
    let r = map-out (credential_of p) (below n) m in
    let w : ℕ = get_or p (2 * r.0) 0 in
    let a : w / 4294967296 % 1024 < 1024 = omega arith in
    subst⁻¹ (λ (x : Credential). (x.statement.head < 1024) × SetFits x.statement.body) r.2
    (a, set-fits (stated_set w) (omega arith) (stated_kind w) (d.fits r.0 (below_out n r.1)).kind)

-- The credentials of a file by position, and counting lists.
use mathlib.Core.Path.{◌≡◌, refl, ap, ◌∙◌}
use mathlib.Core.List.{List, [], ◌∷◌, map}
use Prim.Native.Nat.{ℕ, zero, suc, ◌+◌, ◌<◌}
use native.Mathlib.Omega.{arith}
use lib.ListN.{length, get_or, length-map}
use Rattle.meaning.specs.Lists.{up_from, below}
use Rattle.file.specs.Format.{N, credential_in, credentials}
use Rattle.meaning.specs.Credentials.{no_credential, credential_at}

pub length-up-from : (i n : ℕ) → length (up_from i n) ≡ n
length-up-from i zero = refl
length-up-from i (suc n) = ap suc (length-up-from (suc i) n)

pub get_d-up-from : (i n j d : ℕ) → j < n → get_or (up_from i n) j d ≡ i + j
get_d-up-from i zero j d h = absurd (omega arith)
get_d-up-from i (suc n) zero d h = omega arith
get_d-up-from i (suc n) (suc j) d h = let e = get_d-up-from (suc i) n j d (omega arith) in omega arith

pub length-below : (n : ℕ) → length (below n) ≡ n
length-below n = length-up-from 0 n

pub get_d-below : (n i d : ℕ) → i < n → get_or (below n) i d ≡ i
get_d-below n i d h = let e = get_d-up-from 0 n i d h in omega arith

-- below the length, the element past the end does not matter
pub get_d-map-lt : {A B : Type 0} (g : A → B) (xs : List A) (i : ℕ) (d : A) (e : B) → i < length xs → get_or (map g xs) i e ≡ g (get_or xs i d)
get_d-map-lt g [] i d e h = absurd (omega arith)
get_d-map-lt g (x ∷ xs) zero d e h = refl
get_d-map-lt g (x ∷ xs) (suc i) d e h = get_d-map-lt g xs i d e (omega arith)

pub length-credentials : (f : List ℕ) → length (credentials f) ≡ N f
unfolding credentials
length-credentials f = length-map (below (N f)) (credential_in f) ∙ length-below (N f)

pub credential-at : (f : List ℕ) (i : ℕ) → i < N f → credential_at (credentials f) i ≡ credential_in f i
unfolding credentials
credential-at f i h =
    let l = length-below (N f) in
    get_d-map-lt (credential_in f) (below (N f)) i 0 no_credential (omega arith) ∙ ap (credential_in f) (get_d-below (N f) i 0 h)

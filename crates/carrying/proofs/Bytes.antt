-- Lists that are made of bytes.
use mathlib.Core.Path.{subst⁻¹}
use mathlib.Core.List.{List, [], ◌∷◌, ◌++◌}
use Prim.Native.Nat.{ℕ, zero, suc, ◌+◌, ◌/◌, ◌<◌}
use native.Mathlib.Omega.{arith}
use lib.ListN.{take, drop}
use lib.Seq.{get_or-drop}
use Rattle.meaning.specs.Lists.{each}
use Rattle.codec.specs.Bytes.{bytes}
use Rattle.codec.specs.ByteLists.{Bytes}

pub append-small : (s t : List ℕ) → Bytes s → Bytes t → Bytes (s ++ t)
append-small [] t a b i = b i
append-small (x ∷ s) t a b zero = a 0
append-small (x ∷ s) t a b (suc i) = append-small s t (λ j. a (suc j)) b i

pub take-small : (k : ℕ) (s : List ℕ) → Bytes s → Bytes (take k s)
take-small zero s a i = omega arith
take-small (suc k) [] a i = omega arith
take-small (suc k) (x ∷ s) a zero = a 0
take-small (suc k) (x ∷ s) a (suc i) = take-small k s (λ j. a (suc j)) i

pub drop-small : (k : ℕ) (s : List ℕ) → Bytes s → Bytes (drop k s)
drop-small k s a i = subst⁻¹ (λ (x : ℕ). x < 256) (get_or-drop k s i 0) (a (k + i))

pub bytes_small : (k x : ℕ) → Bytes (bytes k x)
bytes_small zero x i = omega arith
bytes_small (suc k) x zero = omega arith
bytes_small (suc k) x (suc i) = bytes_small k (x / 256) i

pub each-small : (g : ℕ → List ℕ) (l : List ℕ) → ((m : ℕ) → Bytes (g m)) → Bytes (each g l)
each-small g [] h i = omega arith
each-small g (m ∷ l) h i = append-small (g m) (each g l) (h m) (each-small g l h) i

-- The old kinds are read as the new ones, and which bytes of a statement they use.
use mathlib.Core.Path.{◌≡◌, refl}
use mathlib.Core.Bool.{Bool, ◌&&◌}
use mathlib.Core.List.{List, Memᴰ as Mem}
use Prim.Native.Nat.{ℕ, zero, suc, ◌<◌}
use lib.Dec.{T, ltb, ltb→lt}
use Rattle.meaning.specs.Lists.{all}
use Rattle.meaning.specs.Credentials.{Period}
use Rattle.meaning.proofs.Tests.{and_left, and_right, all-out}
use Rattle.file.specs.Format.{body_of, with_body}
use Rattle.file.specs.Reading.{uses}
use Rattle.old_file.specs.OldFormat.{old_body, old_with_body}

pub body_same : (Ar : ℕ) (v : Period) (k b s c t : ℕ) → with_body Ar v (body_of k b s c t) ≡ old_with_body Ar v (old_body k b s c t)
body_same Ar v zero b s c t = refl
body_same Ar v (suc zero) b s c t = refl
body_same Ar v (suc (suc zero)) b s c t = refl
body_same Ar v (suc (suc (suc zero))) b s c t = refl
body_same Ar v (suc (suc (suc (suc zero)))) b s c t = refl
body_same Ar v (suc (suc (suc (suc (suc zero))))) b s c t = refl
body_same Ar v (suc (suc (suc (suc (suc (suc k)))))) b s c t = refl

-- only bytes 0 to 7
abbrev low : List ℕ → Bool
low l = all (λ j. ltb j 8) l

uses-low : (k : ℕ) → T (low (uses k).entities && (low (uses k).names && low (uses k).unused))
uses-low zero = tt
uses-low (suc zero) = tt
uses-low (suc (suc zero)) = tt
uses-low (suc (suc (suc zero))) = tt
uses-low (suc (suc (suc (suc zero)))) = tt
uses-low (suc (suc (suc (suc (suc zero))))) = tt
uses-low (suc (suc (suc (suc (suc (suc k)))))) = tt

module _ (k : ℕ) where
  abbrev es : Bool
  es = low (uses k).entities

  abbrev ns : Bool
  ns = low (uses k).names

  abbrev us : Bool
  us = low (uses k).unused

  pub entities-low : (j : ℕ) → Mem j (uses k).entities → j < 8
  entities-low j m = ltb→lt j 8 (all-out (λ i. ltb i 8) (uses k).entities (and_left es (ns && us) (uses-low k)) m)

  pub names-low : (j : ℕ) → Mem j (uses k).names → j < 8
  names-low j m = ltb→lt j 8 (all-out (λ i. ltb i 8) (uses k).names (and_left ns us (and_right es (ns && us) (uses-low k))) m)

  pub unused-low : (j : ℕ) → Mem j (uses k).unused → j < 8
  unused-low j m = ltb→lt j 8 (all-out (λ i. ltb i 8) (uses k).unused (and_right ns us (and_right es (ns && us) (uses-low k))) m)

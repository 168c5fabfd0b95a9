-- The conditions for refusals 1 to 8 of an old file, in propositions, as document 01 first had them: when each is given, and when none is.
use Rattle.std.specs.Prelude.{◌≡◌, ℕ, ◌<◌, ◌≤◌, length}
use mathlib.Core.List.{List, Memᴰ as Mem}
use Rattle.meaning.specs.Table.{ends}
use Rattle.file.specs.Format.{E, R, N}
use Rattle.file.specs.Conditions.{Limits}
use Rattle.old_file.specs.OldFormat.{old_length, old_field, old_from, old_to, old_credentials}
use Rattle.old_file.specs.OldReading.{old_uses}

pub record OldHead (f : List ℕ) : Type 0 where
  pub six : 6 ≤ length f
  pub limits : Limits f
  pub whole : length f ≡ old_length (N f)

-- A and every used entity below E, r and every used name below R
pub record OldRanges (f : List ℕ) (i : ℕ) : Type 0 where
  pub entities : (j : ℕ) → Mem j (old_uses (old_field f i 0)).entities → old_field f i j < E f
  pub names : (j : ℕ) → Mem j (old_uses (old_field f i 0)).names → old_field f i j < R f

-- unused bytes and byte 7 zero
abbrev pub OldZeros : List ℕ → ℕ → Type 0
OldZeros f i = (j : ℕ) → Mem j (old_uses (old_field f i 0)).unused → old_field f i j ≡ 0

-- credential i passes 4 to 7
pub record OldGood (f : List ℕ) (i : ℕ) : Type 0 where
  pub kind : old_field f i 0 ≤ 5
  pub ranges : OldRanges f i
  pub zeros : OldZeros f i
  pub period : old_from f i < old_to f i

abbrev pub OldGoodBelow : List ℕ → ℕ → Type 0
OldGoodBelow f n = (i : ℕ) → i < n → OldGood f i

-- refusals 1 to 8 are not given
pub record OldAccepted (f : List ℕ) : Type 0 where
  pub head : OldHead f
  pub good : OldGoodBelow f (N f)
  pub few : length (ends (old_credentials f)) ≤ 64

-- the head passes, and so do all credentials before credential i
pub record OldReached (f : List ℕ) (i : ℕ) : Type 0 where
  pub head : OldHead f
  pub below : i < N f
  pub good : OldGoodBelow f i

-- `OldRefused f n p`: the condition of refusal n holds at place p, and none above it does
pub data OldRefused (f : List ℕ) : ℕ → ℕ → Type 0 where
  old_short : length f < 6 → OldRefused f 1 0
  old_limits : 6 ≤ length f → ¬ Limits f → OldRefused f 2 0
  old_wrong_length : 6 ≤ length f → Limits f → ¬ (length f ≡ old_length (N f)) → OldRefused f 3 0
  old_kind : (i : ℕ) → OldReached f i → 5 < old_field f i 0 → OldRefused f 4 i
  old_range : (i : ℕ) → OldReached f i → old_field f i 0 ≤ 5 → ¬ OldRanges f i → OldRefused f 5 i
  old_unused : (i : ℕ) → OldReached f i → old_field f i 0 ≤ 5 → OldRanges f i → ¬ OldZeros f i → OldRefused f 6 i
  old_undated : (i : ℕ) → OldReached f i → old_field f i 0 ≤ 5 → OldRanges f i → OldZeros f i → old_to f i ≤ old_from f i → OldRefused f 7 i
  old_too_many_ends : OldHead f → OldGoodBelow f (N f) → 64 < length (ends (old_credentials f)) → OldRefused f 8 0

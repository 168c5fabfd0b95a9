-- The documents' conditions for the replies of going forward and back, in propositions: when each refusal is given.
use Rattle.std.specs.Prelude.{◌≡◌, List, ℕ, ◌+◌, ◌<◌, length}
use Rattle.file.specs.Format.{N, length_for, serial_of}
use Rattle.file.specs.Conditions.{Accepted, Refused}
use Rattle.old_file.specs.OldFormat.{old_length}
use Rattle.old_file.specs.OldConditions.{OldAccepted, OldRefused}

-- `RefusedForward f out n p`: the condition of refusal n holds at place p, and none above it does
pub data RefusedForward (f out : List ℕ) : ℕ → ℕ → Type 0 where
  old_file : {n p : ℕ} → OldRefused f n p → RefusedForward f out n p
  other_new_length : OldAccepted f → ¬ (length out ≡ length_for (N f)) → RefusedForward f out 18 0

-- every serial is its position plus one
abbrev pub InPlace : List ℕ → Type 0
InPlace f = (i : ℕ) → i < N f → serial_of f i ≡ i + 1

-- i is the first credential whose serial is not
pub record FirstOutOfPlace (f : List ℕ) (i : ℕ) : Type 0 where
  pub within : i < N f
  pub before : (j : ℕ) → j < i → serial_of f j ≡ j + 1
  pub out : ¬ (serial_of f i ≡ i + 1)

-- likewise, going back
pub data RefusedBack (f out : List ℕ) : ℕ → ℕ → Type 0 where
  new_file : {n p : ℕ} → Refused f n p → RefusedBack f out n p
  other_old_length : Accepted f → ¬ (length out ≡ old_length (N f)) → RefusedBack f out 18 0
  out_of_place : {i : ℕ} → Accepted f → length out ≡ old_length (N f) → FirstOutOfPlace f i → RefusedBack f out 19 i

-- What the parts of the two calls answer.
use Rattle.std.specs.Prelude.{◌≡◌, List, ℕ, ◌+◌, ◌<◌, ◌≤◌, length}
use Rattle.file.specs.Format.{N, serial_of}
use Rattle.file.specs.Values.{first_number}
use Rattle.file.specs.Conditions.{Accepted, Refused}
use Rattle.codec.specs.ByteLists.{Bytes}
use Rattle.old_file.specs.OldFormat.{old_length}
use Rattle.old_file.specs.OldReading.{old_head_rows}
use Rattle.carrying.specs.declared.Judgement.{Judgement}

-- n is the count of an old file whose head passes
pub record OldSized (f : List ℕ) (n : ℕ) : Type 0 where
  pub count : n ≡ N f
  pub few : N f ≤ 256
  pub long : length f ≡ old_length (N f)
  pub small : Bytes f

-- refusals 1 to 3 of an old file
pub record OldHeaded (f : List ℕ) (h : Judgement) : Type 0 where
  pub number : h.number ≡ first_number (old_head_rows f)
  pub sizes : h.number ≡ 0 → OldSized f h.credentials

-- a file's refusal, or the count of its credentials
pub record Judges (f : List ℕ) (j : Judgement) : Type 0 where
  pub refused : (j.number ≡ 0 → ⊥) → Refused f j.number j.place
  pub accepted : j.number ≡ 0 → Accepted f
  pub count : j.number ≡ 0 → j.credentials ≡ N f

-- p is the first of n credentials whose serial is not its position plus one, or n
pub record FirstOut (f : List ℕ) (n p : ℕ) : Type 0 where
  pub within : p ≤ n
  pub before : (i : ℕ) → i < p → serial_of f i ≡ i + 1
  pub out : p < n → serial_of f p ≡ p + 1 → ⊥

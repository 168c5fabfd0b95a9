-- What the calls for C share (document 01): lists cross as bytes, lowest first, and the reply is one 64-bit number.
use Rattle.std.specs.Prelude.{Bool, true, ◌&&◌, List, [], ◌∷◌, ◌++◌, ℕ, ◌+◌, ◌*◌, ◌/◌, length}
use Rattle.file.specs.Refusals.{Outcome, done, refused, first, ◌when◌}
use Rattle.withdrawals.specs.Source.{Source, reading}
use Rattle.asking.specs.Asking.{StepLists, step_lists}
use Rattle.codec.specs.Bytes.{entries, whole}
pub use Rattle.codec.specs.ByteLists.{Bytes}

-- the reply: refusal number × 4,294,967,296 + place, or the value on success
abbrev pub word : {A : Type 0} → (A → ℕ) → Outcome A → ℕ
word value (done a) = value a
word value (refused n p) = n * 4294967296 + p

-- 9 also for a length that isn't whole entries
abbrev pub not_whole : {A : Type 0} → Source → A → Outcome A
not_whole f a = first (reading f ++ 9 when true ∷ []) a

-- L entries
abbrev pub entry_count : List ℕ → ℕ
entry_count bs = length bs / 4

-- ---- the step lists of querying and checking

abbrev pub whole_steps : StepLists → Bool
whole_steps b = whole 4 b.credential && whole 4 b.first && whole 4 b.second && whole 4 b.sets

abbrev pub step_lists_in : StepLists → StepLists
step_lists_in b = step_lists (entries 4 b.credential) (entries 4 b.first) (entries 4 b.second) (entries 4 b.sets)

-- The two numbers of a credential stored, and those before it kept; or nothing stored.
use mathlib.Core.Path.{◌≡◌, sym, ◌∙◌}
use mathlib.Core.Bool.{false}
use mathlib.Core.List.{List}
use Prim.Native.Nat.{ℕ, ◌+◌, ◌*◌, ◌<◌}
use native.Mathlib.Omega.{arith}
use lib.ListN.{length, get_or, set, length-set}
use lib.Seq.{get_or-set_same, get_or-set_other}
use Rattle.file.specs.Format.{from_of, to_of}
use Rattle.file.specs.Reading.{taken, credential_rows, check_rows}
use Rattle.file.specs.Values.{first_number}
use Rattle.file.proofs.Rows.{check-none}
use Rattle.policy.specs.Steps.{word_in, period_number, stored, OneDecoded}

module _ (p : List ℕ) (i w v : ℕ) where
  statement-stored : length p ≡ 512 → i < 256 → get_or (stored p i w v) (2 * i) 0 ≡ w
  statement-stored l h = get_or-set_other (set p (2 * i) w) (2 * i + 1) (2 * i) v 0 (λ e. omega arith) ∙ get_or-set_same p (2 * i) w 0 (omega arith)

  period-stored : length p ≡ 512 → i < 256 → get_or (stored p i w v) (2 * i + 1) 0 ≡ v
  period-stored l h = let s = length-set p (2 * i) w in get_or-set_same (set p (2 * i) w) (2 * i + 1) v 0 (omega arith)

  other-kept : (k : ℕ) → k < 2 * i → get_or (stored p i w v) k 0 ≡ get_or p k 0
  other-kept k h = get_or-set_other (set p (2 * i) w) (2 * i + 1) k v 0 (λ e. omega arith) ∙ get_or-set_other p (2 * i) k w 0 (λ e. omega arith)

-- w and v are the numbers as the code has them
pub one-decoded : (f p : List ℕ) (i w v : ℕ) → length p ≡ 512 → i < 256 → first_number (credential_rows f i) ≡ 0 → taken f i ≡ false → w ≡ word_in f i
    → v ≡ period_number (from_of f i) (to_of f i + 1) → to_of f i + 1 < 4294967296 → OneDecoded f i p (stored p i w v) 0
one-decoded f p i w v l h e t a b n = record {
  number = sym (check-none f i e t);
  stored = λ z. record { passed = e; statement = statement-stored p i w v l h ∙ a; period = period-stored p i w v l h ∙ b; narrow = n };
  kept = λ j m g. record {
    passed = g.passed;
    statement = other-kept p i w v (2 * j) (omega arith) ∙ g.statement;
    period = other-kept p i w v (2 * j + 1) (omega arith) ∙ g.period;
    narrow = g.narrow;
  };
}

-- a refusal stores nothing
pub one-refused : (f p : List ℕ) (i r : ℕ) → (r ≡ 0 → ⊥) → r ≡ first_number (check_rows f i) → OneDecoded f i p p r
one-refused f p i r h e = record { number = e; stored = λ z. absurd (h z); kept = λ j m g. g }

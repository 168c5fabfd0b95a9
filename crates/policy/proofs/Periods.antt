-- A period put at one position: its credential has it, and every other credential and all statements stay.
use mathlib.Core.Path.{◌≡◌, ap₂, ◌∙◌}
use mathlib.Core.List.{List}
use Prim.Native.Nat.{ℕ, ◌+◌, ◌*◌, ◌<◌}
use native.Mathlib.Omega.{arith}
use lib.ListN.{length, get_or, set}
use lib.Seq.{get_or-set_same, get_or-set_other}
use Rattle.meaning.specs.Credentials.{Credential, Period, ◌⟵◌, ◌during◌}
use Rattle.file.specs.declared.Period as D
use Rattle.policy.specs.Policy.{stated_head, stated_body, stated_period, PeriodPut}
use Rattle.policy.specs.Steps.{period_number}
use Rattle.policy.proofs.Words.{from_back, until-back}

-- a credential of two numbers
abbrev numbered : ℕ → ℕ → Credential
numbered w v = stated_head w ⟵ stated_body w during stated_period v

pub period-put : (p : List ℕ) (i x : ℕ) (v : D.Period) → length p ≡ 512 → i < 256 → x ≡ period_number v.from v.until → v.until < 4294967296
    → PeriodPut p (set p (2 * i + 1) x) i v
period-put p i x v l h e b = record {
  here = ap₂ numbered (word i) (get_or-set_same p (2 * i + 1) x 0 (omega arith) ∙ e)
      ∙ ap₂ (λ (from until : ℕ). stated_head (get_or p (2 * i) 0) ⟵ stated_body (get_or p (2 * i) 0) during record { from = from; until = until })
      (from_back v.from v.until b) (until-back v.from v.until b);
  others = λ j n. ap₂ numbered (word j) (get_or-set_other p (2 * i + 1) (2 * j + 1) x 0 (λ q. n (omega arith)));
  words = word;
}
  where
    word : (j : ℕ) → get_or (set p (2 * i + 1) x) (2 * j) 0 ≡ get_or p (2 * j) 0
    word j = get_or-set_other p (2 * i + 1) (2 * j) x 0 (λ q. absurd (omega arith))

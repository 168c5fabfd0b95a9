-- The first byte at fault, by kind and by tests in the order of the code.
use mathlib.Core.Path.{◌≡◌, refl}
use mathlib.Core.Bool.{Bool, true, false, ◌&&◌}
use mathlib.Core.List.{[]}
use Prim.Native.Nat.{ℕ, zero, suc, ◌≤◌, ◌<◌}
use native.Mathlib.Omega.{arith}
use borrow.Author.Tests.{leb-true, leb-false, lt-leb, le-ltb}
use lib.Dec.{leb, ltb}
use Rattle.meaning.specs.Lists.{if}
use Rattle.file.specs.Reading.{uses}
use Rattle.file.proofs.Uses.{by_kind}
use Rattle.sentences.specs.Words.{first_of}

-- a kind above 5 uses nothing
no-uses : (k : ℕ) → 5 < k → uses k ≡ record { entities = []; names = []; unused = [] }
no-uses (suc (suc (suc (suc (suc (suc k)))))) h = refl
no-uses (suc (suc (suc (suc (suc zero))))) h = absurd (omega arith)
no-uses (suc (suc (suc (suc zero)))) h = absurd (omega arith)
no-uses (suc (suc (suc zero))) h = absurd (omega arith)
no-uses (suc (suc zero)) h = absurd (omega arith)
no-uses (suc zero) h = absurd (omega arith)
no-uses zero h = absurd (omega arith)

-- what holds of a kind up to 5 and of one above holds of any
any-kind : (P : ℕ → Type 0) → ((k : ℕ) → k ≤ 5 → P k) → ((k : ℕ) → 5 < k → P k) → (k : ℕ) (b : Bool) → leb k 5 ≡ b → P k
any-kind P low high k true e = low k (leb-true k 5 e)
any-kind P low high k false e = high k (leb-false k 5 e)

module _ (p : ℕ → Bool) where
  abbrev entity_test : ℕ → ℕ
  entity_test k = if (leb k 5 && p 1) 1 (if (leb k 5 && p 3) 3 (if (leb k 5 && leb 3 k && p 5) 5 0))

  abbrev name_test : ℕ → ℕ
  name_test k = if (leb k 5 && p 2) 2 (if (leb k 5 && leb 1 k && p 4) 4 (if (leb k 5 && leb 2 k && p 6) 6 0))

  abbrev byte_test : ℕ → ℕ
  byte_test k = if (ltb k 1 && p 4) 4 (if (ltb k 3 && p 5) 5 (if (ltb k 2 && p 6) 6 (if (leb k 5 && p 7) 7 0)))

  pub entity-first : (k : ℕ) → first_of p (uses k).entities ≡ entity_test k
  entity-first k =
      any-kind (λ k. first_of p (uses k).entities ≡ entity_test k) (by_kind (λ k. first_of p (uses k).entities ≡ entity_test k) refl refl refl refl refl refl)
      (λ k h. rw (no-uses k h, lt-leb k 5 h)) k (leb k 5) refl

  pub name-first : (k : ℕ) → first_of p (uses k).names ≡ name_test k
  name-first k =
      any-kind (λ k. first_of p (uses k).names ≡ name_test k) (by_kind (λ k. first_of p (uses k).names ≡ name_test k) refl refl refl refl refl refl)
      (λ k h. rw (no-uses k h, lt-leb k 5 h)) k (leb k 5) refl

  pub unused-first : (k : ℕ) → first_of p (uses k).unused ≡ byte_test k
  unused-first k =
      any-kind (λ k. first_of p (uses k).unused ≡ byte_test k) (by_kind (λ k. first_of p (uses k).unused ≡ byte_test k) refl refl refl refl refl refl)
      (λ k h. rw (no-uses k h, le-ltb k 1 (omega arith), le-ltb k 3 (omega arith), le-ltb k 2 (omega arith), lt-leb k 5 h)) k (leb k 5) refl

-- The decimal of a number: one digit below ten, else the decimal of a tenth of it and the last digit; at most ten digits.
use mathlib.Core.Path.{◌≡◌, refl, sym, ap, ◌∙◌}
use mathlib.Core.Bool.{Bool, true, false}
use mathlib.Core.List.{List, [], ◌∷◌, ◌++◌}
use Prim.Native.Nat.{ℕ, zero, suc, ◌+◌, ◌*◌, ◌/◌, ◌%◌, ◌^◌, ◌≤◌, ◌<◌}
use native.Mathlib.Nat.{pow-suc}
use native.Mathlib.Omega.{arith}
use borrow.Author.Tests.{ltb-true, ltb-false}
use lib.Dec.{ltb}
use lib.ListN.{length, length-append}
use Rattle.text.specs.Lines.{digits, decimal}

-- the digits of q and then d, or d alone for 0: `digits (suc n) x` is `ended n (48 + x % 10) (x / 10)`
abbrev pub ended : ℕ → ℕ → ℕ → List ℕ
ended n d q = elim q [ zero ↦ d ∷ [] | suc q ↦ digits n (suc q) ++ d ∷ [] ]

ended-none : (n d q : ℕ) → q ≡ 0 → ended n d q ≡ d ∷ []
ended-none n d zero h = refl
ended-none n d (suc q) h = absurd (omega arith)

ended_some : (n d q : ℕ) → 0 < q → ended n d q ≡ digits n q ++ d ∷ []
ended_some n d zero h = absurd (omega arith)
ended_some n d (suc q) h = refl

ended-length : (n d q : ℕ) → length (digits n q) ≤ n → length (ended n d q) ≤ suc n
ended-length n d zero h = omega arith
ended-length n d (suc q) h = simp length-append (omega arith)

digits-length : (n x : ℕ) → length (digits n x) ≤ n
digits-length zero x = omega arith
digits-length (suc n) x = ended-length n (48 + x % 10) (x / 10) (digits-length n (x / 10))

ended-suc : (n d q : ℕ) → digits n q ≡ digits (suc n) q → ended n d q ≡ ended (suc n) d q
ended-suc n d zero h = refl
ended-suc n d (suc q) h = ap (λ (l : List ℕ). l ++ d ∷ []) h

-- a number below 10 ^ (n + 1) has the same digits at a larger count
digits-suc : (n x : ℕ) → x < 10 ^ suc n → digits (suc n) x ≡ digits (suc (suc n)) x
digits-suc zero x h =
    let e : x / 10 ≡ 0 = omega arith in
    ended-none 0 (48 + x % 10) (x / 10) e ∙ sym (ended-none 1 (48 + x % 10) (x / 10) e)
digits-suc (suc n) x h =
    let g : x < 10 ^ suc n * 10 = rw (pow-suc 10 (suc n)) at h in
    ended-suc (suc n) (48 + x % 10) (x / 10) (digits-suc n (x / 10) (omega arith))

pub decimal-length : (x : ℕ) → length (decimal x) ≤ 10
unfolding decimal
decimal-length x = digits-length 10 x

pub decimal_digit : (x : ℕ) → x < 10 → decimal x ≡ (48 + x % 10) ∷ []
unfolding decimal
decimal_digit x h = ended-none 9 (48 + x % 10) (x / 10) (omega arith)

pub decimal-more : (x : ℕ) → 10 ≤ x → x < 2 ^ 32 → decimal x ≡ decimal (x / 10) ++ (48 + x % 10) ∷ []
unfolding decimal
decimal-more x h k =
    ended_some 9 (48 + x % 10) (x / 10) (omega arith)
    ∙ ap (λ (l : List ℕ). l ++ (48 + x % 10) ∷ []) (digits-suc 8 (x / 10) (omega arith))

ended-some-digit : (n d q : ℕ) → 0 < length (ended n d q)
ended-some-digit n d zero = omega arith
ended-some-digit n d (suc q) = simp length-append (omega arith)

pub decimal-some : (x : ℕ) → 0 < length (decimal x)
unfolding decimal
decimal-some x = ended-some-digit 9 (48 + x % 10) (x / 10)

pub length-digit : (x : ℕ) → x < 10 → length (decimal x) ≡ 1
length-digit x h = ap length (decimal_digit x h)

pub length_more : (x : ℕ) → 10 ≤ x → x < 2 ^ 32 → length (decimal x) ≡ length (decimal (x / 10)) + 1
length_more x h k = simp length-append at (ap length (decimal-more x h k))

length-two-by : (x : ℕ) (b : Bool) → ltb x 10 ≡ b → x < 100 → length (decimal x) ≤ 2
length-two-by x true e h = omega (arith, length-digit x (ltb-true x 10 e))
length-two-by x false e h =
    let k : 10 ≤ x = ltb-false x 10 e in
    omega (arith, length_more x k (omega arith), length-digit (x / 10) (omega arith))

pub length_two : (x : ℕ) → x < 100 → length (decimal x) ≤ 2
length_two x h = length-two-by x (ltb x 10) refl h

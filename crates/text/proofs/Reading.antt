-- The digits of a number say that number.
use mathlib.Core.Path.{◌≡◌, refl, ap, ap₂, subst, ◌∙◌}
use mathlib.Core.Bool.{Bool, true, ◌&&◌}
use mathlib.Core.List.{List, [], ◌∷◌, ◌++◌}
use Prim.Native.Nat.{ℕ, zero, suc, ◌+◌, ◌*◌, ◌/◌, ◌%◌, ◌^◌, ◌<◌}
use native.Mathlib.Nat.{pow-suc}
use native.Mathlib.Omega.{arith}
use borrow.Author.Tests.{lt-ltb, le-leb}
use lib.Dec.{ltb}
use lib.ListN.{length, length-append}
use Rattle.text.specs.Lines.{digits, decimal}
use Rattle.text.specs.Numbers.{digit, all_digits, value_after, value, number_in}
use Rattle.std.specs.Prelude.{Some}
use Rattle.text.proofs.Decimal.{ended}
use Rattle.text.proofs.Numbers.{then, by, both}

record Says (s : List ℕ) (x : ℕ) : Type 0 where
  some : 0 < length s
  digits : all_digits s ≡ true
  value : value s ≡ x

is_digit : (d : ℕ) → d < 10 → digit (48 + d) ≡ true
is_digit d h = ap₂ ◌&&◌ (le-leb 48 (48 + d) (omega arith)) (le-leb (48 + d) 57 (omega arith))

value-end : (x : ℕ) (s : List ℕ) (b : ℕ) → value_after x (s ++ b ∷ []) ≡ then (value_after x s) b
value-end x [] b = refl
value-end x (a ∷ s) b = value-end (then x a) s b

digits-end : (s : List ℕ) (b : ℕ) → all_digits s ≡ true → digit b ≡ true → all_digits (s ++ b ∷ []) ≡ true
digits-end [] b e h = ap (λ (d : Bool). d && true) h
digits-end (a ∷ s) b e h =
    let p = both (digit a) (all_digits s) e in
    ap₂ ◌&&◌ p.0 (digits-end s b p.1 h)

says-digit : (d : ℕ) → d < 10 → Says ((48 + d) ∷ []) d
says-digit d h = record { some = omega arith; digits = ap (λ (b : Bool). b && true) (is_digit d h); value = omega arith }

says-more : (s : List ℕ) (x d : ℕ) → Says s x → d < 10 → Says (s ++ (48 + d) ∷ []) (10 * x + d)
says-more s x d p h = record {
  some = simp length-append (omega arith);
  digits = digits-end s (48 + d) p.digits (is_digit d h);
  value = value-end 0 s (48 + d) ∙ omega (arith, p.value);
}

ended-says : (n d q : ℕ) → d < 10 → (0 < q → Says (digits n q) q) → Says (ended n (48 + d) q) (10 * q + d)
ended-says n d zero h k = subst (Says ((48 + d) ∷ [])) (omega arith) (says-digit d h)
ended-says n d (suc q) h k = says-more (digits n (suc q)) (suc q) d (k (omega arith)) h

digits-say : (n x : ℕ) → x < 10 ^ suc n → Says (digits (suc n) x) x
digits-say zero x h =
    subst (Says (digits 1 x)) (omega arith) (ended-says 0 (x % 10) (x / 10) (omega arith) (λ k. absurd (omega arith)))
digits-say (suc n) x h =
    let g : x < 10 ^ suc n * 10 = rw (pow-suc 10 (suc n)) at h in
    subst (Says (digits (suc (suc n)) x)) (omega arith) (ended-says (suc n) (x % 10) (x / 10) (omega arith) (λ k. digits-say n (x / 10) (omega arith)))

pub decimal-digits : (x : ℕ) → x < 2 ^ 32 → all_digits (decimal x) ≡ true
unfolding decimal
decimal-digits x h = (digits-say 9 x (omega arith)).digits

pub decimal-read : (x : ℕ) → x < 2 ^ 32 → number_in (decimal x) ≡ Some x
unfolding decimal
decimal-read x h =
    let p = digits-say 9 x (omega arith) in
    ap₂ (λ (d : Bool) (y : ℕ). by d (ltb y (2 ^ 32)) (ltb 0 (length (digits 10 x))) y) p.digits p.value
    ∙ ap₂ (λ (a b : Bool). by true a b x) (lt-ltb _ _ h) (lt-ltb _ _ p.some)

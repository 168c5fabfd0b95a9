-- Reading digits from the left: what was passed says a number, and what is left says the rest.
use mathlib.Core.Path.{◌≡◌, refl, ap, ap₂, ◌∙◌}
use mathlib.Core.Bool.{Bool, true, false, cond, ◌&&◌}
use mathlib.Core.List.{List, [], ◌∷◌}
use Prim.Native.Nat.{ℕ, ◌+◌, ◌-◌, ◌*◌, ◌^◌, ◌≤◌, ◌<◌}
use native.Mathlib.Numerals.{add-one}
use native.Mathlib.Omega.{arith}
use borrow.Author.Tests.{lt-ltb, le-ltb, leb-true}
use lib.Dec.{leb, ltb}
use lib.ListN.{length, drop, get_or, drop_of_length-le}
use lib.Seq.{drop-cons}
use Rattle.text.specs.Numbers.{digit, all_digits, value_after, value, number_in}
use Rattle.std.specs.Prelude.{Option, Some, None}

-- after i bytes of s, all digits, that say x
pub record Passed (s : List ℕ) (x i : ℕ) : Type 0 where
  pub within : i ≤ length s
  pub small : x < 2 ^ 32
  pub digits : all_digits s ≡ all_digits (drop i s)
  pub says : value s ≡ value_after x (drop i s)

abbrev pub then : ℕ → ℕ → ℕ
then x b = 10 * x + (b - 48)

value_grows : (x : ℕ) (s : List ℕ) → x ≤ value_after x s
value_grows x [] = omega arith
value_grows x (b ∷ s) = omega (arith, value_grows (then x b) s)

-- by the three tests
abbrev pub by : Bool → Bool → Bool → ℕ → Option ℕ
by digits fits some x = cond (digits && fits && some) (Some x) None

not-small : (digits some : Bool) (x : ℕ) → by digits false some x ≡ None
not-small true some x = refl
not-small false some x = refl

pub empty-none : (s : List ℕ) → length s ≡ 0 → number_in s ≡ None
empty-none [] h = refl
empty-none (b ∷ s) h = absurd (omega arith)

pub starts : (s : List ℕ) → Passed s 0 0
starts s = record { within = omega arith; small = omega arith; digits = refl; says = refl }

module _ {s : List ℕ} {x i : ℕ} (p : Passed s x i) where
  pub ended : 0 < length s → length s ≤ i → number_in s ≡ Some x
  ended k h =
      let e : drop i s ≡ [] = drop_of_length-le s h in
      let v : value s ≡ x = p.says ∙ ap (value_after x) e in
      ap₂ (λ (d : Bool) (y : ℕ). by d (ltb y (2 ^ 32)) (ltb 0 (length s)) y) (p.digits ∙ ap all_digits e) v
      ∙ ap₂ (λ (a b : Bool). by true a b x) (lt-ltb _ _ p.small) (lt-ltb _ _ k)

  module _ (h : i < length s) where
    here : drop i s ≡ get_or s i 0 ∷ drop (i + 1) s
    here = rw (add-one, drop-cons s i 0)

    pub stopped : digit (get_or s i 0) ≡ false → number_in s ≡ None
    stopped e =
        ap (λ (d : Bool). by d (ltb (value s) (2 ^ 32)) (ltb 0 (length s)) (value s))
        (p.digits ∙ ap all_digits here ∙ ap (λ (d : Bool). d && all_digits (drop (i + 1) s)) e)

    pub too_large : 2 ^ 32 ≤ then x (get_or s i 0) → number_in s ≡ None
    too_large l =
        let v : value s ≡ value_after (then x (get_or s i 0)) (drop (i + 1) s) = p.says ∙ ap (value_after x) here in
        let k : 2 ^ 32 ≤ value s = omega (arith, v, value_grows (then x (get_or s i 0)) (drop (i + 1) s)) in
        ap (λ (b : Bool). by (all_digits s) b (ltb 0 (length s)) (value s)) (le-ltb _ _ k) ∙ not-small (all_digits s) (ltb 0 (length s)) (value s)

    pub goes_on : digit (get_or s i 0) ≡ true → then x (get_or s i 0) < 2 ^ 32 → Passed s (then x (get_or s i 0)) (i + 1)
    goes_on e l =
        record {
          within = omega arith;
          small = l;
          digits = p.digits ∙ ap all_digits here ∙ ap (λ (d : Bool). d && all_digits (drop (i + 1) s)) e;
          says = p.says ∙ ap (value_after x) here;
        }

pub both : (a b : Bool) → (a && b) ≡ true → (a ≡ true) × (b ≡ true)
both true b e = (refl, e)
both false b e = let z : ◌≡◌ {A = ℕ} 0 1 = cc in absurd (omega arith)

pub digit-bounds : (b : ℕ) → digit b ≡ true → (48 ≤ b) × (b ≤ 57)
digit-bounds b e =
    let p = both (leb 48 b) (leb b 57) e in
    (leb-true 48 b p.0, leb-true b 57 p.1)

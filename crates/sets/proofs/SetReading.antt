-- The text of a set is read back: its entities are taken one after the other, and those below n are the set modulo 2 ^ n.
use mathlib.Core.Path.{◌≡◌, refl, sym, ap, ap₂, subst, ◌∙◌}
use mathlib.Core.Bool.{Bool, true, false, cond, not, ◌&&◌}
use mathlib.Core.List.{List, [], ◌∷◌, ◌++◌, append-nil, append_assoc}
use Prim.Native.Nat.{ℕ, zero, suc, ◌+◌, ◌-◌, ◌*◌, ◌/◌, ◌%◌, ◌^◌, ◌≤◌, ◌<◌}
use native.Mathlib.Nat.{mod-one, mod-lt, mod-eq_of_lt, div-eq_of_lt}
use native.Mathlib.Omega.{arith}
use borrow.Author.Tests.{lt-ltb, ne_eqb, eqb-true, eqb-false}
use lib.Bits.{bit_or, or_shifted_r}
use lib.Dec.{eqb}
use lib.ListN.{length, get_or, length-append}
use lib.Pow.{mod-pow-add, pow_pos}
use lib.Seq.{take_at, get_or_at}
use Rattle.text.specs.Lines.{decimal}
use Rattle.text.specs.Numbers.{digit, all_digits, number_in}
use Rattle.sets.specs.Sets.{has, entities_below, listed, set_text, with_entity, and_then, with_list, set_in}
use Rattle.std.specs.Prelude.{Option, Some, None}
use Rattle.text.proofs.Numbers.{both, digit-bounds}
use Rattle.text.proofs.Reading.{decimal-read, decimal-digits}
use Rattle.sets.proofs.Scanning.{part, in-braces}

then_same : {g h : ℕ → Option ℕ} (q : Option ℕ) → ((Y : ℕ) → g Y ≡ h Y) → and_then q g ≡ and_then q h
then_same (Some Y) e = e Y
then_same None e = refl

then-number : (q : Option ℕ) → and_then q Some ≡ q
then-number (Some Y) = refl
then-number None = refl

then-then : (g h : ℕ → Option ℕ) (q : Option ℕ) → and_then q (λ Y. and_then (g Y) h) ≡ and_then (and_then q g) h
then-then g h (Some Y) = refl
then-then g h None = refl

-- X with the entities of a list, one after the other
abbrev gathered : ℕ → List ℕ → Option ℕ
gathered X [] = Some X
gathered X (e ∷ l) = and_then (with_entity X (Some e)) (λ Y. gathered Y l)

gathered-end : (X e : ℕ) (l : List ℕ) → gathered X (l ++ e ∷ []) ≡ and_then (gathered X l) (λ Y. with_entity Y (Some e))
gathered-end X e [] = then-number (with_entity X (Some e))
gathered-end X e (x ∷ l) =
    then_same (with_entity X (Some x)) (λ Y. gathered-end Y e l)
    ∙ then-then (λ Y. gathered Y l) (λ Y. with_entity Y (Some e)) (with_entity X (Some x))

-- digits are no comma
digits-pass : (X : ℕ) (p s rest : List ℕ) → all_digits s ≡ true → with_list X p (s ++ rest) ≡ with_list X (p ++ s) rest
digits-pass X p [] rest h = ap (λ (q : List ℕ). with_list X q rest) (sym (append-nil p))
digits-pass X p (b ∷ s) rest h =
    let d = both (digit b) (all_digits s) h in
    let l = digit-bounds b d.0 in
    let k : b ≡ 44 → ⊥ = λ e. omega (arith, l) in
    ap (λ (t : Bool). cond t (and_then (with_entity X (number_in p)) (λ Y. with_list Y [] (s ++ rest))) (with_list X (p ++ b ∷ []) (s ++ rest))) (ne_eqb b 44 k)
    ∙ digits-pass X (p ++ b ∷ []) s rest d.1
    ∙ ap (λ (q : List ℕ). with_list X q rest) (append_assoc p (b ∷ []) s)

abbrev AllBelow : ℕ → List ℕ → Type 0
AllBelow n [] = Unit {0}
AllBelow n (x ∷ l) = (x < n) × AllBelow n l

entity-read : (X e : ℕ) → e < 32 → with_entity X (number_in (decimal e)) ≡ with_entity X (Some e)
entity-read X e h = ap (with_entity X) (decimal-read e (omega arith))

list_read : (X e : ℕ) (l : List ℕ) → AllBelow 32 (e ∷ l) → with_list X [] (listed (e ∷ l)) ≡ gathered X (e ∷ l)
list_read X e [] h =
    ap (with_list X []) (sym (append-nil (decimal e)))
    ∙ digits-pass X [] (decimal e) [] (decimal-digits e (omega arith))
    ∙ entity-read X e h.0
    ∙ sym (then-number (with_entity X (Some e)))
list_read X e (f ∷ l) h =
    ap (with_list X []) (append_assoc (decimal e) (44 ∷ []) (listed (f ∷ l)))
    ∙ digits-pass X [] (decimal e) (44 ∷ listed (f ∷ l)) (decimal-digits e (omega arith))
    ∙ ap (λ (q : Option ℕ). and_then q (λ Y. with_list Y [] (listed (f ∷ l)))) (entity-read X e h.0)
    ∙ then_same (with_entity X (Some e)) (λ Y. list_read Y f l h.1)

below_end : (n e : ℕ) (l : List ℕ) → AllBelow n l → e < n → AllBelow n (l ++ e ∷ [])
below_end n e [] h k = (k, tt)
below_end n e (x ∷ l) h k = (h.0, below_end n e l h.1 k)

below-if : (n e : ℕ) (b : Bool) (l : List ℕ) → AllBelow n l → e < n → AllBelow n (l ++ cond b (e ∷ []) [])
below-if n e true l h k = below_end n e l h k
below-if n e false l h k = subst (AllBelow n) (sym (append-nil l)) h

entities-below : (n X : ℕ) → n ≤ 32 → AllBelow 32 (entities_below n X)
entities-below zero X h = tt
entities-below (suc n) X h = below-if 32 n (has X n) (entities_below n X) (entities-below n X (omega arith)) (omega arith)

module _ (X n : ℕ) (k : n < 32) where
  low : X % 2 ^ n < 2 ^ n
  low = mod-lt X (pow_pos n)

  -- entity n is not among those below it
  absent : has (X % 2 ^ n) n ≡ false
  absent = ap (λ (d : ℕ). eqb (d % 2) 1) (div-eq_of_lt low)

  taken : with_entity (X % 2 ^ n) (Some n) ≡ Some (1 * 2 ^ n + X % 2 ^ n)
  taken =
      let o : bit_or (X % 2 ^ n) (1 * 2 ^ n) ≡ 1 * 2 ^ n + X % 2 ^ n = or_shifted_r 1 n (X % 2 ^ n) low in
      let p : 1 * 2 ^ n ≡ 2 ^ n = omega arith in
      ap₂ (λ (a b : Bool). cond (a && not b) (Some (bit_or (X % 2 ^ n) (2 ^ n))) None) (lt-ltb n 32 k) absent
      ∙ ap (λ (q : ℕ). Some (bit_or (X % 2 ^ n) q)) (sym p)
      ∙ ap Some o

  zero_high : X % 2 ^ n ≡ 0 * 2 ^ n + X % 2 ^ n
  zero_high = omega arith

  step_by : (b : Bool) (d : ℕ) → eqb d 1 ≡ b → d < 2 → gathered 0 (entities_below n X) ≡ Some (X % 2 ^ n)
      → gathered 0 (entities_below n X ++ cond b (n ∷ []) []) ≡ Some (d * 2 ^ n + X % 2 ^ n)
  step_by true d e h p =
      let one : 1 ≡ d = sym (eqb-true d 1 e) in
      gathered-end 0 n (entities_below n X)
      ∙ ap (λ (q : Option ℕ). and_then q (λ Y. with_entity Y (Some n))) p
      ∙ taken
      ∙ ap (λ (c : ℕ). Some (c * 2 ^ n + X % 2 ^ n)) one
  step_by false d e h p =
      let other = eqb-false d 1 e in
      let none : 0 ≡ d = omega (arith, other) in
      ap (gathered 0) (append-nil (entities_below n X))
      ∙ p
      ∙ ap Some zero_high
      ∙ ap (λ (c : ℕ). Some (c * 2 ^ n + X % 2 ^ n)) none

below-read : (n X : ℕ) → n ≤ 32 → gathered 0 (entities_below n X) ≡ Some (X % 2 ^ n)
below-read zero X h = ap Some (sym (mod-one X))
below-read (suc n) X h =
    step_by X n (omega arith) (has X n) (X / 2 ^ n % 2) refl (omega arith) (below-read n X (omega arith))
    ∙ ap Some (sym (mod-pow-add X 1 n) ∙ ap (λ (k : ℕ). X % 2 ^ k) (omega arith))

-- a list that is not empty
some_read : (X : ℕ) (l : List ℕ) → 0 < X → AllBelow 32 l → gathered 0 l ≡ Some X → with_list 0 [] (listed l) ≡ Some X
some_read X [] k h e = let z : 0 ≡ X = cc in absurd (omega arith)
some_read X (x ∷ l) k h e = list_read 0 x l h ∙ e

-- what stands in braces
abbrev in_braces : List ℕ → List ℕ
in_braces m = 123 ∷ (m ++ 125 ∷ [])

between : (m : List ℕ) → part (in_braces m) 1 (length (in_braces m) - 1) ≡ m
between m = take_at m (125 ∷ []) (length (in_braces m) - 1 - 1) (omega (arith, length-append m (125 ∷ [])))

closed : (m : List ℕ) → get_or (in_braces m) (length (in_braces m) - 1) 0 ≡ 125
closed m =
    let n : length (in_braces m) - 1 ≡ suc (length m) = omega (arith, length-append m (125 ∷ [])) in
    ap (λ (k : ℕ). get_or (in_braces m) k 0) n ∙ get_or_at m 125 [] 0 (length m) refl

braces-read : (m : List ℕ) → set_in (in_braces m) ≡ with_list 0 [] m
braces-read m =
    in-braces (in_braces m) (omega (arith, length-append m (125 ∷ []))) refl (closed m) ∙ ap (with_list 0 []) (between m)

pub set-read : (X : ℕ) → 0 < X → X < 2 ^ 32 → set_in (set_text X) ≡ Some X
unfolding set_text
set-read X k h =
    braces-read (listed (entities_below 32 X))
    ∙ some_read X (entities_below 32 X) k (entities-below 32 X (omega arith)) (below-read 32 X (omega arith) ∙ ap Some (mod-eq_of_lt h))

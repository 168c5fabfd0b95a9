-- Reading a list of entities from the left: those up to the last comma are in the set, and what is left says the rest.
use mathlib.Core.Path.{◌≡◌, sym, ap, ap₂, ◌∙◌}
use mathlib.Core.Bool.{Bool, true, cond, ◌&&◌}
use mathlib.Core.List.{List, [], ◌∷◌, ◌++◌}
use Prim.Native.Nat.{ℕ, suc, ◌+◌, ◌-◌, ◌≤◌, ◌<◌}
use native.Mathlib.Numerals.{add-one}
use native.Mathlib.Omega.{arith}
use borrow.Author.Tests.{eq-eqb, ne_eqb, le-leb, lt-leb}
use lib.Dec.{eqb}
use lib.ListN.{length, take, drop, get_or, length-drop}
use lib.Seq.{take-suc, drop-cons, get_or-drop}
use Rattle.text.specs.Numbers.{number_in}
use Rattle.sets.specs.Sets.{with_entity, and_then, with_list, set_in}
use Rattle.std.specs.Prelude.{Option, Some, None}

-- the bytes from one place up to another
abbrev pub part : List ℕ → ℕ → ℕ → List ℕ
part s from i = take (i - from) (drop from s)

-- at byte i, after a comma before byte `from`, with the entities of X read
pub record Scanned (s : List ℕ) (X from i : ℕ) : Type 0 where
  pub order : from ≤ i
  pub within : i ≤ length s
  pub says : with_list 0 [] s ≡ with_list X (part s from i) (drop i s)

-- by whether the byte is a comma
abbrev after : Bool → ℕ → List ℕ → ℕ → List ℕ → Option ℕ
after comma X p b s = cond comma (and_then (with_entity X (number_in p)) (λ Y. with_list Y [] s)) (with_list X (p ++ b ∷ []) s)

module _ {s : List ℕ} {X from i : ℕ} (p : Scanned s X from i) where
  module _ (h : i < length s) where
    here : with_list 0 [] s ≡ after (eqb (get_or s i 0) 44) X (part s from i) (get_or s i 0) (drop (i + 1) s)
    here =
        let e : drop i s ≡ get_or s i 0 ∷ drop (i + 1) s = rw (add-one, drop-cons s i 0) in
        p.says ∙ ap (with_list X (part s from i)) e

    longer : part s from i ++ get_or s i 0 ∷ [] ≡ part s from (i + 1)
    longer =
        let n : i + 1 - from ≡ suc (i - from) = omega (arith, p.order) in
        let m : from + (i - from) ≡ i = omega (arith, p.order) in
        let k : i - from < length (drop from s) = simp length-drop (omega (arith, p.order)) in
        let g : get_or (drop from s) (i - from) 0 ≡ get_or s i 0 = get_or-drop from s (i - from) 0 ∙ ap (λ (j : ℕ). get_or s j 0) m in
        sym (ap (λ (j : ℕ). take j (drop from s)) n ∙ take-suc (drop from s) (i - from) 0 k ∙ ap (λ (b : ℕ). take (i - from) (drop from s) ++ b ∷ []) g)

    comma : get_or s i 0 ≡ 44 → with_list 0 [] s ≡ and_then (with_entity X (number_in (part s from i))) (λ Y. with_list Y [] (drop (i + 1) s))
    comma e = here ∙ ap (λ (b : Bool). after b X (part s from i) (get_or s i 0) (drop (i + 1) s)) (eq-eqb _ _ e)

    pub taken : {Y : ℕ} → get_or s i 0 ≡ 44 → with_entity X (number_in (part s from i)) ≡ Some Y → Scanned s Y (i + 1) (i + 1)
    taken {Y} e n =
        let z : i + 1 - (i + 1) ≡ 0 = omega arith in
        record {
          order = omega arith;
          within = omega arith;
          says =
              comma e
              ∙ ap (λ (q : Option ℕ). and_then q (λ Y. with_list Y [] (drop (i + 1) s))) n
              ∙ ap (λ (k : ℕ). with_list Y (take k (drop (i + 1) s)) (drop (i + 1) s)) (sym z);
        }

    pub passed : (get_or s i 0 ≡ 44 → ⊥) → Scanned s X from (i + 1)
    passed e =
        record {
          order = omega (arith, p.order);
          within = omega arith;
          says =
              here
              ∙ ap (λ (b : Bool). after b X (part s from i) (get_or s i 0) (drop (i + 1) s)) (ne_eqb _ _ e)
              ∙ ap (λ (q : List ℕ). with_list X q (drop (i + 1) s)) longer;
        }

-- by the three tests of braces
abbrev by : Bool → Bool → Bool → List ℕ → Option ℕ
by long first last s = cond (long && first && last) (with_list 0 [] (take (length s - 2) (drop 1 s))) None

module _ (s : List ℕ) where
  pub short : length s < 2 → set_in s ≡ None
  unfolding set_in
  short h = ap (λ (b : Bool). by b (eqb (get_or s 0 0) 123) (eqb (get_or s (length s - 1) 0) 125) s) (lt-leb _ _ h)

  module _ (h : 2 ≤ length s) where
    pub not_opened : (get_or s 0 0 ≡ 123 → ⊥) → set_in s ≡ None
    unfolding set_in
    not_opened e = ap₂ (λ (a b : Bool). by a b (eqb (get_or s (length s - 1) 0) 125) s) (le-leb _ _ h) (ne_eqb _ _ e)

    module _ (e : get_or s 0 0 ≡ 123) where
      pub not-closed : (get_or s (length s - 1) 0 ≡ 125 → ⊥) → set_in s ≡ None
      unfolding set_in
      not-closed c =
          ap₂ (λ (a b : Bool). by a b (eqb (get_or s (length s - 1) 0) 125) s) (le-leb _ _ h) (eq-eqb _ _ e)
          ∙ ap (λ (b : Bool). by true true b s) (ne_eqb _ _ c)

      pub in-braces : get_or s (length s - 1) 0 ≡ 125 → set_in s ≡ with_list 0 [] (part s 1 (length s - 1))
      unfolding set_in
      in-braces c =
          let n : length s - 2 ≡ length s - 1 - 1 = omega arith in
          ap₂ (λ (a b : Bool). by a b (eqb (get_or s (length s - 1) 0) 125) s) (le-leb _ _ h) (eq-eqb _ _ e)
          ∙ ap (λ (b : Bool). by true true b s) (eq-eqb _ _ c)
          ∙ ap (λ (k : ℕ). with_list 0 [] (take k (drop 1 s))) n

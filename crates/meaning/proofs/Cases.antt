-- The rows of the table of cases hold: the test of each computes, and one argument leads from the test to the claim.
use mathlib.Core.Path.{◌≡◌, refl, ap, ap₂}
use mathlib.Core.Bool.{Bool, true, false, ◌&&◌, ◌||◌, not}
use mathlib.Core.List.Memᴰ.{head}
use mathlib.Core.List.Memᴰ.{tail}
use mathlib.Core.List.{List, [], ◌∷◌, ◌++◌, Memᴰ as Mem}
use Prim.Native.Nat.{ℕ, zero, suc, ◌^◌, ◌<◌}
use native.Mathlib.Nat.{le_refl, le_of_suc-le-suc, not-suc-le-zero}
use lib.Dec.{T, eqb, ltb, eqb→eq, ltb→lt, lt→ltb, T_not}
use lib.ListN.{length}
use Rattle.meaning.specs.Lists.{only, all, below}
use Rattle.meaning.specs.Credentials.{Body, set, role, link, ◌∩◌, ◌⊙◌, ◌⊗◌, Statement, Period, Credential, valid_at, SetFits, FitsAll}
use Rattle.meaning.specs.Sequence.{S, Least}
use Rattle.meaning.specs.Members.{member, has, level, members}
use Rattle.meaning.specs.Proofs.{Step, Shown, cites_first, cites_second, shown_by, all_keep, Proof, step_at, body_at, RestsOn, itself, by_first, by_second}
use Rattle.meaning.specs.Table.{Row, ends, table, in_spans}
use Rattle.meaning.specs.Cases.{Claim, proof, passes, broken, rests, idle, none, empty, empty_in, size, size_in, times, whole, Holds, in_role, times_of, same_numbers, same_periods, same_rows, last_is, body_fits, fits, lower, rests_in, backward, test, cases}
use Rattle.meaning.proofs.Tests.{and_in, and_left, and_right, or_left, or_right, or_cases, eq-in, all-out, any_out}
use Rattle.meaning.proofs.OrderLaws.{has_in}
use Rattle.meaning.proofs.Levels.{level_in}
use Rattle.meaning.proofs.Derivations.{S-up}
use Rattle.meaning.proofs.Steps.{proof-sound}
use Rattle.meaning.proofs.Least.{proof-bound}
use Rattle.meaning.specs.Rules.{Derivable}
use Rattle.meaning.proofs.ListLaws.{each_in, only-in, below_in}
use Rattle.meaning.proofs.Rows.{members-derivable, written-derivable}
use mathlib.Core.Logic.{◌⊎◌, inl, inr}
use native.Mathlib.Omega.{arith}

ruleset tests = (and_left, and_right, eqb→eq, ltb→lt)

-- ---- equal lists

numbers-same : (xs ys : List ℕ) → T (same_numbers xs ys) → xs ≡ ys
numbers-same [] [] t = refl
numbers-same [] (y ∷ ys) t = absurd t
numbers-same (x ∷ xs) [] t = absurd t
numbers-same (x ∷ xs) (y ∷ ys) t =
    let e : x ≡ y = search tests in
    ap₂ {C = List ℕ} (λ a l. a ∷ l) e (numbers-same xs ys (search tests))

periods-same : (vs ws : List Period) → T (same_periods vs ws) → vs ≡ ws
periods-same [] [] t = refl
periods-same [] (w ∷ ws) t = absurd t
periods-same (v ∷ vs) [] t = absurd t
periods-same (v ∷ vs) (w ∷ ws) t =
    let a : v.from ≡ w.from = search tests in
    let b : v.until ≡ w.until = search tests in
    let r = periods-same vs ws (search tests) in
    λ i. record { from = a i; until = b i } ∷ r i

rows_same : (xs ys : List Row) → T (same_rows xs ys) → xs ≡ ys
rows_same [] [] t = refl
rows_same [] (y ∷ ys) t = absurd t
rows_same (x ∷ xs) [] t = absurd t
rows_same (x ∷ xs) (y ∷ ys) t =
    let a : x.role ≡ y.role = search tests in
    let b : x.set ≡ y.set = search tests in
    let c : x.spans ≡ y.spans = search tests in
    let r = rows_same xs ys (search tests) in
    λ i. record { role = a i; set = b i; spans = c i } ∷ r i

-- ---- the last step, the least level, and the format's numbers

last-is : (l : List Shown) (Ar X k : ℕ) → T (last_is l Ar X k) → (before : List Shown) × (l ≡ before ++ record { role = Ar; set = X; level = k } ∷ [])
last-is [] Ar X k t = absurd t
last-is (x ∷ []) Ar X k t =
    let a : x.role ≡ Ar = search tests in
    let b : x.set ≡ X = search tests in
    let c : x.level ≡ k = search tests in
    ([], λ i. record { role = a i; set = b i; level = c i } ∷ [])
last-is (x ∷ y ∷ l) Ar X k t = let r = last-is (y ∷ l) Ar X k t in (x ∷ r.0, ap {B = List Shown} (λ u. x ∷ u) r.1)

least : (ss : List Statement) (k Ar X : ℕ) → S ss k Ar X → T (not (has (member Ar X) (level ss (lower k)))) → Least ss k Ar X
least ss zero Ar X s t = absurd s
least ss (suc k) Ar X s t =
    (s, λ j l d. T_not (has (member Ar X) (level ss k)) t (has_in (member Ar X) (level_in ss k (S-up ss (le_of_suc-le-suc l) Ar X d))))

body-fits : (e : Body) → T (body_fits e) → SetFits e
body-fits (set X) t = ltb→lt X (2 ^ 32) t
body-fits (role Bs) t = tt
body-fits (link Bs u) t = tt
body-fits (Bs ∩ Ct) t = tt
body-fits (Bs ⊙ Ct) t = tt
body-fits (Bs ⊗ Ct) t = tt

fits_all : (cs : List Credential) → T (fits cs) → FitsAll cs
fits_all cs t c i =
    let u : T (ltb c.statement.head 1024 && body_fits c.statement.body) = all-out (λ c. ltb c.statement.head 1024 && body_fits c.statement.body) cs t i in
    (search tests, body-fits c.statement.body (search tests))

-- ---- no rows, no derivation

no-members : {A : Type 0} {x : A} {l : List A} → Mem x l → length l ≡ 0 → ⊥
no-members (head e) h = omega arith
no-members (tail i) h = omega arith

module _ (cs : List Credential) (w : FitsAll cs) where
  -- a derivable membership has a row
  row_of : (m Ar X : ℕ) → Derivable cs m Ar X → (x : Row) × Mem x (table cs) × T (eqb x.role Ar)
  row_of m Ar X d =
      let t = (written-derivable cs w m Ar X).1 d in
      let r = any_out (λ x. eqb x.role Ar && eqb x.set X && in_spans (ends cs) x.spans m) (table cs) t in
      let x = r.0 in
      let a = eqb x.role Ar in
      let b = eqb x.set X in
      (x, r.1, and_left a b (and_left (a && b) (in_spans (ends cs) x.spans m) r.2))

  none_at_all : length (table cs) ≡ 0 → (m Ar X : ℕ) → ¬ Derivable cs m Ar X
  none_at_all e m Ar X d = no-members (row_of m Ar X d).1 e

  none-in-role : (Ar : ℕ) → length (in_role Ar (table cs)) ≡ 0 → (m X : ℕ) → ¬ Derivable cs m Ar X
  none-in-role Ar e m X d =
      let r = row_of m Ar X d in
      no-members (each_in (λ (x : Row). only (eqb x.role Ar) (x ∷ [])) r.1 (only-in (eqb r.0.role Ar) r.2 (head refl))) e

-- ---- what a step rests on

module _ (cs : List Credential) (ss : List Step) where
  abbrev by_one : ℕ → ℕ → ℕ → Bool
  by_one n i j = cites_first (body_at cs ss i) && rests_in cs ss n (step_at ss i).first j

  abbrev by_two : ℕ → ℕ → ℕ → Bool
  by_two n i j = cites_second (body_at cs ss i) && rests_in cs ss n (step_at ss i).second j

  rests-out : (n i j : ℕ) → T (rests_in cs ss n i j) → RestsOn cs ss i j
  rests-out zero i j t = absurd t
  rests-out (suc n) i j t =
      go (or_cases (eqb i j || by_one n i j) (by_two n i j) (and_right (ltb i (length ss)) _ t)) (rests-out n (step_at ss i).first j) (rests-out n (step_at ss i).second j)
    where
      l : i < length ss
      l = ltb→lt i (length ss) (and_left (ltb i (length ss)) _ t)

      first : T (eqb i j) ⊎ T (by_one n i j) → (T (rests_in cs ss n (step_at ss i).first j) → RestsOn cs ss (step_at ss i).first j) → RestsOn cs ss i j
      first (inl u) rec = itself l (eqb→eq i j u)
      first (inr u) rec = by_first l (and_left (cites_first (body_at cs ss i)) _ u) (rec (and_right (cites_first (body_at cs ss i)) _ u))

      go : T (eqb i j || by_one n i j) ⊎ T (by_two n i j) → (T (rests_in cs ss n (step_at ss i).first j) → RestsOn cs ss (step_at ss i).first j)
          → (T (rests_in cs ss n (step_at ss i).second j) → RestsOn cs ss (step_at ss i).second j) → RestsOn cs ss i j
      go (inl u) f g = first (or_cases (eqb i j) (by_one n i j) u) f
      go (inr u) f g = by_second l (and_left (cites_second (body_at cs ss i)) _ u) (g (and_right (cites_second (body_at cs ss i)) _ u))

  module _ (b : T (backward cs ss)) where
    abbrev first_back : ℕ → Bool
    first_back i = not (cites_first (body_at cs ss i)) || ltb (step_at ss i).first i

    abbrev second_back : ℕ → Bool
    second_back i = not (cites_second (body_at cs ss i)) || ltb (step_at ss i).second i

    -- a cited step is an earlier one
    earlier : (x y : Bool) → T (not x || y) → T x → T y
    earlier true y t u = t
    earlier false y t u = absurd u

    first-earlier : (i : ℕ) → i < length ss → T (cites_first (body_at cs ss i)) → (step_at ss i).first < i
    first-earlier i l u = ltb→lt _ i (earlier (cites_first (body_at cs ss i)) _ (and_left (first_back i) (second_back i) (all-out (λ i. first_back i && second_back i) (below (length ss)) b (below_in (length ss) i l))) u)

    second-earlier : (i : ℕ) → i < length ss → T (cites_second (body_at cs ss i)) → (step_at ss i).second < i
    second-earlier i l u = ltb→lt _ i (earlier (cites_second (body_at cs ss i)) _ (and_right (first_back i) (second_back i) (all-out (λ i. first_back i && second_back i) (below (length ss)) b (below_in (length ss) i l))) u)

    rests-in : {i j : ℕ} → RestsOn cs ss i j → (n : ℕ) → i < n → T (rests_in cs ss n i j)
    rests-in r zero h = absurd (not-suc-le-zero h)
    rests-in (itself {i = i} {j = j} l e) (suc n) h =
        and_in (ltb i (length ss)) _ (lt→ltb _ _ l) (or_left (eqb i j || by_one n i j) (by_two n i j) (or_left (eqb i j) (by_one n i j) (eq-in i j e)))
    rests-in (by_first {i = i} {j = j} l u r) (suc n) h =
        let k = first-earlier i l u in
        let t = rests-in {i = (step_at ss i).first} r n (omega arith) in
        and_in (ltb i (length ss)) _ (lt→ltb _ _ l)
        (or_left (eqb i j || by_one n i j) (by_two n i j) (or_right (eqb i j) (by_one n i j) (and_in (cites_first (body_at cs ss i)) _ u t)))
    rests-in (by_second {i = i} {j = j} l u r) (suc n) h =
        let k = second-earlier i l u in
        let t = rests-in {i = (step_at ss i).second} r n (omega arith) in
        and_in (ltb i (length ss)) _ (lt→ltb _ _ l) (or_right (eqb i j || by_one n i j) (by_two n i j) (and_in (cites_second (body_at cs ss i)) _ u t))

-- ---- from the test to the claim

claim : (c : Claim) → T (test c) → Holds c
unfolding test
claim (proof cs m Ar X k ss) t =
    let p : Proof cs m Ar X k ss = record { keeping = search tests; last = last-is (shown_by cs [] ss) Ar X k (search tests) } in
    (p, λ j us q. proof-bound cs m (least (valid_at cs m) k Ar X (proof-sound cs m p) (search tests)) q)
claim (passes cs m Ar X k ss) t = record { keeping = search tests; last = last-is (shown_by cs [] ss) Ar X k (search tests) }
claim (broken cs m ss) t = T_not (all_keep cs m [] ss) t
claim (rests cs ss i j) t = rests-out cs ss (suc i) i j t
claim (idle cs ss i j) t = λ r. T_not (rests_in cs ss (suc i) i j) (search tests) (rests-in cs ss (search tests) r (suc i) (le_refl (suc i)))
claim (none cs m Ar X) t =
    λ d. T_not (has (member Ar X) (members cs m)) (search tests)
    (has_in (member Ar X) ((members-derivable cs (fits_all cs (search tests)) m).1 d))
claim (empty cs) t = none_at_all cs (fits_all cs (search tests)) (search tests)
claim (empty_in cs Ar) t = none-in-role cs (fits_all cs (search tests)) Ar (search tests)
claim (size cs n) t = (fits_all cs (search tests), search tests)
claim (size_in cs Ar n) t = (fits_all cs (search tests), search tests)
claim (times cs Ar X vs) t = (fits_all cs (search tests), periods-same (times_of cs Ar X) vs (search tests))
claim (whole cs es rows) t = (fits_all cs (search tests), numbers-same (ends cs) es (search tests), rows_same (table cs) rows (search tests))

-- every row of a table that passes its tests holds
pub rows-hold : (l : List Claim) → T (all test l) → (c : Claim) → Mem c l → Holds c
rows-hold l t c i = claim c (all-out test l t i)

-- the tests of `cases` compute
pub passed : T (all test cases)
unfolding cases test
passed = tt

-- Intervals as the numbers that are written, pair by pair.
use mathlib.Core.Path.{◌≡◌, refl, sym, ap, ◌∙◌}
use mathlib.Core.List.{List, [], ◌∷◌, ◌++◌, map, append_assoc}
use Prim.Native.Nat.{ℕ, zero, suc, ◌+◌, ◌-◌, ◌*◌, ◌≤◌, ◌<◌}
use native.Mathlib.Numerals.{add-one}
use native.Mathlib.Omega.{arith}
use lib.ListN.{length, take, get_or, set, replicate, length-set}
use lib.Seq.{take-suc, take-suc-set, take_all}
use Rattle.meaning.specs.Credentials.{Period}
use Rattle.ends.specs.declared.Interval.{Interval}
use Rattle.survey.specs.Ends.{padded}
use Rattle.survey.proofs.Holds.{padded-length}
use Rattle.ends.specs.Intervals.{pair, no_pair, pairs}
use Rattle.intervals_bytes.specs.Interface.{bounds}
use Rattle.intervals_bytes.specs.Bounds.{bounds_in}

-- ---- the loop

bounds-append : (vs ws : List Interval) → bounds_in (vs ++ ws) ≡ bounds_in vs ++ bounds_in ws
bounds-append [] ws = refl
bounds-append (v ∷ vs) ws = ap (λ (l : List ℕ). v.from ∷ v.to ∷ l) (bounds-append vs ws)

-- the first i of 32 intervals stand in the places
pub record Placed (vs : List Interval) (i : ℕ) (l : List ℕ) : Type 0 where
  pub within : i ≤ 32
  pub long : length l ≡ 64
  pub same : take (2 * i) l ≡ bounds_in (take i vs)

module _ (vs : List Interval) (all : length vs ≡ 32) where
  pub one_more : (i : ℕ) {l : List ℕ} → Placed vs i l → i < 32 → Placed vs (i + 1) (set (set l (2 * i) (get_or vs i no_pair).from) (2 * i + 1) (get_or vs i no_pair).to)
  one_more i {l} p h =
      let v = get_or vs i no_pair in
      let m = set l (2 * i) v.from in
      let k = p.long in
      let s : length m ≡ 64 = length-set l (2 * i) v.from ∙ k in
      let n : 2 * (i + 1) ≡ suc (2 * i + 1) = omega arith in
      let t : take (2 * (i + 1)) (set m (2 * i + 1) v.to) ≡ bounds_in (take (i + 1) vs) =
      ap (λ (j : ℕ). take j (set m (2 * i + 1) v.to)) n ∙ take-suc-set m (2 * i + 1) v.to (omega arith)
      ∙ ap (λ (j : ℕ). take j m ++ (v.to ∷ [])) (add-one (2 * i)) ∙ ap (λ (x : List ℕ). x ++ (v.to ∷ [])) (take-suc-set l (2 * i) v.from (omega arith))
      ∙ append_assoc (take (2 * i) l) (v.from ∷ []) (v.to ∷ []) ∙ ap (λ (x : List ℕ). x ++ (v.from ∷ v.to ∷ [])) p.same
      ∙ sym (bounds-append (take i vs) (v ∷ []))
      ∙ ap bounds_in (sym (take-suc vs i no_pair (omega arith)) ∙ ap (λ (j : ℕ). take j vs) (sym (add-one i))) in
      record { within = omega arith; long = length-set m (2 * i + 1) v.to ∙ s; same = t }

  pub all_placed : (i : ℕ) {l : List ℕ} → Placed vs i l → 32 ≤ i → l ≡ bounds_in vs
  all_placed i {l} p h =
      let k = p.long in
      sym (take_all (2 * i) l (omega arith)) ∙ p.same ∙ ap bounds_in (take_all i vs (omega arith))

-- ---- the places

pub length-bounds : (vs : List Period) → length (bounds vs) ≡ 2 * length vs
length-bounds [] = refl
length-bounds (v ∷ vs) = let e = length-bounds vs in omega arith

zero-pairs : (k : ℕ) → bounds_in (replicate k no_pair) ≡ replicate (2 * k) 0
zero-pairs zero = refl
zero-pairs (suc k) =
    let e : 2 * suc k ≡ suc (suc (2 * k)) = omega arith in
    ap (λ (l : List ℕ). 0 ∷ 0 ∷ l) (zero-pairs k) ∙ ap (λ (n : ℕ). replicate n 0) (sym e)

pairs-bounds : (vs : List Period) (ws : List Interval) → bounds_in (map pair vs ++ ws) ≡ bounds vs ++ bounds_in ws
pairs-bounds [] ws = refl
pairs-bounds (v ∷ vs) ws = ap (λ (l : List ℕ). v.from ∷ v.until ∷ l) (pairs-bounds vs ws)

-- 32 pairs are 64 places
pub padded-bounds : (vs : List Period) → length vs ≤ 32 → bounds_in (pairs vs) ≡ padded 64 (bounds vs)
padded-bounds vs h =
    let n : 2 * (32 - length vs) ≡ 64 - length (bounds vs) = omega (arith, length-bounds vs) in
    pairs-bounds vs (replicate (32 - length vs) no_pair) ∙ ap (λ (l : List ℕ). bounds vs ++ l) (zero-pairs (32 - length vs) ∙ ap (λ (k : ℕ). replicate k 0) n)

pub length-places : (vs : List Period) → length vs ≤ 32 → length (padded 64 (bounds vs)) ≡ 64
length-places vs h = padded-length (bounds vs) (omega (arith, length-bounds vs))

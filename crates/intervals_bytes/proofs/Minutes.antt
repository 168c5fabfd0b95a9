-- The bounds of intervals fit 4 bytes, and the pairs that are read back hold the minutes of the intervals.
use mathlib.Core.Path.{◌≡◌, refl, ap}
use mathlib.Core.Bool.{Bool, true, false, ◌&&◌, ◌||◌}
use mathlib.Core.List.Memᴰ.{head}
use mathlib.Core.List.Memᴰ.{tail}
use mathlib.Core.List.{List, [], ◌∷◌, ◌++◌, Memᴰ as Mem}
use Prim.Native.Nat.{ℕ, zero, suc, ◌-◌, ◌^◌, ◌<◌}
use native.Mathlib.Omega.{arith}
use borrow.Author.Tests.{le-ltb}
use lib.Dec.{leb}
use lib.ListN.{get_or, replicate}
use Rattle.meaning.specs.Lists.{any}
use Rattle.meaning.specs.Credentials.{Period, covers}
use Rattle.meaning.specs.Table.{ends, intervals, Apart}
use Rattle.meaning.proofs.Tests.{any-in}
use Rattle.meaning.proofs.ListLaws.{place-in}
use Rattle.meaning.proofs.Spans.{covers-in, span-out, in-spans}
use Rattle.meaning.proofs.Claims.{interval-minutes, intervals-apart}
use Rattle.withdrawals.specs.Source.{Source, credentials}
use Rattle.withdrawals.specs.Conditions.{Accepted}
use Rattle.replies.specs.Interface.{Bytes}
use Rattle.replies.proofs.Widths.{end_low}
use Rattle.intervals_bytes.specs.Interface.{bounds, pairs_in}

-- ---- widths

not-empty : {v : Period} (vs : List Period) → Apart vs → Mem v vs → v.from < v.until
not-empty {v = v} [] a x'' = elim x'' [ ]
not-empty {v} (w ∷ vs) a (head e) = let l = a.0 in omega (arith, ap (λ (x : Period). x.from) e, ap (λ (x : Period). x.until) e)
not-empty (w ∷ vs) a (tail m) = not-empty vs a.2 m

bounds-below : (limit : ℕ) (vs : List Period) → ((v : Period) → Mem v vs → (v.from < limit) × (v.until < limit)) → (x : ℕ) → Mem x (bounds vs) → x < limit
bounds-below limit [] h x x4 = elim x4 [ ]
bounds-below limit (v ∷ vs) h x (head e) = let k = h v (head refl) in omega arith
bounds-below limit (v ∷ vs) h x (tail (head e)) = let k = h v (head refl) in omega arith
bounds-below limit (v ∷ vs) h x (tail (tail m)) = bounds-below limit vs (λ w j. h w (tail j)) x m

module _ (f : Source) (small : Bytes f.file) (accepted : Accepted f) (spans : ℕ) where
  abbrev es : List ℕ
  es = ends (credentials f)

  -- an interval's last minute is before an end
  interval-low : (v : Period) → Mem v (intervals es spans) → (v.from < 256 ^ 4) × (v.until < 256 ^ 4)
  interval-low v m =
      let l = not-empty (intervals es spans) (intervals-apart (credentials f) spans) m in
      let last = v.until - 1 in
      let t = any-in (λ (w : Period). covers w last) m (covers-in v last (omega arith) (omega arith)) in
      let (i, b, u) = (in-spans es spans last).0 ((interval-minutes (credentials f) spans last).0 t) in
      let (k, g, h) = span-out es i last u in
      let e = end_low f small accepted (get_or es (suc i) 0) (place-in 0 es (suc i) (omega arith)) in
      (omega arith, omega arith)

  pub bounds-low : (x : ℕ) → Mem x (bounds (intervals es spans)) → x < 256 ^ 4
  bounds-low = bounds-below (256 ^ 4) (intervals es spans) interval-low

-- ---- minutes

module _ (m : ℕ) where
  abbrev Any : List Period → Bool
  Any vs = any (λ v. covers v m) vs

  -- a pair of zeros has no minute
  none-covered : (k : ℕ) → Any (pairs_in (replicate k 0)) ≡ false
  none-covered zero = refl
  none-covered (suc zero) = refl
  none-covered (suc (suc k)) = rw (le-ltb m 0 (omega arith), none-covered k) (never (leb 0 m))
    where
      never : (b : Bool) → (b && false) || false ≡ false
      never true = refl
      never false = refl

  pub pairs-minutes : (vs : List Period) (k : ℕ) → Any (pairs_in (bounds vs ++ replicate k 0)) ≡ Any vs
  pairs-minutes [] k = none-covered k
  pairs-minutes (v ∷ vs) k = ap (λ (b : Bool). covers v m || b) (pairs-minutes vs k)

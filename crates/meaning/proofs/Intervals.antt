-- Intervals: they cover exactly the minutes of the spans whose bit is set, they ascend and do not touch, and they are few.
use mathlib.Core.Path.{◌≡◌, refl, sym, ap, ◌∙◌, subst, subst⁻¹}
use mathlib.Core.Logic.{◌⊎◌, inl, inr, ◌↔◌}
use mathlib.Core.Bool.{Bool, true, false, ◌||◌, not}
use mathlib.Core.List.Memᴰ.{head}
use mathlib.Core.List.Memᴰ.{tail}
use mathlib.Core.List.{List, [], ◌∷◌, Memᴰ as Mem}
use Prim.Native.Nat.{ℕ, zero, suc, ◌+◌, ◌*◌, ◌<◌, ◌≤◌}
use native.Mathlib.Nat.{le_refl, le_of_suc-le-suc, lt_of_not-le, not-suc-le-zero, eq-or-lt_of_le}
use native.Mathlib.Omega.{arith}
use lib.Dec.{T, eqb, eqb→eq, ltb, ltb→lt, nltb→le}
use lib.ListN.{length, get_or}
use Rattle.meaning.specs.Lists.{if, any}
use Rattle.meaning.specs.Credentials.{Period, covers}
use Rattle.meaning.specs.Table.{bit, span_count, in_spans, extended, intervals_to, intervals, Apart}
use Rattle.meaning.specs.Cases.{◌up_to◌}
use Rattle.meaning.proofs.Tests.{eq-in, or_left, or_right, or_cases, same_test}
use Rattle.meaning.proofs.Spans.{Rising, rising, covers-in, covers_out, span-in, span-out, in-spans}

-- all begin after a
abbrev After : ℕ → List Period → Type 0
After a vs = (v : Period) → Mem v vs → a < v.from

-- all end at e or before
abbrev Until : ℕ → List Period → Type 0
Until e vs = (v : Period) → Mem v vs → v.until ≤ e

-- the last ends at f
abbrev Ends : List Period → ℕ → Type 0
Ends [] f = ⊥
Ends (v ∷ []) f = v.until ≡ f
Ends (v ∷ w ∷ vs) f = Ends (w ∷ vs) f

or-none : (a : Bool) → a || false ≡ a
or-none true = refl
or-none false = refl

or-regroup : (a b c : Bool) → a || (b || c) ≡ (a || b) || c
or-regroup true b c = refl
or-regroup false b c = refl

-- by whether two numbers are equal
by_equal : (P : Bool → Type 0) (a b : ℕ) → (a ≡ b → P true) → ((a ≡ b → ⊥) → P false) → P (eqb a b)
by_equal P a b f g = go (eqb a b) refl
  where
    go : (t : Bool) → eqb a b ≡ t → P t
    go true e = f (eqb→eq a b (subst⁻¹ T e tt))
    go false e = g (λ p. subst T e (eq-in a b p))

-- ---- one more span

-- how `extended` makes the second list from the first
data Extends (e f : ℕ) : List Period → List Period → Type 0 where
  alone : Extends e f [] (e up_to f ∷ [])
  joined : (v : Period) → v.until ≡ e → Extends e f (v ∷ []) (v.from up_to f ∷ [])
  apart : (v : Period) → (v.until ≡ e → ⊥) → Extends e f (v ∷ []) (v ∷ e up_to f ∷ [])
  later : (v w : Period) {vs ws : List Period} → Extends e f (w ∷ vs) ws → Extends e f (v ∷ w ∷ vs) (v ∷ ws)

extends : (e f : ℕ) (vs : List Period) → Extends e f vs (extended vs e f)
extends e f [] = alone
extends e f (v ∷ []) = by_equal (λ b. Extends e f (v ∷ []) (if b (v.from up_to f ∷ []) (v ∷ e up_to f ∷ []))) v.until e (joined v) (apart v)
extends e f (v ∷ w ∷ vs) = later v w (extends e f (w ∷ vs))

from-of : {u v : Period} → u ≡ v → u.from ≡ v.from
from-of p = ap (λ (v : Period). v.from) p

until-of : {u v : Period} → u ≡ v → u.until ≡ v.until
until-of p = ap (λ (v : Period). v.until) p

ends_more : (v : Period) (vs : List Period) (f : ℕ) → Ends vs f → Ends (v ∷ vs) f
ends_more v [] f h = absurd h
ends_more v (w ∷ vs) f h = h

module _ (e f : ℕ) (l : e < f) where
  extends-after : (a : ℕ) {vs ws : List Period} → Extends e f vs ws → a < e → After a vs → After a ws
  extends-after a alone h k u (head p) = omega (arith, from-of p)
  extends-after a alone h k u (tail i) = elim i [ ]
  extends-after a (joined v q) h k u (tail i) = elim i [ ]
  extends-after a (apart v n) h k u (tail (tail x16)) = elim x16 [ ]
  extends-after a (joined v q) h k u (head p) = omega (arith, from-of p, k v (head refl))
  extends-after a (apart v n) h k u (head p) = omega (arith, from-of p, k v (head refl))
  extends-after a (apart v n) h k u (tail (head p)) = omega (arith, from-of p)
  extends-after a (later v w r) h k u (head p) = omega (arith, from-of p, k v (head refl))
  extends-after a (later v w r) h k u (tail i) = extends-after a r h (λ x j. k x (tail j)) u i

  extends-until : {vs ws : List Period} → Extends e f vs ws → Until e vs → Until f ws
  extends-until alone k u (head p) = omega (arith, until-of p)
  extends-until alone k u (tail i) = elim i [ ]
  extends-until (joined v q) k u (tail i) = elim i [ ]
  extends-until (apart v n) k u (tail (tail x15)) = elim x15 [ ]
  extends-until (joined v q) k u (head p) = omega (arith, until-of p)
  extends-until (apart v n) k u (head p) = omega (arith, until-of p, k v (head refl))
  extends-until (apart v n) k u (tail (head p)) = omega (arith, until-of p)
  extends-until (later v w r) k u (head p) = omega (arith, until-of p, k v (head refl))
  extends-until (later v w r) k u (tail i) = extends-until r (λ x j. k x (tail j)) u i

  extends-apart : {vs ws : List Period} → Extends e f vs ws → Apart vs → Until e vs → Apart ws
  extends-apart alone a k = (l, (λ w m. elim m [ ]), tt)
  extends-apart (joined v q) a k = (omega arith, (λ w m. elim m [ ]), tt)
  extends-apart (apart v n) a k = (a.0, before, (l, (λ w m. elim m [ ]), tt))
    where
      before : (w : Period) → Mem w (e up_to f ∷ []) → v.until < w.from
      before w (head p) = lt_of_not-le (λ i. let h = k v (head refl) in n (omega (arith, from-of p)))
      before w (tail x7) = elim x7 [ ]
  extends-apart (later v w r) a k =
      let b = a.1 w (head refl) in
      let c = a.2.0 in
      let h = k w (tail (head refl)) in
      (a.0, extends-after v.until r (omega arith) a.1, extends-apart r a.2 (λ x j. k x (tail j)))

  extends-covers : (m : ℕ) {vs ws : List Period} → Extends e f vs ws → Apart vs → any (λ v. covers v m) ws ≡ any (λ v. covers v m) vs || covers (e up_to f) m
  extends-covers m alone a = or-none (covers (e up_to f) m)
  extends-covers m (joined v q) a = or-none (covers (v.from up_to f) m) ∙ whole ∙ ap (λ (b : Bool). b || covers (e up_to f) m) (sym (or-none (covers v m)))
    where
      split : T (covers (v.from up_to f) m) → T (covers v m || covers (e up_to f) m)
      split t = go (ltb m e) refl (covers_out (v.from up_to f) m t)
        where
          go : (b : Bool) → ltb m e ≡ b → (v.from ≤ m) × (m < f) → T (covers v m || covers (e up_to f) m)
          go true p h = or_left (covers v m) (covers (e up_to f) m) (covers-in v m h.0 (omega (arith, ltb→lt m e (subst⁻¹ T p tt))))
          go false p h = or_right (covers v m) (covers (e up_to f) m) (covers-in (e up_to f) m (nltb→le m e (subst⁻¹ (λ (b : Bool). T (not b)) p tt)) h.1)

      back : T (covers v m) ⊎ T (covers (e up_to f) m) → T (covers (v.from up_to f) m)
      back (inl t) = let h = covers_out v m t in covers-in (v.from up_to f) m h.0 (omega arith)
      back (inr t) = let h = covers_out (e up_to f) m t in let b = a.0 in covers-in (v.from up_to f) m (omega arith) h.1

      whole : covers (v.from up_to f) m ≡ covers v m || covers (e up_to f) m
      whole = same_test (covers (v.from up_to f) m) (covers v m || covers (e up_to f) m) split (λ t. back (or_cases (covers v m) (covers (e up_to f) m) t))
  extends-covers m (apart v n) a = ap (λ (b : Bool). covers v m || b) (or-none (covers (e up_to f) m)) ∙ ap (λ (b : Bool). b || covers (e up_to f) m) (sym (or-none (covers v m)))
  extends-covers m (later v w {vs} r) a =
      ap (λ (b : Bool). covers v m || b) (extends-covers m r a.2) ∙ or-regroup (covers v m) (any (λ v. covers v m) (w ∷ vs)) (covers (e up_to f) m)

extends-ends : {e f : ℕ} {vs ws : List Period} → Extends e f vs ws → Ends ws f
extends-ends alone = refl
extends-ends (joined v q) = refl
extends-ends (apart v n) = refl
extends-ends {f = f} (later v w {vs} {ws} r) = ends_more v ws f (extends-ends r)

extends-length : {e f : ℕ} {vs ws : List Period} → Extends e f vs ws → length ws ≤ suc (length vs)
extends-length alone = omega arith
extends-length (joined v q) = omega arith
extends-length (apart v n) = omega arith
extends-length (later v w r) = let h = extends-length r in omega arith

-- a span that touches the last interval adds none
extends-joined : {e f : ℕ} {vs ws : List Period} → Extends e f vs ws → Ends vs e → length ws ≡ length vs
extends-joined alone h = absurd h
extends-joined (joined v q) h = refl
extends-joined (apart v n) h = absurd (n h)
extends-joined (later v w r) h = ap suc (extends-joined r h)

-- ---- all spans

module _ (es : List ℕ) (spans : ℕ) where
  abbrev at : ℕ → ℕ
  at i = get_or es i 0

  abbrev to : ℕ → List Period
  to n = intervals_to es spans n

  abbrev wider : ℕ → List Period
  wider i = extended (to i) (at i) (at (suc i))

  more : (i : ℕ) → Extends (at i) (at (suc i)) (to i) (wider i)
  more i = extends (at i) (at (suc i)) (to i)

  -- by whether bit i is set
  by_bit : (P : List Period → Type 0) (i : ℕ) → (bit spans i ≡ 1 → P (wider i)) → ((bit spans i ≡ 1 → ⊥) → P (to i)) → P (to (suc i))
  by_bit P i = by_equal (λ b. P (if b (wider i) (to i))) (bit spans i) 1

  -- an interval more takes two spans more, once there is one
  abbrev Few : ℕ → List Period → Type 0
  Few n vs = (2 * length vs ≤ n) ⊎ ((2 * length vs ≤ n + 1) × Ends vs (at n))

  few : (n : ℕ) → Few n (to n)
  few zero = inl (omega arith)
  few (suc i) = go (few i)
    where
      go : Few i (to i) → Few (suc i) (to (suc i))
      go (inl h) = by_bit (Few (suc i)) i (λ b. let g = extends-length (more i) in inr (omega arith, extends-ends (more i))) (λ b. inl (omega arith))
      go (inr (h, k)) = by_bit (Few (suc i)) i (λ b. let g = extends-joined (more i) k in inr (omega arith, extends-ends (more i))) (λ b. inl (omega arith))

  pub intervals-few : (n : ℕ) → 2 * length (intervals_to es spans n) ≤ n + 1
  intervals-few n = go (few n)
    where
      go : Few n (to n) → 2 * length (to n) ≤ n + 1
      go (inl h) = omega arith
      go (inr h) = h.0

  pub intervals-fit : length es ≤ 64 → length (intervals es spans) ≤ 32
  intervals-fit h = let r = intervals-few (span_count es) in omega arith

  module _ (rise : Rising es) where
    further : (i : ℕ) → suc i ≤ span_count es → at i < at (suc i)
    further i h = rising es rise i (suc i) (le_refl (suc i)) (omega arith)

    apart-until : (n : ℕ) → n ≤ span_count es → Apart (to n) × Until (at n) (to n)
    apart-until zero h = (tt, λ v m. elim m [ ])
    apart-until (suc i) h =
        let (a, u) = apart-until i (omega arith) in
        let l = further i h in
        by_bit (λ vs. Apart vs × Until (at (suc i)) vs) i
        (λ b. (extends-apart (at i) (at (suc i)) l (more i) a u, extends-until (at i) (at (suc i)) l (more i) u))
        (λ b. (a, λ v m. omega (arith, u v m)))

    pub intervals-apart : Apart (intervals es spans)
    intervals-apart = (apart-until (span_count es) (le_refl (span_count es))).0

    module _ (m : ℕ) where
      abbrev Any : List Period → Bool
      Any vs = any (λ v. covers v m) vs

      abbrev span_of : ℕ → Bool
      span_of i = covers (at i up_to at (suc i)) m

      -- one of the first n spans whose bit is set has the minute
      abbrev Covered : ℕ → Type 0
      Covered n = (i : ℕ) × (i < n) × (bit spans i ≡ 1) × T (span_of i)

      covered_more : (i : ℕ) → Covered i → Covered (suc i)
      covered_more i (j, l, b, t) = (j, omega arith, b, t)

      covered-cases : (i : ℕ) → Covered (suc i) → ((bit spans i ≡ 1) × T (span_of i)) ⊎ Covered i
      covered-cases i (j, l, b, t) = go (eq-or-lt_of_le (le_of_suc-le-suc l))
        where
          go : (j ≡ i) ⊎ (j < i) → ((bit spans i ≡ 1) × T (span_of i)) ⊎ Covered i
          go (inl p) = inl (subst (λ (k : ℕ). (bit spans k ≡ 1) × T (span_of k)) p (b, t))
          go (inr k) = inr (j, k, b, t)

      minutes : (n : ℕ) → n ≤ span_count es → T (Any (to n)) ↔ Covered n
      minutes zero h = ((λ t. absurd t), λ r. absurd (not-suc-le-zero r.1))
      minutes (suc i) h = go (minutes i (omega arith))
        where
          joins : Any (wider i) ≡ Any (to i) || span_of i
          joins = extends-covers (at i) (at (suc i)) (further i h) m (more i) (apart-until i (omega arith)).0

          go : T (Any (to i)) ↔ Covered i → T (Any (to (suc i))) ↔ Covered (suc i)
          go (u, v) =
              by_bit (λ vs. T (Any vs) ↔ Covered (suc i)) i
              (λ b. subst⁻¹ (λ (x : Bool). T x ↔ Covered (suc i)) joins ((λ t. out b (or_cases (Any (to i)) (span_of i) t)), λ r. into (covered-cases i r)))
              (λ n. ((λ t. covered_more i (u t)), λ r. old n (covered-cases i r)))
            where
              out : bit spans i ≡ 1 → T (Any (to i)) ⊎ T (span_of i) → Covered (suc i)
              out b (inl t) = covered_more i (u t)
              out b (inr t) = (i, le_refl (suc i), b, t)

              into : ((bit spans i ≡ 1) × T (span_of i)) ⊎ Covered i → T (Any (to i) || span_of i)
              into (inl (b, t)) = or_right (Any (to i)) (span_of i) t
              into (inr r) = or_left (Any (to i)) (span_of i) (v r)

              old : (bit spans i ≡ 1 → ⊥) → ((bit spans i ≡ 1) × T (span_of i)) ⊎ Covered i → T (Any (to i))
              old n (inl (b, t)) = absurd (n b)
              old n (inr r) = v r

      pub interval-minutes : T (any (λ v. covers v m) (intervals es spans)) ↔ T (in_spans es spans m)
      interval-minutes = (out, into)
        where
          N : ℕ
          N = span_count es

          out : T (any (λ v. covers v m) (intervals es spans)) → T (in_spans es spans m)
          out t =
              let (i, l, b, c) = (minutes N (le_refl N)).0 t in
              let h = covers_out (at i up_to at (suc i)) m c in
              (in-spans es spans m).1 (i, b, span-in es i m l h.0 h.1)

          into : T (in_spans es spans m) → T (any (λ v. covers v m) (intervals es spans))
          into t =
              let (i, b, u) = (in-spans es spans m).0 t in
              let h = span-out es i m u in
              (minutes N (le_refl N)).1 (i, h.0, b, covers-in (at i up_to at (suc i)) m h.1 h.2)

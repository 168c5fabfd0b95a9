-- Spans: every minute that a period covers is in exactly one, and all minutes of one span have the same valid statements, so the same members.
use mathlib.Core.Path.{◌≡◌, refl, ap, subst, subst⁻¹}
use mathlib.Core.Logic.{◌⊎◌, inl, inr, ◌↔◌}
use mathlib.Core.Bool.{Bool, true, false, ◌&&◌, not}
use mathlib.Core.List.Memᴰ.{head}
use mathlib.Core.List.Memᴰ.{tail}
use mathlib.Core.List.{List, [], ◌∷◌, Memᴰ as Mem}
use Prim.Native.Nat.{ℕ, zero, suc, ◌<◌, ◌≤◌, zero-le}
use native.Mathlib.Nat.{le_refl, le_of_suc-le-suc, not-suc-le-zero, lt_of_not-le, eq-or-lt_of_le}
use native.Mathlib.Omega.{arith}
use lib.Dec.{T, eqb, eqb→eq, leb, ltb, leb→le, le→leb, ltb→lt, lt→ltb, nltb→le}
use lib.ListN.{length, get_or}
use Rattle.meaning.specs.Lists.{only, each, below, Ascending}
use Rattle.meaning.specs.Credentials.{Body, Statement, Period, covers, Credential, valid_at}
use Rattle.meaning.specs.Rules.{CW, cw1, cw2, cw3, cw4, cw5, cw6, Derivable}
use Rattle.meaning.specs.Sequence.{S}
use Rattle.meaning.specs.Members.{closure, members}
use Rattle.meaning.specs.Table.{bit, ends_of, ends, span_count, in_span, starts, in_spans}
use Rattle.meaning.proofs.Tests.{and_in, and_left, and_right, eq-in, same_test, any-in, any_out}
use Rattle.meaning.proofs.ListLaws.{each_in, each-out, each_same, only-in, only_out, sole, cast, place-in, place_out, below_in}
use Rattle.meaning.proofs.SortLaws.{sort-in, sort-out, sort-ascending}
use Rattle.meaning.proofs.OrderLaws.{numbers}
use Rattle.meaning.proofs.Derivations.{derivable}

-- strictly ascending numbers, as the ends are
abbrev pub Rising : List ℕ → Type 0
Rising = Ascending (λ (a b : ℕ). a < b)

pub rising : (es : List ℕ) → Rising es → (i j : ℕ) → i < j → j < length es → get_or es i 0 < get_or es j 0
rising [] a i j h l = absurd (not-suc-le-zero l)
rising (e ∷ es) a i zero h l = absurd (not-suc-le-zero h)
rising (e ∷ es) a zero (suc j) h l = a.0 _ (place-in 0 es j (le_of_suc-le-suc l))
rising (e ∷ es) a (suc i) (suc j) h l = rising es a.1 i j (le_of_suc-le-suc h) (le_of_suc-le-suc l)

rising_le : (es : List ℕ) → Rising es → (i j : ℕ) → i ≤ j → j < length es → get_or es i 0 ≤ get_or es j 0
rising_le es a i j h l = go (eq-or-lt_of_le h)
  where
    go : (i ≡ j) ⊎ (i < j) → get_or es i 0 ≤ get_or es j 0
    go (inl e) = rw e (le_refl _)
    go (inr k) = let r = rising es a i j k l in omega arith

-- ---- what the tests say

pub covers-in : (v : Period) (m : ℕ) → v.from ≤ m → m < v.until → T (covers v m)
covers-in v m h k = and_in (leb v.from m) (ltb m v.until) (le→leb _ _ h) (lt→ltb _ _ k)

pub covers_out : (v : Period) (m : ℕ) → T (covers v m) → (v.from ≤ m) × (m < v.until)
covers_out v m t = (leb→le _ _ (and_left (leb v.from m) (ltb m v.until) t), ltb→lt _ _ (and_right (leb v.from m) (ltb m v.until) t))

module _ (es : List ℕ) (i m : ℕ) where
  pub span-in : i < span_count es → get_or es i 0 ≤ m → m < get_or es (suc i) 0 → T (in_span es i m)
  span-in h k l =
      and_in (ltb i (span_count es) && leb (get_or es i 0) m) (ltb m (get_or es (suc i) 0))
      (and_in (ltb i (span_count es)) (leb (get_or es i 0) m) (lt→ltb _ _ h) (le→leb _ _ k)) (lt→ltb _ _ l)

  pub span-out : T (in_span es i m) → (i < span_count es) × (get_or es i 0 ≤ m) × (m < get_or es (suc i) 0)
  span-out t =
      let u = and_left (ltb i (span_count es) && leb (get_or es i 0) m) (ltb m (get_or es (suc i) 0)) t in (
        ltb→lt _ _ (and_left (ltb i (span_count es)) (leb (get_or es i 0) m) u),
        leb→le _ _ (and_right (ltb i (span_count es)) (leb (get_or es i 0) m) u),
        ltb→lt _ _ (and_right (ltb i (span_count es) && leb (get_or es i 0) m) (ltb m (get_or es (suc i) 0)) t),
      )

-- ---- a minute and the spans

-- some span whose bit is set holds the minute
pub in-spans : (es : List ℕ) (spans m : ℕ) → T (in_spans es spans m) ↔ ((i : ℕ) × (bit spans i ≡ 1) × T (in_span es i m))
in-spans es spans m = (to, back)
  where
    to : T (in_spans es spans m) → (i : ℕ) × (bit spans i ≡ 1) × T (in_span es i m)
    to t =
        let r = any_out (λ i. eqb (bit spans i) 1 && in_span es i m) (below (span_count es)) t in
        (r.0, eqb→eq _ _ (and_left (eqb (bit spans r.0) 1) (in_span es r.0 m) r.2), and_right (eqb (bit spans r.0) 1) (in_span es r.0 m) r.2)

    back : (i : ℕ) × (bit spans i ≡ 1) × T (in_span es i m) → T (in_spans es spans m)
    back (i, e, t) =
        any-in (λ i. eqb (bit spans i) 1 && in_span es i m) (below_in (span_count es) i (span-out es i m t).0)
        (and_in (eqb (bit spans i) 1) (in_span es i m) (eq-in _ _ e) t)

-- an end at or before a minute of the span is at or before its start
none_inside : (es : List ℕ) → Rising es → (i m : ℕ) → T (in_span es i m) → (x : ℕ) → Mem x es → x ≤ m → x ≤ get_or es i 0
none_inside es a i m t x u h =
    let s = span-out es i m t in
    let p = place_out 0 u in
    let e = p.2 in
    let k = lt_of_not-le (λ l. let r = rising_le es a (suc i) p.0 l p.1 in omega arith) in
    let r = rising_le es a p.0 i (le_of_suc-le-suc k) (omega arith) in
    omega arith

-- at most one span holds a minute
pub one_span : (es : List ℕ) → Rising es → (i j m : ℕ) → T (in_span es i m) → T (in_span es j m) → i ≡ j
one_span es a i j m t u =
    let s = span-out es i m t in
    let r = span-out es j m u in
    let p = lt_of_not-le (λ l. let n = rising_le es a (suc i) j l (omega arith) in omega arith) in
    let q = lt_of_not-le (λ l. let n = rising_le es a (suc j) i l (omega arith) in omega arith) in
    omega arith

-- a minute from the first end on and before end j
search-span : (es : List ℕ) (m j : ℕ) → get_or es 0 0 ≤ m → m < get_or es j 0 → j < length es → (k : ℕ) × T (in_span es k m)
search-span es m zero h l w = absurd (omega arith)
search-span es m (suc j) h l w = go (ltb m (get_or es j 0)) refl (λ k. search-span es m j h k (omega arith))
  where
    go : (b : Bool) → ltb m (get_or es j 0) ≡ b → (m < get_or es j 0 → (k : ℕ) × T (in_span es k m)) → (k : ℕ) × T (in_span es k m)
    go true e rec = rec (ltb→lt _ _ (subst⁻¹ T e tt))
    go false e rec = (j, span-in es j m (omega arith) (nltb→le _ _ (subst⁻¹ (λ (b : Bool). T (not b)) e tt)) l)

-- a minute between two ends is in a span
pub between : (es : List ℕ) → Rising es → (a b m : ℕ) → Mem a es → a ≤ m → Mem b es → m < b → (i : ℕ) × T (in_span es i m)
between es r a b m u h v l =
    let p = place_out 0 u in
    let q = place_out 0 v in
    let d = p.2 in
    let e = q.2 in
    let k = rising_le es r 0 p.0 zero-le p.1 in
    search-span es m q.0 (omega arith) (omega arith) q.1

-- ---- the starts of the spans

pub starts-length : (es : List ℕ) → length (starts es) ≡ span_count es
starts-length [] = refl
starts-length (e ∷ []) = refl
starts-length (e ∷ f ∷ es) = let r = starts-length (f ∷ es) in omega arith

pub starts-at : (es : List ℕ) (i : ℕ) → i < span_count es → get_or (starts es) i 0 ≡ get_or es i 0
starts-at [] i h = absurd (not-suc-le-zero h)
starts-at (e ∷ []) i h = absurd (not-suc-le-zero h)
starts-at (e ∷ f ∷ es) zero h = refl
starts-at (e ∷ f ∷ es) (suc i) h = starts-at (f ∷ es) i (omega arith)

-- ---- the ends of credentials

module _ (cs : List Credential) where
  pub ends-rising : Rising (ends cs)
  ends-rising = sort-ascending numbers (each (λ c. ends_of c.period) cs)

  end-in : {c : Credential} {x : ℕ} → Mem c cs → c.period.from < c.period.until → Mem x (c.period.from ∷ c.period.until ∷ []) → Mem x (ends cs)
  end-in {c} u l i = sort-in numbers (each_in (λ c. ends_of c.period) u (only-in (ltb c.period.from c.period.until) (lt→ltb _ _ l) i))

  pub from_end : {c : Credential} → Mem c cs → c.period.from < c.period.until → Mem c.period.from (ends cs)
  from_end u l = end-in u l (head refl)

  pub until_end : {c : Credential} → Mem c cs → c.period.from < c.period.until → Mem c.period.until (ends cs)
  until_end u l = end-in u l (tail (head refl))

  -- the ends are the from and until of the periods that have minutes
  pub ends-exact : (x : ℕ) → Mem x (ends cs) ↔ ((c : Credential) × Mem c cs × (c.period.from < c.period.until) × ((x ≡ c.period.from) ⊎ (x ≡ c.period.until)))
  ends-exact x = (to, back)
    where
      two : {y z : ℕ} → Mem x (y ∷ z ∷ []) → (x ≡ y) ⊎ (x ≡ z)
      two (head e) = inl e
      two (tail i) = inr (sole i)

      to : Mem x (ends cs) → (c : Credential) × Mem c cs × (c.period.from < c.period.until) × ((x ≡ c.period.from) ⊎ (x ≡ c.period.until))
      to m =
          let r = each-out (λ c. ends_of c.period) cs (sort-out numbers (each (λ c. ends_of c.period) cs) m) in
          let o = only_out (ltb r.0.period.from r.0.period.until) r.2 in
          (r.0, r.1, ltb→lt _ _ o.0, two o.1)

      back : (c : Credential) × Mem c cs × (c.period.from < c.period.until) × ((x ≡ c.period.from) ⊎ (x ≡ c.period.until)) → Mem x (ends cs)
      back (c, i, l, inl e) = cast e (from_end i l)
      back (c, i, l, inr e) = cast e (until_end i l)

  -- a period that covers a minute of a span covers its first minute, and the other way round
  pub span-covers : (i m : ℕ) → T (in_span (ends cs) i m) → (c : Credential) → Mem c cs → covers c.period m ≡ covers c.period (get_or (ends cs) i 0)
  span-covers i m t c u = same_test (covers c.period m) (covers c.period z) to back
    where
      z : ℕ
      z = get_or (ends cs) i 0

      low : z ≤ m
      low = (span-out (ends cs) i m t).1

      inside : (x : ℕ) → Mem x (ends cs) → x ≤ m → x ≤ z
      inside = none_inside (ends cs) ends-rising i m t

      to : T (covers c.period m) → T (covers c.period z)
      to k =
          let h = covers_out c.period m k in
          covers-in c.period z (inside _ (from_end u (omega arith)) h.0) (omega (arith, low))

      back : T (covers c.period z) → T (covers c.period m)
      back k =
          let h = covers_out c.period z k in
          covers-in c.period m (omega (arith, low)) (lt_of_not-le (λ l. omega (arith, inside _ (until_end u (omega arith)) l)))

  pub span-valid : (i m : ℕ) → T (in_span (ends cs) i m) → valid_at cs m ≡ valid_at cs (get_or (ends cs) i 0)
  span-valid i m t = each_same cs (λ c u. ap (λ (b : Bool). only b (c.statement ∷ [])) (span-covers i m t c u))

  -- one span has one answer
  pub span-members : (i m : ℕ) → T (in_span (ends cs) i m) → members cs m ≡ members cs (get_or (ends cs) i 0)
  span-members i m t = ap closure (span-valid i m t)

  pub span-derivable : (i m : ℕ) → T (in_span (ends cs) i m) → {Ar X : ℕ} → Derivable cs m Ar X ↔ Derivable cs (get_or (ends cs) i 0) Ar X
  span-derivable i m t {Ar} {X} =
      let z = get_or (ends cs) i 0 in
      let P : List Statement → Type 0 = λ ss. (k : ℕ) × S ss k Ar X in (
        (λ d. (derivable cs z).1 (subst P (span-valid i m t) ((derivable cs m).0 d))),
        λ d. (derivable cs m).1 (subst⁻¹ P (span-valid i m t) ((derivable cs z).0 d)),
      )

  -- a minute that a period covers is in a span
  pub find-span : (m : ℕ) {c : Credential} → Mem c cs → T (covers c.period m) → (i : ℕ) × T (in_span (ends cs) i m)
  find-span m {c} u t =
      let h = covers_out c.period m t in
      between (ends cs) ends-rising c.period.from c.period.until m (from_end u (omega arith)) h.0 (until_end u (omega arith)) h.1

  -- every derivation uses a credential whose period covers the minute
  used : {m Ar : ℕ} {e : Body} → CW cs m Ar e → (c : Credential) × Mem c cs × T (covers c.period m)
  used (cw1 i t) = (_, i, t)
  used (cw2 a b) = used a
  used (cw3 C a b c) = used a
  used (cw4 a b c) = used a
  used (cw5 a b c) = used a
  used (cw6 a b c o) = used a

  pub span_of : {m Ar X : ℕ} → Derivable cs m Ar X → (i : ℕ) × T (in_span (ends cs) i m)
  span_of {m} d = let r = used d in find-span m r.1 r.2

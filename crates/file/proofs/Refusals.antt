-- Refusals 1 to 8 and 17 are given exactly under the documents' conditions.
use mathlib.Core.Path.{◌≡◌, refl, sym, ap, ap₂, ◌∙◌, subst, subst⁻¹}
use mathlib.Core.Logic.{◌⊎◌, inl, inr, ◌↔◌, dite}
use mathlib.Core.Bool.{Bool, true, false, ◌&&◌, not}
use mathlib.Core.List.Memᴰ.{head}
use mathlib.Core.List.Memᴰ.{tail}
use mathlib.Core.List.{List, [], ◌∷◌, ◌++◌, append_assoc, append-nil, Memᴰ as Mem}
use Prim.Native.Nat.{ℕ, zero, suc, ◌+◌, ◌-◌, ◌<◌, ◌≤◌, zero-le}
use native.Mathlib.Nat.{le_refl}
use native.Mathlib.Omega.{arith}
use native.Mathlib.Decide.{ℕ_discrete}
use lib.Dec.{T, eqb, leb, ltb, eqb→eq, leb→le, le→leb, ltb→lt, lt→ltb, nltb→le, T_not, not_T}
use lib.ListN.{length}
use Rattle.meaning.specs.Lists.{all, each, up_from, below}
use Rattle.meaning.specs.Table.{ends}
use Rattle.meaning.proofs.Tests.{and_in, and_left, and_right, eq-in, all-out}
use Rattle.file.specs.Refusals.{RefusalRow, Outcome, done, refused, first, number_of, ◌when◌, ◌at◌when◌}
use Rattle.file.specs.Format.{E, R, N, length_for, field, credentials}
use Rattle.file.specs.Reading.{between, uses, in_range, zeros, undated, head_rows, serial_row, check_rows, credentials_rows, ends_row, reading, read, of_file}
use Rattle.file.specs.Values.{first_number}
use Rattle.file.proofs.Dating.{undated-in, not-both, dated-or-not}
use Rattle.file.proofs.Serials.{taken_in, not_taken, fresh-or-taken}
use Rattle.file.specs.Conditions.{Limits, Head, Ranges, Zeros, Dated, Undated, Fresh, Taken, Good, GoodBelow, Accepted, Reached, Refused, short, limits, wrong_length, kind, range, unused, period, serial, too_many_ends}

-- ---- the first row that holds

abbrev pub NoneHolds : List RefusalRow → Type 0
NoneHolds rows = (r : RefusalRow) → Mem r rows → ¬ T r.holds

module _ {A : Type 0} (a : A) where
  -- a row that does not hold is passed over, one that holds is given
  pub pass : (r : RefusalRow) (rows : List RefusalRow) → ¬ T r.holds → first (r ∷ rows) a ≡ first rows a
  pass r rows h = go r.holds h
    where
      go : (b : Bool) → ¬ T b → elim b as (λ x. Outcome A) [ true ↦ refused r.number r.place | false ↦ first rows a ] ≡ first rows a
      go true n = absurd (n tt)
      go false n = refl

  pub give : (r : RefusalRow) (rows : List RefusalRow) → T r.holds → ◌≡◌ {A = Outcome A} (first (r ∷ rows) a) (refused r.number r.place)
  give r rows h = go r.holds h
    where
      go : (b : Bool) → T b → ◌≡◌ {A = Outcome A} (elim b as (λ x. Outcome A) [ true ↦ refused r.number r.place | false ↦ first rows a ]) (refused r.number r.place)
      go true t = refl
      go false t = absurd t

  pub pass_all : (xs ys : List RefusalRow) → NoneHolds xs → first (xs ++ ys) a ≡ first ys a
  pass_all [] ys h = refl
  pass_all (r ∷ xs) ys h = pass r (xs ++ ys) (h r (head refl)) ∙ pass_all xs ys (λ q i. h q (tail i))

-- ---- the tests and the conditions

-- a test that holds for every element
all_in : {A : Type 0} (p : A → Bool) (l : List A) → ((x : A) → Mem x l → T (p x)) → T (all p l)
all_in p [] h = tt
all_in p (x ∷ l) h = and_in (p x) (all p l) (h x (head refl)) (all_in p l (λ y i. h y (tail i)))

ruleset parts = (and_left, and_right, leb→le, ltb→lt, eqb→eq)

module _ (f : List ℕ) where
  abbrev pub limits_test : Bool
  limits_test = between 1 32 (E f) && between 1 32 (R f) && between 0 256 (N f)

  pub limits-out : T limits_test → Limits f
  limits-out t = record { entities = (search parts, search parts); names = (search parts, search parts); credentials = search parts }

  pub limits-in : Limits f → T limits_test
  limits-in l =
      and_in (between 1 32 (E f) && between 1 32 (R f)) (between 0 256 (N f))
      (and_in (between 1 32 (E f)) (between 1 32 (R f)) (inside 1 32 (E f) l.entities) (inside 1 32 (R f) l.names))
      (inside 0 256 (N f) (zero-le, l.credentials))
    where
      inside : (low high x : ℕ) → (low ≤ x) × (x ≤ high) → T (between low high x)
      inside low high x (h, k) = and_in (leb low x) (leb x high) (le→leb low x h) (le→leb x high k)

  module _ (i : ℕ) where
    abbrev entities_test : Bool
    entities_test = all (λ j. ltb (field f i j) (E f)) (uses (field f i 0)).entities

    abbrev names_test : Bool
    names_test = all (λ j. ltb (field f i j) (R f)) (uses (field f i 0)).names

    ranges-out : T (in_range f i) → Ranges f i
    ranges-out t = record {
      entities = λ j m. ltb→lt _ _ (all-out (λ k. ltb (field f i k) (E f)) (uses (field f i 0)).entities (and_left entities_test names_test t) m);
      names = λ j m. ltb→lt _ _ (all-out (λ k. ltb (field f i k) (R f)) (uses (field f i 0)).names (and_right entities_test names_test t) m);
    }

    pub ranges_in : Ranges f i → T (in_range f i)
    ranges_in r =
        and_in entities_test names_test (all_in (λ k. ltb (field f i k) (E f)) (uses (field f i 0)).entities (λ j m. lt→ltb _ _ (r.entities j m)))
        (all_in (λ k. ltb (field f i k) (R f)) (uses (field f i 0)).names (λ j m. lt→ltb _ _ (r.names j m)))

    zeros-out : T (zeros f i) → Zeros f i
    zeros-out t j m = eqb→eq _ _ (all-out (λ k. eqb (field f i k) 0) (uses (field f i 0)).unused t m)

    pub zeros-in : Zeros f i → T (zeros f i)
    zeros-in z = all_in (λ k. eqb (field f i k) 0) (uses (field f i 0)).unused (λ j m. eq-in _ 0 (z j m))

-- ---- rows that are passed over

module _ (f : List ℕ) where
  abbrev pub short_row : RefusalRow
  short_row = 1 when (ltb (length f) 6)

  abbrev pub limits_row : RefusalRow
  limits_row = 2 when (not (limits_test f))

  abbrev length_row : RefusalRow
  length_row = 3 when (not (eqb (length f) (length_for (N f))))

  abbrev kind_row : ℕ → RefusalRow
  kind_row i = 4 at i when (ltb 5 (field f i 0))

  abbrev range_row : ℕ → RefusalRow
  range_row i = 5 at i when (not (in_range f i))

  abbrev zeros_row : ℕ → RefusalRow
  zeros_row i = 6 at i when (not (zeros f i))

  abbrev period_row : ℕ → RefusalRow
  period_row i = 7 at i when (undated f i)

  -- the rows of n credentials from i on, and then some more
  abbrev rows_from : List RefusalRow → ℕ → ℕ → List RefusalRow
  rows_from more i n = each (check_rows f) (up_from i n) ++ more

module _ {A : Type 0} (a : A) (f : List ℕ) where
  pub short-passes : 6 ≤ length f → (rows : List RefusalRow) → first (short_row f ∷ rows) a ≡ first rows a
  short-passes h rows = pass a (short_row f) rows (λ t. omega (arith, ltb→lt (length f) 6 t))

  pub limits-pass : Limits f → (rows : List RefusalRow) → first (limits_row f ∷ rows) a ≡ first rows a
  limits-pass l rows = pass a (limits_row f) rows (λ t. T_not (limits_test f) t (limits-in f l))

  length-passes : length f ≡ length_for (N f) → (rows : List RefusalRow) → first (length_row f ∷ rows) a ≡ first rows a
  length-passes e rows = pass a (length_row f) rows (λ t. T_not (eqb (length f) (length_for (N f))) t (eq-in _ _ e))

  head-passes : Head f → (rows : List RefusalRow) → first (head_rows f ++ rows) a ≡ first rows a
  head-passes h rows =
      short-passes h.six (limits_row f ∷ length_row f ∷ rows) ∙ limits-pass h.limits (length_row f ∷ rows) ∙ length-passes h.whole rows

  pub head_read : Head f → ◌≡◌ {A = Outcome A} (first (head_rows f) a) (done a)
  head_read h = head-passes h []

  module _ (i : ℕ) (rows : List RefusalRow) where
    kind-passes : field f i 0 ≤ 5 → first (kind_row f i ∷ rows) a ≡ first rows a
    kind-passes h = pass a (kind_row f i) rows (λ t. omega (arith, ltb→lt 5 (field f i 0) t))

    range-passes : Ranges f i → first (range_row f i ∷ rows) a ≡ first rows a
    range-passes r = pass a (range_row f i) rows (λ t. T_not (in_range f i) t (ranges_in f i r))

    zeros-pass : Zeros f i → first (zeros_row f i ∷ rows) a ≡ first rows a
    zeros-pass z = pass a (zeros_row f i) rows (λ t. T_not (zeros f i) t (zeros-in f i z))

    period-passes : Dated f i → first (period_row f i ∷ rows) a ≡ first rows a
    period-passes h = pass a (period_row f i) rows (not-both f i h)

    serial-passes : Fresh f i → first (serial_row f i ∷ rows) a ≡ first rows a
    serial-passes h = pass a (serial_row f i) rows (not_taken f i h)

  good-passes : (i : ℕ) → Good f i → (rows : List RefusalRow) → first (check_rows f i ++ rows) a ≡ first rows a
  good-passes i g rows =
      kind-passes i (range_row f i ∷ zeros_row f i ∷ period_row f i ∷ serial_row f i ∷ rows) g.kind
      ∙ range-passes i (zeros_row f i ∷ period_row f i ∷ serial_row f i ∷ rows) g.ranges ∙ zeros-pass i (period_row f i ∷ serial_row f i ∷ rows) g.zeros
      ∙ period-passes i (serial_row f i ∷ rows) g.period ∙ serial-passes i rows g.serial

  -- what follows 1 to 7 and 17
  module _ (more : List RefusalRow) where
    one_more : (i n : ℕ) → rows_from f more i (suc n) ≡ check_rows f i ++ rows_from f more (suc i) n
    one_more i n = append_assoc (check_rows f i) (each (check_rows f) (up_from (suc i) n)) more

    -- k good credentials are passed over
    good-pass : (k i t n u : ℕ) → k + i ≡ t → k + n ≡ u → ((j : ℕ) → i ≤ j → j < t → Good f j) → first (rows_from f more i u) a ≡ first (rows_from f more t n) a
    good-pass zero i t n u e d h =
        let p : i ≡ t = omega arith in
        let q : u ≡ n = omega arith in
        ap₂ (λ (j k : ℕ). first (rows_from f more j k) a) p q
    good-pass (suc k) i t n u e d h =
        let q : u ≡ suc (k + n) = omega arith in
        ap (λ (j : ℕ). first (rows_from f more i j) a) q ∙ ap (λ (rows : List RefusalRow). first rows a) (one_more i (k + n))
        ∙ good-passes i (h i (le_refl i) (omega arith)) (rows_from f more (suc i) (k + n))
        ∙ good-pass k (suc i) t n (k + n) (omega arith) refl (λ j l m. h j (omega arith) m)

    -- all rows
    abbrev rows : List RefusalRow
    rows = head_rows f ++ rows_from f more 0 (N f)

    -- they come to what follows the credentials below t
    good-read : (t n : ℕ) → Head f → N f ≡ t + n → GoodBelow f t → first rows a ≡ first (rows_from f more t n) a
    good-read t n h e g = head-passes h (rows_from f more 0 (N f)) ∙ good-pass t 0 t n (N f) (omega arith) (sym e) (λ j l m. g j m)

    -- a file that passes 1 to 7 and 17 is judged by the rows that follow
    pub credentials-pass : Head f → GoodBelow f (N f) → first rows a ≡ first more a
    credentials-pass h g = good-read (N f) 0 h (omega arith) g

    reached-read : (i : ℕ) → Reached f i → (n : ℕ) × (first rows a ≡ first (check_rows f i ++ rows_from f more (suc i) n) a)
    reached-read i r =
        let n = N f - suc i in
        let b = r.below in
        (n, good-read i (suc n) r.head (omega arith) r.good ∙ ap (λ (xs : List RefusalRow). first xs a) (one_more i n))

    -- ---- the conditions give the refusals

    -- those of 1 to 7 and 17, whatever follows
    pub refused-before : {n p : ℕ} → Refused f n p → ¬ (n ≡ 8) → ◌≡◌ {A = Outcome A} (first rows a) (refused n p)
    refused-before (short h) b = give a (short_row f) (limits_row f ∷ length_row f ∷ rows_from f more 0 (N f)) (lt→ltb (length f) 6 h)
    refused-before (limits h l) b =
        short-passes h (limits_row f ∷ length_row f ∷ rows_from f more 0 (N f))
        ∙ give a (limits_row f) (length_row f ∷ rows_from f more 0 (N f)) (not_T (limits_test f) (λ t. l (limits-out f t)))
    refused-before (wrong_length h l e) b =
        short-passes h (limits_row f ∷ length_row f ∷ rows_from f more 0 (N f)) ∙ limits-pass l (length_row f ∷ rows_from f more 0 (N f))
        ∙ give a (length_row f) (rows_from f more 0 (N f)) (not_T (eqb (length f) (length_for (N f))) (λ t. e (eqb→eq _ _ t)))
    refused-before (kind i r h) b =
        let x = reached-read i r in
        let after = serial_row f i ∷ rows_from f more (suc i) x.0 in
        x.1 ∙ give a (kind_row f i) (range_row f i ∷ zeros_row f i ∷ period_row f i ∷ after) (lt→ltb 5 (field f i 0) h)
    refused-before (range i r k h) b =
        let x = reached-read i r in
        let after = zeros_row f i ∷ period_row f i ∷ serial_row f i ∷ rows_from f more (suc i) x.0 in
        x.1 ∙ kind-passes i (range_row f i ∷ after) k ∙ give a (range_row f i) after (not_T (in_range f i) (λ t. h (ranges-out f i t)))
    refused-before (unused i r k s h) b =
        let x = reached-read i r in
        let after = period_row f i ∷ serial_row f i ∷ rows_from f more (suc i) x.0 in
        x.1 ∙ kind-passes i (range_row f i ∷ zeros_row f i ∷ after) k ∙ range-passes i (zeros_row f i ∷ after) s
        ∙ give a (zeros_row f i) after (not_T (zeros f i) (λ t. h (zeros-out f i t)))
    refused-before (period i r k s z h) b =
        let x = reached-read i r in
        let after = serial_row f i ∷ rows_from f more (suc i) x.0 in
        x.1 ∙ kind-passes i (range_row f i ∷ zeros_row f i ∷ period_row f i ∷ after) k ∙ range-passes i (zeros_row f i ∷ period_row f i ∷ after) s
        ∙ zeros-pass i (period_row f i ∷ after) z ∙ give a (period_row f i) after (undated-in f i h)
    refused-before (serial i r k s z d h) b =
        let x = reached-read i r in
        let after = rows_from f more (suc i) x.0 in
        x.1 ∙ kind-passes i (range_row f i ∷ zeros_row f i ∷ period_row f i ∷ serial_row f i ∷ after) k
        ∙ range-passes i (zeros_row f i ∷ period_row f i ∷ serial_row f i ∷ after) s ∙ zeros-pass i (period_row f i ∷ serial_row f i ∷ after) z
        ∙ period-passes i (serial_row f i ∷ after) d ∙ give a (serial_row f i) after (taken_in f i h)
    refused-before (too_many_ends h g l) b = absurd (b refl)

  pub accepted-read : Accepted f → ◌≡◌ {A = Outcome A} (read f a) (done a)
  unfolding reading
  accepted-read c =
      credentials-pass (ends_row f ∷ []) c.head c.good
      ∙ pass a (ends_row f) [] (λ t. let h = c.few in omega (arith, ltb→lt 64 (length (ends (credentials f))) t))

  pub refused-read : {n p : ℕ} → Refused f n p → ◌≡◌ {A = Outcome A} (read f a) (refused n p)
  unfolding reading
  refused-read (too_many_ends h g l) = credentials-pass (ends_row f ∷ []) h g ∙ give a (ends_row f) [] (lt→ltb 64 (length (ends (credentials f))) l)
  refused-read (short h) = refused-before (ends_row f ∷ []) (short h) (λ e. absurd (omega arith))
  refused-read (limits h l) = refused-before (ends_row f ∷ []) (limits h l) (λ e. absurd (omega arith))
  refused-read (wrong_length h l e) = refused-before (ends_row f ∷ []) (wrong_length h l e) (λ z. absurd (omega arith))
  refused-read (kind i r h) = refused-before (ends_row f ∷ []) (kind i r h) (λ e. absurd (omega arith))
  refused-read (range i r k h) = refused-before (ends_row f ∷ []) (range i r k h) (λ e. absurd (omega arith))
  refused-read (unused i r k s h) = refused-before (ends_row f ∷ []) (unused i r k s h) (λ e. absurd (omega arith))
  refused-read (period i r k s z h) = refused-before (ends_row f ∷ []) (period i r k s z h) (λ e. absurd (omega arith))
  refused-read (serial i r k s z d h) = refused-before (ends_row f ∷ []) (serial i r k s z d h) (λ e. absurd (omega arith))

-- ---- one of the conditions holds

abbrev pub Verdict : List ℕ → Type 0
Verdict f = Accepted f ⊎ ((n p : ℕ) × Refused f n p)

-- a proposition by its test
pub by-test : {P : Type 0} (b : Bool) → (T b → P) → (P → T b) → P ⊎ (¬ P)
by-test true out into = inl (out tt)
by-test false out into = inr (λ p. into p)

pub less : (a b : ℕ) → (a < b) ⊎ (b ≤ a)
less a b = go (ltb a b) refl
  where
    go : (t : Bool) → ltb a b ≡ t → (a < b) ⊎ (b ≤ a)
    go true e = inl (ltb→lt a b (subst⁻¹ T e tt))
    go false e = inr (nltb→le a b (subst⁻¹ (λ (x : Bool). T (not x)) e tt))

module _ (f : List ℕ) where
  credential-verdict : (i : ℕ) → Reached f i → Good f i ⊎ ((n p : ℕ) × Refused f n p)
  credential-verdict i r = by_kind (less 5 (field f i 0))
    where
      Result : Type 0
      Result = Good f i ⊎ ((n p : ℕ) × Refused f n p)

      by-serial : field f i 0 ≤ 5 → Ranges f i → Zeros f i → Dated f i → Fresh f i ⊎ Taken f i → Result
      by-serial k s z d (inl h) = inl (record { kind = k; ranges = s; zeros = z; period = d; serial = h })
      by-serial k s z d (inr h) = inr (17, i, serial i r k s z d h)

      by-period : field f i 0 ≤ 5 → Ranges f i → Zeros f i → Dated f i ⊎ Undated f i → Result
      by-period k s z (inl d) = by-serial k s z d (fresh-or-taken f i)
      by-period k s z (inr h) = inr (7, i, period i r k s z h)

      by-zeros : field f i 0 ≤ 5 → Ranges f i → Zeros f i ⊎ (¬ Zeros f i) → Result
      by-zeros k s (inl z) = by-period k s z (dated-or-not f i)
      by-zeros k s (inr z) = inr (6, i, unused i r k s z)

      by-range : field f i 0 ≤ 5 → Ranges f i ⊎ (¬ Ranges f i) → Result
      by-range k (inl s) = by-zeros k s (by-test (zeros f i) (zeros-out f i) (zeros-in f i))
      by-range k (inr s) = inr (5, i, range i r k s)

      by_kind : (5 < field f i 0) ⊎ (field f i 0 ≤ 5) → Result
      by_kind (inl h) = inr (4, i, kind i r h)
      by_kind (inr k) = by-range k (by-test (in_range f i) (ranges-out f i) (ranges_in f i))

  -- k credentials are left, from i on
  credentials-verdict : (k i : ℕ) → Head f → N f ≡ k + i → GoodBelow f i → GoodBelow f (N f) ⊎ ((n p : ℕ) × Refused f n p)
  credentials-verdict zero i h e g = inl (λ j l. g j (omega arith))
  credentials-verdict (suc k) i h e g =
      go (credential-verdict i (record { head = h; below = omega arith; good = g })) (λ g'. credentials-verdict k (suc i) h (omega arith) g')
    where
      more : Good f i → (j : ℕ) → (j < i) ⊎ (i ≤ j) → j < suc i → Good f j
      more c j (inl l) m = g j l
      more c j (inr l) m = let q : i ≡ j = omega arith in subst (Good f) q c

      go : Good f i ⊎ ((n p : ℕ) × Refused f n p) → (GoodBelow f (suc i) → GoodBelow f (N f) ⊎ ((n p : ℕ) × Refused f n p)) → GoodBelow f (N f) ⊎ ((n p : ℕ) × Refused f n p)
      go (inl c) rec = rec (λ j m. more c j (less j i) m)
      go (inr x) rec = inr x

  pub verdict : Verdict f
  verdict = by-six (less (length f) 6)
    where
      by-ends : Head f → GoodBelow f (N f) → (64 < length (ends (credentials f))) ⊎ (length (ends (credentials f)) ≤ 64) → Verdict f
      by-ends h g (inl l) = inr (8, 0, too_many_ends h g l)
      by-ends h g (inr l) = inl (record { head = h; good = g; few = l })

      by-credentials : Head f → GoodBelow f (N f) ⊎ ((n p : ℕ) × Refused f n p) → Verdict f
      by-credentials h (inl g) = by-ends h g (less 64 (length (ends (credentials f))))
      by-credentials h (inr x) = inr x

      by_length : 6 ≤ length f → Limits f → (length f ≡ length_for (N f)) ⊎ (¬ (length f ≡ length_for (N f))) → Verdict f
      by_length s l (inl e) =
          let h : Head f = record { six = s; limits = l; whole = e } in
          by-credentials h (credentials-verdict (N f) 0 h (omega arith) (λ i b. absurd (omega arith)))
      by_length s l (inr e) = inr (3, 0, wrong_length s l e)

      by-limits : 6 ≤ length f → Limits f ⊎ (¬ Limits f) → Verdict f
      by-limits s (inl l) = by_length s l (by-test (eqb (length f) (length_for (N f))) (eqb→eq _ _) (eq-in _ _))
      by-limits s (inr l) = inr (2, 0, limits s l)

      by-six : (length f < 6) ⊎ (6 ≤ length f) → Verdict f
      by-six (inl h) = inr (1, 0, short h)
      by-six (inr s) = by-limits s (by-test (limits_test f) (limits-out f) (limits-in f))

-- ---- exact both ways

module _ {A : Type 0} (a : A) (f : List ℕ) where
  pub refused-exact : (n p : ℕ) → ◌≡◌ {A = Outcome A} (read f a) (refused n p) ↔ Refused f n p
  refused-exact n p = (λ e. go e (verdict f), refused-read a f)
    where
      go : ◌≡◌ {A = Outcome A} (read f a) (refused n p) → Verdict f → Refused f n p
      go e (inl c) = let x = accepted-read a f c in let z : ◌≡◌ {A = ℕ} 0 1 = cc in absurd (omega arith)
      go e (inr (k, q, r)) =
          let x = refused-read a f r in
          let u : k ≡ n = cc in
          let v : q ≡ p = cc in
          subst (λ (y : ℕ). Refused f n y) v (subst (λ (y : ℕ). Refused f y q) u r)

  pub accepted-exact : ◌≡◌ {A = Outcome A} (read f a) (done a) ↔ Accepted f
  accepted-exact = (λ e. go e (verdict f), accepted-read a f)
    where
      go : ◌≡◌ {A = Outcome A} (read f a) (done a) → Verdict f → Accepted f
      go e (inl c) = c
      go e (inr (k, q, r)) = let x = refused-read a f r in let z : ◌≡◌ {A = ℕ} 0 1 = cc in absurd (omega arith)

-- ---- 17

module _ (f : List ℕ) where
  -- credential i and all before it are as 17 has them
  abbrev WrongSerial : ℕ → Type 0
  WrongSerial i = Head f × (i < N f) × GoodBelow f i × (field f i 0 ≤ 5) × Ranges f i × Zeros f i × Dated f i × Taken f i

  seventeen-out : {n i : ℕ} → Refused f n i → n ≡ 17 → WrongSerial i
  seventeen-out (short h) e = absurd (omega arith)
  seventeen-out (limits h l) e = absurd (omega arith)
  seventeen-out (wrong_length h l q) e = absurd (omega arith)
  seventeen-out (kind i r h) e = absurd (omega arith)
  seventeen-out (range i r k h) e = absurd (omega arith)
  seventeen-out (unused i r k s h) e = absurd (omega arith)
  seventeen-out (period i r k s z h) e = absurd (omega arith)
  seventeen-out (serial i r k s z d h) e = (r.head, r.below, r.good, k, s, z, d, h)
  seventeen-out (too_many_ends h g l) e = absurd (omega arith)

  pub seventeen-exact : {A : Type 0} (a : A) (i : ℕ) → ◌≡◌ {A = Outcome A} (read f a) (refused 17 i) ↔ WrongSerial i
  seventeen-exact a i = (
    (λ e. seventeen-out ((refused-exact a f 17 i).0 e) refl),
    λ (h, l, g, k, s, z, d, t). refused-read a f (serial i (record { head = h; below = l; good = g }) k s z d t),
  )

-- ---- their numbers

pub refused-of-file : (f : List ℕ) {n p : ℕ} → Refused f n p → T (of_file n)
refused-of-file f (short h) = tt
refused-of-file f (limits h l) = tt
refused-of-file f (wrong_length h l e) = tt
refused-of-file f (kind i r h) = tt
refused-of-file f (range i r k h) = tt
refused-of-file f (unused i r k s h) = tt
refused-of-file f (period i r k s z h) = tt
refused-of-file f (serial i r k s z d h) = tt
refused-of-file f (too_many_ends h g l) = tt

-- they are not 0
pub refused-some : (f : List ℕ) {n p : ℕ} → Refused f n p → 1 ≤ n
refused-some f {n} r = go n (refused-of-file f r)
  where
    go : (n : ℕ) → T (of_file n) → 1 ≤ n
    go zero t = absurd t
    go (suc n) t = omega arith

-- a number that is none of them is not the number of a file's refusal
pub not-of-file : (f : List ℕ) {n p : ℕ} → Refused f n p → (m : ℕ) → T (not (of_file m)) → ¬ (n ≡ m)
not-of-file f r m t e = T_not (of_file m) t (subst (λ (k : ℕ). T (of_file k)) e (refused-of-file f r))

-- ---- 8

module _ (f : List ℕ) where
  -- 8 is given after 1 to 7 and 17
  pub eight-readable : {n p : ℕ} → Refused f n p → n ≡ 8 → Head f × GoodBelow f (N f)
  eight-readable (short h) e = absurd (omega arith)
  eight-readable (limits h l) e = absurd (omega arith)
  eight-readable (wrong_length h l q) e = absurd (omega arith)
  eight-readable (kind i r h) e = absurd (omega arith)
  eight-readable (range i r k h) e = absurd (omega arith)
  eight-readable (unused i r k s h) e = absurd (omega arith)
  eight-readable (period i r k s z h) e = absurd (omega arith)
  eight-readable (serial i r k s z d h) e = absurd (omega arith)
  eight-readable (too_many_ends h g l) e = (h, g)

  -- rows of 1 to 7 and 17 none of which holds
  pub clear-readable : first_number (head_rows f ++ credentials_rows f) ≡ 0 → Head f × GoodBelow f (N f)
  clear-readable e = go (verdict f)
    where
      refuses : {n p : ℕ} → Refused f n p → ¬ (n ≡ 8) → ⊥
      refuses {n} {p} r h =
          let s = refused-some f r in
          let x : first_number (head_rows f ++ (credentials_rows f ++ [])) ≡ n = ap (λ (o : Outcome ℕ). number_of o) (refused-before {A = ℕ} 0 f [] r h) in
          let y = ap (λ (rows : List RefusalRow). first_number (head_rows f ++ rows)) (append-nil (credentials_rows f)) in
          absurd (omega arith)

      go : Verdict f → Head f × GoodBelow f (N f)
      go (inl c) = (c.head, c.good)
      go (inr (n, p, r)) = dite (ℕ_discrete n 8) (λ q. eight-readable r q) (λ q. absurd (refuses r q))

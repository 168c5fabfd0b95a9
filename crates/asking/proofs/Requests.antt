-- Refusals 9, 11 and 12 of a request are given exactly under the documents' conditions.
use mathlib.Core.Path.{◌≡◌, refl, sym, ap, ◌∙◌, subst, subst⁻¹}
use mathlib.Core.Logic.{◌⊎◌, inl, inr, ◌↔◌}
use mathlib.Core.Bool.{Bool, ◌&&◌, not}
use mathlib.Core.List.{List, [], ◌∷◌, ◌++◌}
use Prim.Native.Nat.{ℕ}
use native.Mathlib.Omega.{arith}
use lib.Dec.{T, eqb, leb, eqb→eq, leb→le, le→leb, T_not, not_T}
use lib.ListN.{length}
use Rattle.meaning.specs.Lists.{all}
use Rattle.meaning.proofs.Tests.{and_in, and_left, and_right, is_true, eq-in}
use Rattle.file.specs.Refusals.{RefusalRow, Outcome, done, refused, first, ◌when◌}
use Rattle.file.specs.Reading.{between}
use Rattle.file.proofs.First.{after, first-append}
use Rattle.file.proofs.Refusals.{pass, give, by-test}
use Rattle.withdrawals.specs.Source.{Source, reading}
use Rattle.withdrawals.specs.Conditions.{Accepted}
use Rattle.withdrawals.proofs.Refusals.{accepted-read, refused-read, not-of-source, Verdict, verdict}
use Rattle.asking.specs.Asking.{Request, StepLists, size, one_length, within, request_rows, asking, Askable}
use Rattle.asking.specs.Conditions.{OneLength, Numbers, RefusedRequest, file, lengths, numbers, minute}
use Rattle.asking.proofs.Asked.{first-number, asking-done, askable-passes, within-bits}

ruleset parts = (and_left, and_right, leb→le, eqb→eq)

-- ---- the tests and the conditions

module _ (t : StepLists) where
  pub lengths-out : T (one_length t) → OneLength t
  lengths-out u = record { first = search parts; second = search parts; sets = search parts; limits = (search parts, search parts) }

  lengths-in : OneLength t → T (one_length t)
  lengths-in o =
      and_in (eqb (length t.first) (size t) && eqb (length t.second) (size t) && eqb (length t.sets) (size t)) (between 1 1024 (size t))
      (and_in (eqb (length t.first) (size t) && eqb (length t.second) (size t)) (eqb (length t.sets) (size t))
      (and_in (eqb (length t.first) (size t)) (eqb (length t.second) (size t)) (eq-in _ _ o.first) (eq-in _ _ o.second)) (eq-in _ _ o.sets))
      (and_in (leb 1 (size t)) (leb (size t) 1024) (le→leb _ _ o.limits.0) (le→leb _ _ o.limits.1))

module _ (f : Source) (q : Request) where
  abbrev inside : Bool
  inside = within f q.role q.set

  abbrev some : Bool
  some = not (eqb q.set 0)

  numbers-out : T (inside && some) → Numbers f q
  numbers-out u =
      let (i, n, e) = (within-bits f q.role q.set).0 (is_true inside (and_left inside some u)) in
      record { issuer = i; name = n; some = λ z. T_not (eqb q.set 0) (and_right inside some u) (eq-in _ _ z); entities = e }

  numbers-in : Numbers f q → T (inside && some)
  numbers-in n =
      and_in inside some (subst⁻¹ T ((within-bits f q.role q.set).1 (n.issuer, n.name, n.entities)) tt)
      (not_T (eqb q.set 0) (λ z. n.some (eqb→eq _ _ z)))

-- ---- the conditions give the refusals

module _ (f : Source) (q : Request) (t : StepLists) where
  abbrev lengths_row : RefusalRow
  lengths_row = 9 when (not (one_length t))

  abbrev numbers_row : RefusalRow
  numbers_row = 11 when (not (inside f q && some f q))

  abbrev minute_row : RefusalRow
  minute_row = 12 when (eqb q.minute 4294967295)

  module _ {A : Type 0} (a : A) where
    accepted-passes : Accepted f → first (asking f q t) a ≡ first (request_rows f q t) a
    unfolding asking
    accepted-passes c =
        first-append {A = A} {B = A} (reading f) (request_rows f q t) a a ∙ ap (λ (o : Outcome A). after {A = A} {B = A} o (first (request_rows f q t) a)) (accepted-read a f c)

    lengths-pass : OneLength t → first (request_rows f q t) a ≡ first (numbers_row ∷ minute_row ∷ []) a
    lengths-pass o = pass a lengths_row (numbers_row ∷ minute_row ∷ []) (λ h. T_not (one_length t) h (lengths-in t o))

    numbers-pass : Numbers f q → first (numbers_row ∷ minute_row ∷ []) a ≡ first (minute_row ∷ []) a
    numbers-pass n = pass a numbers_row (minute_row ∷ []) (λ h. T_not (inside f q && some f q) h (numbers-in f q n))

    pub request-refused : {n p : ℕ} → RefusedRequest f q t n p → ◌≡◌ {A = Outcome A} (first (asking f q t) a) (refused n p)
    unfolding asking
    request-refused (file r) =
        first-append {A = A} {B = A} (reading f) (request_rows f q t) a a ∙ ap (λ (o : Outcome A). after {A = A} {B = A} o (first (request_rows f q t) a)) (refused-read a f r)
    request-refused (lengths c h) = accepted-passes c ∙ give a lengths_row (numbers_row ∷ minute_row ∷ []) (not_T (one_length t) (λ u. h (lengths-out t u)))
    request-refused (numbers c o h) = accepted-passes c ∙ lengths-pass o ∙ give a numbers_row (minute_row ∷ []) (not_T (inside f q && some f q) (λ u. h (numbers-out f q u)))
    request-refused (minute c o n e) = accepted-passes c ∙ lengths-pass o ∙ numbers-pass n ∙ give a minute_row [] (eq-in _ _ e)

  -- ---- one of the conditions holds, or the request is askable

  abbrev pub RequestVerdict : Type 0
  RequestVerdict = Askable f q t ⊎ ((n p : ℕ) × RefusedRequest f q t n p)

  pub request-verdict : RequestVerdict
  request-verdict = by-file (verdict f)
    where
      by-minute : Accepted f → T (one_length t) → T (inside f q && some f q) → (q.minute ≡ 4294967295) ⊎ (¬ (q.minute ≡ 4294967295)) → RequestVerdict
      by-minute c o n (inl e) = inr (12, 0, minute c (lengths-out t o) (numbers-out f q n) e)
      by-minute c o n (inr e) = inl (record {
        accepted = c;
        lists = is_true (one_length t) o;
        within = is_true (inside f q) (and_left (inside f q) (some f q) n);
        some = (numbers-out f q n).some;
        minute = e;
      })

      by-numbers : Accepted f → T (one_length t) → T (inside f q && some f q) ⊎ (¬ T (inside f q && some f q)) → RequestVerdict
      by-numbers c o (inl n) = by-minute c o n (by-test (eqb q.minute 4294967295) (eqb→eq _ _) (eq-in _ _))
      by-numbers c o (inr h) = inr (11, 0, numbers c (lengths-out t o) (λ n. h (numbers-in f q n)))

      by_lengths : Accepted f → T (one_length t) ⊎ (¬ T (one_length t)) → RequestVerdict
      by_lengths c (inl o) = by-numbers c o (by-test (inside f q && some f q) (λ u. u) (λ u. u))
      by_lengths c (inr h) = inr (9, 0, lengths c (λ o. h (lengths-in t o)))

      by-file : Verdict f → RequestVerdict
      by-file (inl c) = by_lengths c (by-test (one_length t) (λ u. u) (λ u. u))
      by-file (inr (n, p, r)) = inr (n, p, file r)

  pub askable-exact : {A : Type 0} (a : A) → ◌≡◌ {A = Outcome A} (first (asking f q t) a) (done a) ↔ Askable f q t
  askable-exact {A} a = (λ e. go e request-verdict, λ k. asking-done f q t k a)
    where
      go : ◌≡◌ {A = Outcome A} (first (asking f q t) a) (done a) → RequestVerdict → Askable f q t
      go e (inl k) = k
      go e (inr (n, p, r)) = let x = request-refused a r in let z : ◌≡◌ {A = ℕ} 0 1 = cc in absurd (omega arith)

  -- ---- exact both ways, of every call whose further rows have other numbers

  module _ {A : Type 0} (a : A) (more : List RefusalRow) where
    pub call-refused : {n p : ℕ} → RefusedRequest f q t n p → ◌≡◌ {A = Outcome A} (first (asking f q t ++ more) a) (refused n p)
    call-refused r =
        first-append {A = A} {B = A} (asking f q t) more a a ∙ ap (λ (o : Outcome A). after {A = A} {B = A} o (first more a)) (request-refused a r)

    pub call-exact : (n p : ℕ) → T (all (λ (r : RefusalRow). not (eqb r.number n)) more) → ◌≡◌ {A = Outcome A} (first (asking f q t ++ more) a) (refused n p) ↔ RefusedRequest f q t n p
    call-exact n p other = (λ e. go e request-verdict, call-refused)
      where
        go : ◌≡◌ {A = Outcome A} (first (asking f q t ++ more) a) (refused n p) → RequestVerdict → RefusedRequest f q t n p
        go e (inl k) =
            absurd (T_not (eqb n n) (first-number (λ (m : ℕ). not (eqb m n)) more a other (sym (askable-passes f q t k more a) ∙ e)) (eq-in n n refl))
        go e (inr (k, o, r)) =
            let x = call-refused r in
            let u : k ≡ n = cc in
            let v : o ≡ p = cc in
            subst (λ (y : ℕ). RefusedRequest f q t n y) v (subst (λ (y : ℕ). RefusedRequest f q t y o) u r)

-- ---- the conditions by number

module _ (f : Source) (q : Request) (t : StepLists) where
  nine-out : {n p : ℕ} → RefusedRequest f q t n p → n ≡ 9 → Accepted f × ¬ OneLength t
  nine-out (file r) e = absurd (not-of-source f r 9 tt e)
  nine-out (lengths c h) e = (c, h)
  nine-out (numbers c o h) e = absurd (omega arith)
  nine-out (minute c o n m) e = absurd (omega arith)

  eleven-out : {n p : ℕ} → RefusedRequest f q t n p → n ≡ 11 → Accepted f × OneLength t × ¬ Numbers f q
  eleven-out (file r) e = absurd (not-of-source f r 11 tt e)
  eleven-out (lengths c h) e = absurd (omega arith)
  eleven-out (numbers c o h) e = (c, o, h)
  eleven-out (minute c o n m) e = absurd (omega arith)

  twelve-out : {n p : ℕ} → RefusedRequest f q t n p → n ≡ 12 → Accepted f × OneLength t × Numbers f q × (q.minute ≡ 4294967295)
  twelve-out (file r) e = absurd (not-of-source f r 12 tt e)
  twelve-out (lengths c h) e = absurd (omega arith)
  twelve-out (numbers c o h) e = absurd (omega arith)
  twelve-out (minute c o n m) e = (c, o, n, m)

  pub nine : RefusedRequest f q t 9 0 ↔ (Accepted f × ¬ OneLength t)
  nine = ((λ r. nine-out r refl), λ (c, h). lengths c h)

  pub eleven : RefusedRequest f q t 11 0 ↔ (Accepted f × OneLength t × ¬ Numbers f q)
  eleven = ((λ r. eleven-out r refl), λ (c, o, h). numbers c o h)

  pub twelve : RefusedRequest f q t 12 0 ↔ (Accepted f × OneLength t × Numbers f q × (q.minute ≡ 4294967295))
  twelve = ((λ r. twelve-out r refl), λ (c, o, n, m). minute c o n m)

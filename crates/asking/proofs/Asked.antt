-- What the first refusal of a request says of every call that takes one: the call refuses with it, or goes on where there is none.
use mathlib.Core.Path.{◌≡◌, refl, sym, ap, ◌∙◌, subst, subst⁻¹}
use mathlib.Core.Logic.{◌↔◌, dite}
use mathlib.Core.Bool.{Bool, true, false, ◌&&◌, not}
use mathlib.Core.List.{List, [], ◌∷◌, ◌++◌}
use Prim.Native.Nat.{ℕ, ◌/◌, ◌%◌, ◌^◌, ◌≤◌, ◌<◌}
use native.Mathlib.Decide.{ℕ_discrete}
use native.Mathlib.Nat.{lt_of_not-le}
use native.Mathlib.Omega.{arith}
use lib.Dec.{T, eqb, leb, ltb, ltb→lt, lt→ltb, eqb→eq, leb→le, T_not}
use lib.ListN.{length}
use borrow.Author.Tests.{ne_eqb}
use Rattle.meaning.specs.Lists.{all, each, below}
use Rattle.meaning.specs.Table.{bit}
use Rattle.meaning.proofs.Tests.{and_in, and_left, and_right, is_true, eq-in}
use Rattle.meaning.proofs.Bits.{bit-below-two, bit-above, bits_below}
use Rattle.file.specs.declared.Refusal.{Refusal}
use Rattle.file.specs.Refusals.{RefusalRow, Outcome, done, refused, first}
use Rattle.file.specs.Values.{refusal_of, first_refusal}
use Rattle.file.specs.Reading.{between, head_rows, check_rows, credentials_rows}
use Rattle.file.proofs.First.{after, numbered, none_holds, first-append, first-clear, first_holds, holds-first, numbered-append, not-not}
use Rattle.withdrawals.specs.Source.{Source, E, R, N, list_rows, ends_row, reading}
use Rattle.withdrawals.proofs.Credentials.{reading-numbered}
use Rattle.withdrawals.proofs.Refusals.{accepted-read, accepted-exact}
use Rattle.asking.specs.Asking.{Request, StepLists, size, one_length, within, request_rows, asking, Askable}
use Rattle.asking.specs.Conditions.{of_request}

-- ---- rows and their numbers

module _ {A : Type 0} (p : A → Bool) where
  pub all_append : (xs ys : List A) → T (all p xs) → T (all p ys) → T (all p (xs ++ ys))
  all_append [] ys s t = t
  all_append (x ∷ xs) ys s t =
      and_in (p x) (all p (xs ++ ys)) (and_left (p x) (all p xs) s) (all_append xs ys (and_right (p x) (all p xs) s) t)

  all-each : {B : Type 0} (g : B → List A) (l : List B) → ((y : B) → T (all p (g y))) → T (all p (each g l))
  all-each g [] h = tt
  all-each g (y ∷ l) h = all_append (g y) (each g l) (h y) (all-each g l h)

  pub all_left : (xs ys : List A) → T (all p (xs ++ ys)) → T (all p xs)
  all_left [] ys t = tt
  all_left (x ∷ xs) ys t =
      and_in (p x) (all p xs) (and_left (p x) (all p (xs ++ ys)) t) (all_left xs ys (and_right (p x) (all p (xs ++ ys)) t))

  pub all_right : (xs ys : List A) → T (all p (xs ++ ys)) → T (all p ys)
  all_right [] ys t = t
  all_right (x ∷ xs) ys t = all_right xs ys (and_right (p x) (all p (xs ++ ys)) t)

-- a refusal has the number of one of the rows
pub first-number : {A : Type 0} (test : ℕ → Bool) (rows : List RefusalRow) (a : A) {n p : ℕ} → T (all (λ (r : RefusalRow). test r.number) rows) → first rows a ≡ refused n p → T (test n)
first-number test [] a t e = let z : ◌≡◌ {A = ℕ} 0 1 = cc in absurd (omega arith)
first-number {A} test (x ∷ rows) a {n} {p} t e =
    go x.holds e (first-number test rows a (and_right (test x.number) (all (λ (r : RefusalRow). test r.number) rows) t))
  where
    go : (h : Bool) → ◌≡◌ {A = Outcome A} (elim h [ true ↦ refused x.number x.place | false ↦ first rows a ]) (refused n p) → (first rows a ≡ refused n p → T (test n)) → T (test n)
    go true e f =
        let q : x.number ≡ n = cc in
        subst (λ (k : ℕ). T (test k)) q (and_left (test x.number) (all (λ (r : RefusalRow). test r.number) rows) t)
    go false e f = f e

-- ---- rows that come first, by their first refusal

module _ (rows : List RefusalRow) (r : Refusal) (e : r ≡ first_refusal rows) where
  rows-refused : (r.number ≡ 0 → ⊥) → {B : Type 0} (more : List RefusalRow) (b : B) → first (rows ++ more) b ≡ refused r.number r.place
  rows-refused h {B} more b = first-append {A = ℕ} {B = B} rows more 0 b ∙ go (first rows 0) e
    where
      go : (o : Outcome ℕ) → r ≡ refusal_of o → ◌≡◌ {A = Outcome B} (after o (first more b)) (refused r.number r.place)
      go (done n) e = absurd (h (ap (λ (x : Refusal). x.number) e))
      go (refused n p) e = λ j. refused (sym e j).number (sym e j).place

  rows-clear : T (numbered rows) → r.number ≡ 0 → {B : Type 0} (b : B) → first rows b ≡ done b
  rows-clear t z b = first-clear rows b t (sym (ap (λ (x : Refusal). x.number) e) ∙ z)

rows-passed : {B : Type 0} (rows more : List RefusalRow) (b : B) → first rows b ≡ done b → first (rows ++ more) b ≡ first more b
rows-passed {B} rows more b e =
    first-append {A = B} {B = B} rows more b b ∙ ap (λ (o : Outcome B). after {A = B} {B = B} o (first more b)) e

-- ---- their numbers

abbrev request_row : RefusalRow → Bool
request_row r = of_request r.number

reading-numbers : (f : Source) → T (all request_row (reading f))
unfolding reading
reading-numbers f =
    all_append request_row (head_rows f.file) (credentials_rows f.file ++ (list_rows f ++ ends_row f ∷ [])) tt
    (all_append request_row (credentials_rows f.file) (list_rows f ++ ends_row f ∷ []) (all-each request_row (check_rows f.file) (below (N f)) (λ i. tt)) tt)

-- ---- a request

module _ (f : Source) (q : Request) (t : StepLists) where
  asking-numbered : T (numbered (asking f q t))
  unfolding asking
  asking-numbered = numbered-append (reading f) (request_rows f q t) (reading-numbered f) tt

  asking-numbers : T (all request_row (asking f q t))
  unfolding asking
  asking-numbers = all_append request_row (reading f) (request_rows f q t) (reading-numbers f) tt

  pub asking-done : Askable f q t → {B : Type 0} (b : B) → first (asking f q t) b ≡ done b
  unfolding asking
  asking-done k b =
      rows-passed (reading f) (request_rows f q t) b (accepted-read b f k.accepted)
      ∙ rw (k.lists, k.within, ne_eqb _ _ k.some, ne_eqb _ _ k.minute) refl

  -- A request that is askable is refused nothing: the rows that follow decide.
  pub askable-passes : Askable f q t → {B : Type 0} (more : List RefusalRow) (b : B) → first (asking f q t ++ more) b ≡ first more b
  askable-passes k more b = rows-passed (asking f q t) more b (asking-done k b)

  module _ (r : Refusal) (e : r ≡ first_refusal (asking f q t)) where
    -- A refusal of the request is the answer of every call that takes it.
    pub asked-refused : (r.number ≡ 0 → ⊥) → {B : Type 0} (more : List RefusalRow) (b : B) → first (asking f q t ++ more) b ≡ refused r.number r.place
    asked-refused = rows-refused (asking f q t) r e

    -- Without one the rows that follow decide.
    pub asked-passed : r.number ≡ 0 → {B : Type 0} (more : List RefusalRow) (b : B) → first (asking f q t ++ more) b ≡ first more b
    asked-passed z more b = rows-passed (asking f q t) more b (rows-clear (asking f q t) r e asking-numbered z b)

    -- Without one the request is askable.
    pub askable : r.number ≡ 0 → Askable f q t
    unfolding asking
    askable z =
        let none : T (none_holds (asking f q t)) = first_holds {A = ℕ} (asking f q t) 0 0 (rows-clear (asking f q t) r e asking-numbered z 0) in
        let h = all_left (λ (x : RefusalRow). not x.holds) (reading f) (request_rows f q t) none in
        let u = all_right (λ (x : RefusalRow). not x.holds) (reading f) (request_rows f q t) none in
        let a : Bool = one_length t in
        let w : Bool = within f q.role q.set in
        let s : Bool = not (eqb q.set 0) in
        let m : Bool = not (eqb q.minute 4294967295) in
        let v = and_right (not (not a)) (not (not (w && s)) && (m && true)) u in
        let ws = not-not (w && s) (and_left (not (not (w && s))) (m && true) v) in
        record {
          accepted = (accepted-exact {A = ℕ} 0 f).0 (holds-first (reading f) 0 h);
          lists = is_true a (not-not a (and_left (not (not a)) (not (not (w && s)) && (m && true)) u));
          within = is_true w (and_left w s ws);
          some = λ i. T_not (eqb q.set 0) (and_right w s ws) (eq-in _ _ i);
          minute = λ i. T_not (eqb q.minute 4294967295) (and_left m true (and_right (not (not (w && s))) (m && true) v)) (eq-in _ _ i);
        }

    -- A refusal of the request is one of a file's with its withdrawals, 9, 11 or 12; so it is neither 10 nor 13, which clear lists.
    pub asked-number : (r.number ≡ 0 → ⊥) → T (of_request r.number)
    asked-number h =
        first-number {A = ℕ} of_request (asking f q t ++ []) 0 {n = r.number} {p = r.place} (all_append request_row (asking f q t) [] asking-numbers tt) (asked-refused h {B = ℕ} [] 0)

-- ---- the lengths

-- lists of one length
pub same-lengths : (t : StepLists) → one_length t ≡ true → (length t.first ≡ size t) × (length t.second ≡ size t) × (length t.sets ≡ size t) × (size t ≤ 1024)
same-lengths t e = (
  eqb→eq (length t.first) (size t) (and_left a b ab),
  eqb→eq (length t.second) (size t) (and_right a b ab),
  eqb→eq (length t.sets) (size t) (and_right (a && b) c abc),
  leb→le (size t) 1024 (and_right (leb 1 (size t)) (leb (size t) 1024) (and_right (a && b && c) (between 1 1024 (size t)) all)),
)
  where
    a : Bool
    a = eqb (length t.first) (size t)

    b : Bool
    b = eqb (length t.second) (size t)

    c : Bool
    c = eqb (length t.sets) (size t)

    all : T (a && b && c && between 1 1024 (size t))
    all = subst⁻¹ T e tt

    abc : T (a && b && c)
    abc = and_left (a && b && c) (between 1 1024 (size t)) all

    ab : T (a && b)
    ab = and_left (a && b) c abc

-- ---- within the file's numbers

module _ (f : Source) (Ar X : ℕ) where
  -- issuer, name and every entity of the set
  abbrev pub Within : Type 0
  Within = (Ar / 32 < E f) × (Ar % 32 < R f) × ((e : ℕ) → bit X e ≡ 1 → e < E f)

  -- The test of the numbers says just that of the issuer, of the name and of each entity of the set.
  pub within-bits : within f Ar X ≡ true ↔ Within
  within-bits = (out, into)
    where
      a : Bool
      a = ltb (Ar / 32) (E f)

      b : Bool
      b = ltb (Ar % 32) (R f)

      c : Bool
      c = ltb X (2 ^ E f)

      out : within f Ar X ≡ true → Within
      out w =
          let t : T (a && b && c) = subst⁻¹ T w tt in
          let ab = and_left (a && b) c t in
          let l = ltb→lt X (2 ^ E f) (and_right (a && b) c t) in (
            ltb→lt (Ar / 32) (E f) (and_left a b ab),
            ltb→lt (Ar % 32) (R f) (and_right a b ab),
            λ e o. lt_of_not-le (λ h. omega (arith, o, bit-above X (E f) e l h)),
          )

      into : Within → within f Ar X ≡ true
      into (h, k, m) =
          is_true (a && b && c)
          (and_in (a && b) c (and_in a b (lt→ltb (Ar / 32) (E f) h) (lt→ltb (Ar % 32) (R f) k))
          (lt→ltb X (2 ^ E f) (bits_below (E f) X (λ i l. dite (ℕ_discrete (bit X i) 1) (λ o. absurd (omega (arith, m i o))) (λ z. omega (arith, bit-below-two X i))))))

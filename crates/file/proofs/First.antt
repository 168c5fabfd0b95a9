-- Laws of `first`: rows joined, the answer from the refusal alone, and rows none of which holds.
use mathlib.Core.Path.{◌≡◌, refl, ap, ◌∙◌, subst}
use mathlib.Core.Logic.{dite}
use mathlib.Core.Bool.{Bool, true, false, ◌&&◌, not}
use mathlib.Core.List.{List, [], ◌∷◌, ◌++◌}
use Prim.Native.Nat.{ℕ}
use native.Mathlib.Omega.{arith}
use native.Mathlib.Decide.{ℕ_discrete}
use lib.Dec.{T, eqb, eqb→eq}
use borrow.Author.Tests.{eq-eqb, ne_eqb}
use Rattle.meaning.specs.Lists.{if, all, each}
use Rattle.meaning.proofs.Tests.{and_in, and_left, and_right}
use Rattle.file.specs.declared.Refusal.{Refusal}
use Rattle.file.specs.Refusals.{RefusalRow, Outcome, done, refused, first}
use Rattle.file.specs.Values.{refusal_of, first_refusal, first_number}

-- the second answer where the first is no refusal
abbrev pub after : {A B : Type 0} → Outcome A → Outcome B → Outcome B
after (done a) o = o
after (refused n p) o = refused n p

-- the answer that a refusal's number and place leave; number 0 is none
abbrev pub outcome_of : {A : Type 0} → Refusal → A → Outcome A
outcome_of r a = if (eqb r.number 0) (done a) (refused r.number r.place)

abbrev pub numbered : List RefusalRow → Bool
numbered rows = all (λ r. not (eqb r.number 0)) rows

abbrev pub none_holds : List RefusalRow → Bool
none_holds rows = all (λ r. not r.holds) rows

abbrev pub all_at : ℕ → List RefusalRow → Bool
all_at p rows = all (λ r. eqb r.place p) rows

module _ {A B : Type 0} where
  step : (h : Bool) (n p : ℕ) (u : Outcome A) (v w : Outcome B) → w ≡ after u v
      → ◌≡◌ {A = Outcome B} (elim h [ true ↦ refused n p | false ↦ w ]) (after {A = A} {B = B} (elim h [ true ↦ refused n p | false ↦ u ]) v)
  step true n p u v w e = refl
  step false n p u v w e = e

  pub first-append : (xs ys : List RefusalRow) (a : A) (b : B) → first (xs ++ ys) b ≡ after (first xs a) (first ys b)
  first-append [] ys a b = refl
  first-append (x ∷ xs) ys a b =
      step x.holds x.number x.place (first xs a) (first ys b) (first (xs ++ ys) b) (first-append xs ys a b)

  pub first_any : (rows : List RefusalRow) (a : A) (b : B) → first rows b ≡ after (first rows a) (done b)
  first_any [] a b = refl
  first_any (x ∷ xs) a b = step x.holds x.number x.place (first xs a) (done b) (first xs b) (first_any xs a b)

-- an answer's refusal does not depend on the value on success
pub refusal-any : {A : Type 0} (rows : List RefusalRow) (a : A) → refusal_of (first rows a) ≡ first_refusal rows
refusal-any {A} rows a = ap refusal_of (first_any {A = ℕ} {B = A} rows 0 a) ∙ go (first rows 0)
  where
    go : (o : Outcome ℕ) → refusal_of (after o (done a)) ≡ refusal_of o
    go (done n) = refl
    go (refused n p) = refl

pub not-not : (b : Bool) → T (not (not b)) → T b
not-not true t = t
not-not false t = t

not-zero : (n : ℕ) (b : Bool) → T (not (eqb n 0) && b) → n ≡ 0 → ⊥
not-zero n b t e = subst (λ (x : Bool). T (not x && b)) (eq-eqb n 0 e) t

-- Rows that have numbers refuse nothing where the number is 0.
pub first-clear : {A : Type 0} (rows : List RefusalRow) (a : A) → T (numbered rows) → first_number rows ≡ 0 → first rows a ≡ done a
first-clear [] a t e = refl
first-clear (x ∷ xs) a t e = go x.holds e (first-clear xs a (and_right (not (eqb x.number 0)) (numbered xs) t))
  where
    go : (h : Bool) → (refusal_of {A = ℕ} (elim h [ true ↦ refused x.number x.place | false ↦ first xs 0 ])).number ≡ 0 → (first_number xs ≡ 0 → first xs a ≡ done a)
        → ◌≡◌ {A = Outcome _} (elim h [ true ↦ refused x.number x.place | false ↦ first xs a ]) (done a)
    go true e f = absurd (not-zero x.number (numbered xs) t e)
    go false e f = f e

-- where nothing is refused, no row holds, and the other way round
pub first_holds : {A : Type 0} (rows : List RefusalRow) (a b : A) → first rows a ≡ done b → T (none_holds rows)
first_holds [] a b e = tt
first_holds (x ∷ xs) a b e = go x.holds e (first_holds xs a b)
  where
    go : (h : Bool) → ◌≡◌ {A = Outcome _} (elim h [ true ↦ refused x.number x.place | false ↦ first xs a ]) (done b) → (first xs a ≡ done b → T (none_holds xs))
        → T (not h && none_holds xs)
    go true e f = let z : ◌≡◌ {A = ℕ} 0 1 = cc in absurd (omega arith)
    go false e f = f e

pub holds-first : {A : Type 0} (rows : List RefusalRow) (a : A) → T (none_holds rows) → first rows a ≡ done a
holds-first [] a t = refl
holds-first (x ∷ xs) a t = go x.holds t (holds-first xs a)
  where
    go : (h : Bool) → T (not h && none_holds xs) → (T (none_holds xs) → first xs a ≡ done a)
        → ◌≡◌ {A = Outcome _} (elim h [ true ↦ refused x.number x.place | false ↦ first xs a ]) (done a)
    go true t f = absurd t
    go false t f = f t

-- number 0 exactly where no row holds
pub clear-holds : (rows : List RefusalRow) → T (numbered rows) → first_number rows ≡ 0 → T (none_holds rows)
clear-holds rows t e = first_holds {A = ℕ} rows 0 0 (first-clear rows 0 t e)

-- the first rows decide, unless they are clear
pub refusal-stopped : (xs ys : List RefusalRow) → (first_number xs ≡ 0 → ⊥) → first_refusal (xs ++ ys) ≡ first_refusal xs
refusal-stopped xs ys h = ap refusal_of (first-append {A = ℕ} {B = ℕ} xs ys 0 0) ∙ go (first xs 0) h
  where
    go : (o : Outcome ℕ) → ((refusal_of o).number ≡ 0 → ⊥) → refusal_of {A = ℕ} (after o (first ys 0)) ≡ refusal_of o
    go (done n) h = absurd (h refl)
    go (refused n p) h = refl

pub refusal-passed : (xs ys : List RefusalRow) → T (numbered xs) → first_number xs ≡ 0 → first_refusal (xs ++ ys) ≡ first_refusal ys
refusal-passed xs ys t e =
    ap refusal_of (first-append {A = ℕ} {B = ℕ} xs ys 0 0)
    ∙ ap (λ (o : Outcome ℕ). refusal_of (after {A = ℕ} {B = ℕ} o (first ys 0))) (first-clear xs 0 t e)

-- the answer from the refusal alone
pub first-refusal : {A : Type 0} (rows : List RefusalRow) (a : A) → T (numbered rows) → first rows a ≡ outcome_of (first_refusal rows) a
first-refusal {A} rows a t =
    dite (ℕ_discrete (first_number rows) 0)
    (λ e. first-clear rows a t e ∙ simp (eq-eqb _ _ e))
    (λ h. first_any {A = ℕ} {B = A} rows 0 a ∙ go (first rows 0) h)
  where
    go : (o : Outcome ℕ) → ((refusal_of o).number ≡ 0 → ⊥) → after o (done a) ≡ outcome_of (refusal_of o) a
    go (done n) h = absurd (h refl)
    go (refused n p) h = simp (ne_eqb n 0 h)

-- rows of one place refuse at that place
pub refusal-at : (p : ℕ) (rows : List RefusalRow) → T (all_at p rows) → (first_number rows ≡ 0 → ⊥) → (first_refusal rows).place ≡ p
refusal-at p [] t h = absurd (h refl)
refusal-at p (x ∷ xs) t h = go x.holds h (refusal-at p xs (and_right (eqb x.place p) (all_at p xs) t))
  where
    go : (h : Bool) → ((refusal_of {A = ℕ} (elim h [ true ↦ refused x.number x.place | false ↦ first xs 0 ])).number ≡ 0 → ⊥)
        → ((first_number xs ≡ 0 → ⊥) → (first_refusal xs).place ≡ p)
        → (refusal_of {A = ℕ} (elim h [ true ↦ refused x.number x.place | false ↦ first xs 0 ])).place ≡ p
    go true h f = eqb→eq x.place p (and_left (eqb x.place p) (all_at p xs) t)
    go false h f = f h

pub refusal-number-at : (p : ℕ) (rows : List RefusalRow) → T (all_at p rows) → (first_number rows ≡ 0 → ⊥) → first_refusal rows ≡ record { number = first_number rows; place = p }
refusal-number-at p rows t h = ap (λ (q : ℕ). record { number = first_number rows; place = q }) (refusal-at p rows t h)

pub numbered-append : (xs ys : List RefusalRow) → T (numbered xs) → T (numbered ys) → T (numbered (xs ++ ys))
numbered-append [] ys s t = t
numbered-append (x ∷ xs) ys s t =
    let b : Bool = not (eqb x.number 0) in
    and_in b (numbered (xs ++ ys)) (and_left b (numbered xs) s) (numbered-append xs ys (and_right b (numbered xs) s) t)

pub numbered-each : {A : Type 0} (f : A → List RefusalRow) (xs : List A) → ((x : A) → T (numbered (f x))) → T (numbered (each f xs))
numbered-each f [] h = tt
numbered-each f (x ∷ xs) h = numbered-append (f x) (each f xs) (h x) (numbered-each f xs h)

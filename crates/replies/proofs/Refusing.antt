-- The refusals of a file with its withdrawals, then 9.
use mathlib.Core.Path.{◌≡◌, refl, sym, ap}
use mathlib.Core.Bool.{Bool, true, false, ◌||◌, not}
use mathlib.Core.List.{List, [], ◌∷◌, ◌++◌}
use Prim.Native.Nat.{ℕ, ◌+◌, ◌*◌}
use lib.Dec.{T, eqb, T_not}
use Rattle.meaning.specs.Lists.{all, each, below}
use Rattle.meaning.proofs.Tests.{and_left, and_right, is_false}
use Rattle.file.specs.Refusals.{RefusalRow, Outcome, refused, first, ◌when◌, writes}
use Rattle.file.specs.Reading.{head_rows, check_rows, credentials_rows}
use Rattle.withdrawals.specs.Source.{Source, N, list_rows, ends_row, reading}
use Rattle.ends.specs.declared.Ends.{Ends}
use Rattle.ends.specs.Ends.{ends_in}
use Rattle.asking.proofs.Asked.{all_append}
use Rattle.replies.specs.Interface.{word, not_whole}
use Rattle.replies.proofs.Files.{refused-first, accepted-first, ends-refused, ends-accepted}

-- where 9 holds, the rows after it and the value on success play no part
pub nine-decides : {A : Type 0} (rows more : List RefusalRow) (a b : A) → first (rows ++ (9 when true ∷ more)) a ≡ first (rows ++ (9 when true ∷ [])) b
nine-decides [] more a b = refl
nine-decides {A} (x ∷ rows) more a b =
    ap (λ (o : Outcome A). elim x.holds [ true ↦ refused x.number x.place | false ↦ o ]) (nine-decides rows more a b)

-- and the reply is a refusal, so its number does not depend on what a value is
pub nine-word : {A B : Type 0} (value : A → ℕ) (other : B → ℕ) (rows : List RefusalRow) (a : A) (b : B)
    → word value (first (rows ++ (9 when true ∷ [])) a) ≡ word other (first (rows ++ (9 when true ∷ [])) b)
nine-word value other [] a b = refl
nine-word {A} {B} value other (x ∷ rows) a b = go x.holds (nine-word value other rows a b)
  where
    go : (h : Bool) → word value (first (rows ++ (9 when true ∷ [])) a) ≡ word other (first (rows ++ (9 when true ∷ [])) b)
        → word {A = A} value (elim h [ true ↦ refused x.number x.place | false ↦ first (rows ++ (9 when true ∷ [])) a ])
        ≡ word {A = B} other (elim h [ true ↦ refused x.number x.place | false ↦ first (rows ++ (9 when true ∷ [])) b ])
    go true e = refl
    go false e = e

-- ---- neither the refusals of a file nor 9 write or clear a list

abbrev keeps : RefusalRow → Bool
keeps r = not (eqb r.number 10 || eqb r.number 13)

rows-keep : {A : Type 0} (rows : List RefusalRow) (a : A) → T (all keeps rows) → writes (first (rows ++ (9 when true ∷ [])) a) ≡ false
rows-keep [] a t = refl
rows-keep {A} (x ∷ rows) a t = go x.holds (rows-keep rows a (and_right (keeps x) (all keeps rows) t))
  where
    go : (h : Bool) → writes (first (rows ++ (9 when true ∷ [])) a) ≡ false → writes {A = A} (elim h [ true ↦ refused x.number x.place | false ↦ first (rows ++ (9 when true ∷ [])) a ]) ≡ false
    go true e = is_false (eqb x.number 10 || eqb x.number 13) (T_not (eqb x.number 10 || eqb x.number 13) (and_left (keeps x) (all keeps rows) t))
    go false e = e

each_keeps : {A : Type 0} (g : A → List RefusalRow) (l : List A) → ((y : A) → T (all keeps (g y))) → T (all keeps (each g l))
each_keeps g [] h = tt
each_keeps g (y ∷ l) h = all_append keeps (g y) (each g l) (h y) (each_keeps g l h)

reading-keeps : (f : Source) → T (all keeps (reading f))
unfolding reading
reading-keeps f =
    all_append keeps (head_rows f.file) (credentials_rows f.file ++ (list_rows f ++ ends_row f ∷ [])) tt
    (all_append keeps (credentials_rows f.file) (list_rows f ++ ends_row f ∷ []) (each_keeps (check_rows f.file) (below (N f)) (λ i. tt)) tt)

pub nine-keeps : {A : Type 0} (f : Source) (a : A) → writes (not_whole f a) ≡ false
nine-keeps f a = rows-keep (reading f) a (reading-keeps f)

-- ---- the reply by the file's ends

module _ (f : Source) (e : Ends) (u : e ≡ ends_in f) where
  abbrev nine : List RefusalRow
  nine = 9 when true ∷ []

  pub file-refused : (e.number ≡ 0 → ⊥) → e.number * 4294967296 + e.place ≡ word (λ n. n) (not_whole f 0)
  file-refused h = sym (ap (word (λ (n : ℕ). n)) (refused-first f nine 0 (ends-refused f e u h)))

  pub file-passed : e.number ≡ 0 → 9 * 4294967296 + 0 ≡ word (λ n. n) (not_whole f 0)
  file-passed z = sym (ap (word (λ (n : ℕ). n)) (accepted-first f nine 0 (ends-accepted f e u z).0))

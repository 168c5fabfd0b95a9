-- The rows of one credential, and of the credentials from one position on: what the first of them decides.
use mathlib.Core.Path.{◌≡◌, refl, ap, sym, ◌∙◌, subst⁻¹}
use mathlib.Core.Bool.{Bool, true, false, ◌&&◌}
use mathlib.Core.List.{List, [], ◌∷◌, ◌++◌}
use Prim.Native.Nat.{ℕ, suc, ◌+◌, ◌-◌, ◌<◌, ◌≤◌}
use native.Mathlib.Numerals.{add-one}
use native.Mathlib.Omega.{arith}
use lib.Dec.{T}
use borrow.Author.Tests.{eq-eqb}
use Rattle.meaning.specs.Lists.{each, up_from, below}
use Rattle.file.specs.Refusals.{RefusalRow, ◌at◌when◌}
use Rattle.file.specs.declared.Refusal.{Refusal}
use Rattle.file.specs.Format.{N}
use Rattle.file.specs.Reading.{taken, head_rows, credential_rows, serial_row, check_rows, credentials_rows, ends_row, reading}
use Rattle.file.specs.Values.{first_refusal, first_number}
use Rattle.file.proofs.First.{numbered, numbered-append, numbered-each, refusal-stopped, refusal-passed, refusal-number-at}

module _ (f : List ℕ) (i : ℕ) where
  -- 4 to 7 decide, and where they pass, 17 does
  pub check-fault : (first_number (credential_rows f i) ≡ 0 → ⊥) → first_number (check_rows f i) ≡ first_number (credential_rows f i)
  check-fault h = ap (λ (r : Refusal). r.number) (refusal-stopped (credential_rows f i) (serial_row f i ∷ []) h)

  module _ (e : first_number (credential_rows f i) ≡ 0) where
    check-serial : (b : Bool) → taken f i ≡ b → first_number (check_rows f i) ≡ first_number (17 at i when b ∷ [])
    check-serial b t =
        ap (λ (r : Refusal). r.number) (refusal-passed (credential_rows f i) (serial_row f i ∷ []) tt e)
        ∙ ap (λ (x : Bool). first_number (17 at i when x ∷ [])) t

    pub check-taken : taken f i ≡ true → first_number (check_rows f i) ≡ 17
    check-taken = check-serial true

    pub check-none : taken f i ≡ false → first_number (check_rows f i) ≡ 0
    check-none = check-serial false

  -- the rows of credential i and all after it
  abbrev pub rows_from : List RefusalRow
  rows_from = each (check_rows f) (up_from i (N f - i))

-- every row has a number
module _ (f : List ℕ) where
  pub credentials-numbered : T (numbered (credentials_rows f))
  credentials-numbered = numbered-each (check_rows f) (below (N f)) (λ i. tt)

  pub reading-numbered : T (numbered (reading f))
  unfolding reading
  reading-numbered = numbered-append (head_rows f) (credentials_rows f ++ ends_row f ∷ []) tt (numbered-append (credentials_rows f) (ends_row f ∷ []) credentials-numbered tt)

module _ (f : List ℕ) where
  pub rows_start : first_refusal (credentials_rows f) ≡ first_refusal (rows_from f 0)
  rows_start = let e : N f ≡ N f - 0 = omega arith in ap (λ (n : ℕ). first_refusal (each (check_rows f) (up_from 0 n))) e

  pub rows_end : (i : ℕ) → N f ≤ i → first_refusal (rows_from f i) ≡ record { number = 0; place = 0 }
  rows_end i h = let e : N f - i ≡ 0 = omega arith in ap (λ (n : ℕ). first_refusal (each (check_rows f) (up_from i n))) e

  module _ (i : ℕ) (h : i < N f) where
    rows_next : rows_from f i ≡ check_rows f i ++ rows_from f (suc i)
    rows_next = let e : N f - i ≡ suc (N f - suc i) = omega arith in ap (λ (n : ℕ). each (check_rows f) (up_from i n)) e

    pub rows-stopped : (first_number (check_rows f i) ≡ 0 → ⊥) → first_refusal (rows_from f i) ≡ record { number = first_number (check_rows f i); place = i }
    rows-stopped e =
        ap first_refusal rows_next
        ∙ refusal-stopped (check_rows f i) (rows_from f (suc i)) e
        ∙ refusal-number-at i (check_rows f i) (subst⁻¹ (λ (b : Bool). T (b && (b && (b && (b && (b && true)))))) (eq-eqb i i refl) tt) e

    pub rows-passed : first_number (check_rows f i) ≡ 0 → first_refusal (rows_from f i) ≡ first_refusal (rows_from f (i + 1))
    rows-passed e =
        ap first_refusal rows_next ∙ refusal-passed (check_rows f i) (rows_from f (suc i)) tt e
        ∙ ap (λ (n : ℕ). first_refusal (rows_from f n)) (sym (add-one i))

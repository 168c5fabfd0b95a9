-- A refusal of an old file that is given has its condition at its place, since each row that holds does; and its number is at most 8.
use mathlib.Core.Path.{◌≡◌, refl, sym, ap, ap₂, ◌∙◌}
use mathlib.Core.Bool.{Bool, true, false, not}
use mathlib.Core.List.{List, [], ◌∷◌, ◌++◌}
use Prim.Native.Nat.{ℕ, ◌≤◌}
use native.Mathlib.Omega.{arith}
use lib.Dec.{eqb, leb, ltb}
use lib.ListN.{length, get_or}
use borrow.Author.Tests.{leb-true}
use Rattle.meaning.specs.Lists.{each, below}
use Rattle.meaning.specs.Table.{ends}
use Rattle.file.specs.Refusals.{RefusalRow, Outcome, refused, first, number_of, place_of, ◌when◌}
use Rattle.file.specs.Format.{N}
use Rattle.old_file.specs.OldFormat.{old_length, old_field, old_from, old_to, old_credentials}
use Rattle.old_file.specs.OldReading.{old_head_rows, old_in_range, old_zeros, old_credential_rows, old_reading}

module _ (condition : ℕ → ℕ → Bool) where
  -- each row that holds has the condition of its number at its place
  abbrev Meant : List RefusalRow → Type 0
  Meant [] = Unit {0}
  Meant (r ∷ rows) = (r.holds ≡ true → condition r.number r.place ≡ true) × Meant rows

  meant-append : (xs ys : List RefusalRow) → Meant xs → Meant ys → Meant (xs ++ ys)
  meant-append [] ys m n = n
  meant-append (x ∷ xs) ys m n = (m.0, meant-append xs ys m.1 n)

  meant-each : (rows : ℕ → List RefusalRow) (l : List ℕ) → ((i : ℕ) → Meant (rows i)) → Meant (each rows l)
  meant-each rows [] m = tt
  meant-each rows (i ∷ l) m = meant-append (rows i) (each rows l) (m i) (meant-each rows l m)

  first-meant : (rows : List RefusalRow) (a n p : ℕ) → Meant rows → first rows a ≡ refused n p → condition n p ≡ true
  first-meant [] a n p m e = let z : ◌≡◌ {A = ℕ} 0 1 = cc in absurd (omega arith)
  first-meant (x ∷ xs) a n p m e = go x.holds refl e (λ q. first-meant xs a n p m.1 q)
    where
      go : (h : Bool) → x.holds ≡ h → ◌≡◌ {A = Outcome ℕ} (elim h [ true ↦ refused x.number x.place | false ↦ first xs a ]) (refused n p)
          → (first xs a ≡ refused n p → condition n p ≡ true) → condition n p ≡ true
      go true h e f = ap₂ condition (sym (ap number_of e)) (sym (ap place_of e)) ∙ m.0 h
      go false h e f = f e

module _ (f : List ℕ) where
  -- the conditions of 3 to 7 of an old file
  abbrev pub old_condition : ℕ → ℕ → Bool
  old_condition n i =
      get_or (true ∷ true ∷ true ∷ not (eqb (length f) (old_length (N f))) ∷ ltb 5 (old_field f i 0) ∷ not (old_in_range f i) ∷ not (old_zeros f i)
      ∷ leb (old_to f i) (old_from f i) ∷ []) n true

  abbrev credentials_rows : List RefusalRow
  credentials_rows = each (old_credential_rows f) (below (N f))

  abbrev ends_rows : List RefusalRow
  ends_rows = 8 when (ltb 64 (length (ends (old_credentials f)))) ∷ []

  old-meant : Meant old_condition (old_reading f)
  unfolding old_reading
  old-meant =
      meant-append old_condition (old_head_rows f) (credentials_rows ++ ends_rows) ((λ h. refl), ((λ h. refl), ((λ h. h), tt)))
      (meant-append old_condition credentials_rows ends_rows
      (meant-each old_condition (old_credential_rows f) (below (N f)) (λ i. ((λ h. h), ((λ h. h), ((λ h. h), ((λ h. h), tt))))))
      ((λ h. refl), tt))

  abbrev at_most8 : ℕ → ℕ → Bool
  at_most8 n i = leb n 8

  old-low : Meant at_most8 (old_reading f)
  unfolding old_reading
  old-low =
      meant-append at_most8 (old_head_rows f) (credentials_rows ++ ends_rows) ((λ h. refl), ((λ h. refl), ((λ h. refl), tt)))
      (meant-append at_most8 credentials_rows ends_rows
      (meant-each at_most8 (old_credential_rows f) (below (N f)) (λ i. ((λ h. refl), ((λ h. refl), ((λ h. refl), ((λ h. refl), tt))))))
      ((λ h. refl), tt))

  pub given : (n i : ℕ) → ◌≡◌ {A = Outcome ℕ} (first (old_reading f) 0) (refused n i) → old_condition n i ≡ true
  given n i e = first-meant old_condition (old_reading f) 0 n i old-meant e

  pub given-low : (n i : ℕ) → ◌≡◌ {A = Outcome ℕ} (first (old_reading f) 0) (refused n i) → n ≤ 8
  given-low n i e = leb-true n 8 (first-meant at_most8 (old_reading f) 0 n i old-low e)

-- The refusals of completing are given exactly under the documents' conditions.
use mathlib.Core.Path.{◌≡◌, refl, sym, ap, ◌∙◌, subst}
use mathlib.Core.Logic.{◌⊎◌, inl, inr, ◌↔◌}
use mathlib.Core.Bool.{◌&&◌}
use mathlib.Core.List.{[], ◌∷◌}
use Prim.Native.Nat.{ℕ, ◌<◌, ◌≤◌}
use native.Mathlib.Omega.{arith}
use lib.Dec.{T, eqb, leb, eqb→eq, leb→le, le→leb, ltb→lt, lt→ltb, T_not, not_T}
use lib.ListN.{length}
use Rattle.meaning.specs.Table.{table}
use Rattle.meaning.proofs.Tests.{and_in, and_left, and_right, eq-in}
use Rattle.file.specs.Refusals.{Outcome, done, refused, first}
use Rattle.file.specs.Reading.{between}
use Rattle.file.proofs.First.{after, first-append}
use Rattle.file.proofs.Refusals.{pass, give, by-test, less}
use Rattle.withdrawals.specs.Source.{Source, credentials, reading}
use Rattle.withdrawals.specs.Conditions.{Accepted}
use Rattle.withdrawals.proofs.Refusals.{accepted-read, refused-read, not-of-source, Verdict, verdict}
use Rattle.completing.specs.Completing.{Lent, three_of_one_length, lent_row, table_full_row, reply_to}
use Rattle.completing.specs.Conditions.{ThreeOfOneLength, RefusedTable, file, lengths, full}

ruleset parts = (and_left, and_right, leb→le, eqb→eq)

module _ (t : Lent) where
  abbrev L : ℕ
  L = length t.roles

  lengths-out : T (three_of_one_length t) → ThreeOfOneLength t
  lengths-out u = record { sets = search parts; spans = search parts; limits = (search parts, search parts) }

  lengths-in : ThreeOfOneLength t → T (three_of_one_length t)
  lengths-in o =
      and_in (eqb (length t.sets) L && eqb (length t.spans) L) (between 1 1024 L)
      (and_in (eqb (length t.sets) L) (eqb (length t.spans) L) (eq-in _ _ o.sets) (eq-in _ _ o.spans))
      (and_in (leb 1 L) (leb L 1024) (le→leb _ _ o.limits.0) (le→leb _ _ o.limits.1))

module _ (f : Source) (t : Lent) where
  abbrev count : ℕ
  count = length (table (credentials f))

  -- ---- the conditions give the replies

  accepted-passes : Accepted f → reply_to f t ≡ first (lent_row t ∷ table_full_row f t ∷ []) count
  unfolding reply_to
  accepted-passes c =
      first-append {A = ℕ} {B = ℕ} (reading f) (lent_row t ∷ table_full_row f t ∷ []) count count
      ∙ ap (λ (o : Outcome ℕ). after {A = ℕ} {B = ℕ} o (first (lent_row t ∷ table_full_row f t ∷ []) count)) (accepted-read count f c)

  lengths-pass : ThreeOfOneLength t → first (lent_row t ∷ table_full_row f t ∷ []) count ≡ first (table_full_row f t ∷ []) count
  lengths-pass o = pass count (lent_row t) (table_full_row f t ∷ []) (λ h. T_not (three_of_one_length t) h (lengths-in t o))

  refused-reply : {n p : ℕ} → RefusedTable f t n p → reply_to f t ≡ refused n p
  unfolding reply_to
  refused-reply (file r) =
      first-append {A = ℕ} {B = ℕ} (reading f) (lent_row t ∷ table_full_row f t ∷ []) count count
      ∙ ap (λ (o : Outcome ℕ). after {A = ℕ} {B = ℕ} o (first (lent_row t ∷ table_full_row f t ∷ []) count)) (refused-read count f r)
  refused-reply (lengths c h) = accepted-passes c ∙ give count (lent_row t) (table_full_row f t ∷ []) (not_T (three_of_one_length t) (λ u. h (lengths-out t u)))
  refused-reply (full c o h) = accepted-passes c ∙ lengths-pass o ∙ give count (table_full_row f t) [] (lt→ltb (L t) count h)

  pub record Fits : Type 0 where
    pub accepted : Accepted f
    pub lists : ThreeOfOneLength t
    pub few : count ≤ L t

  counted-reply : Fits → reply_to f t ≡ done count
  counted-reply x =
      accepted-passes x.accepted ∙ lengths-pass x.lists
      ∙ pass count (table_full_row f t) [] (λ h. let k = x.few in omega (arith, ltb→lt (L t) count h))

  -- ---- one of the conditions holds

  TableVerdict : Type 0
  TableVerdict = Fits ⊎ ((n p : ℕ) × RefusedTable f t n p)

  table-verdict : TableVerdict
  unfolding TableVerdict
  table-verdict = by-file (verdict f)
    where
      by_count : Accepted f → ThreeOfOneLength t → (L t < count) ⊎ (count ≤ L t) → TableVerdict
      by_count c o (inl h) = inr (10, 0, full c o h)
      by_count c o (inr h) = inl (record { accepted = c; lists = o; few = h })

      by_lengths : Accepted f → ThreeOfOneLength t ⊎ (¬ ThreeOfOneLength t) → TableVerdict
      by_lengths c (inl o) = by_count c o (less (L t) count)
      by_lengths c (inr h) = inr (9, 0, lengths c h)

      by-file : Verdict f → TableVerdict
      by-file (inl c) = by_lengths c (by-test (three_of_one_length t) (lengths-out t) (lengths-in t))
      by-file (inr (n, p, r)) = inr (n, p, file r)

  -- ---- exact both ways

  pub refused-exact : (n p : ℕ) → reply_to f t ≡ refused n p ↔ RefusedTable f t n p
  unfolding TableVerdict
  refused-exact n p = (λ e. go e table-verdict, refused-reply)
    where
      go : reply_to f t ≡ refused n p → TableVerdict → RefusedTable f t n p
      go e (inl x) = let y = counted-reply x in let z : ◌≡◌ {A = ℕ} 0 1 = cc in absurd (omega arith)
      go e (inr (k, o, r)) =
          let x = refused-reply r in
          let u : k ≡ n = cc in
          let v : o ≡ p = cc in
          subst (λ (y : ℕ). RefusedTable f t n y) v (subst (λ (y : ℕ). RefusedTable f t y o) u r)

  pub counted-exact : (n : ℕ) → reply_to f t ≡ done n ↔ (Accepted f × ThreeOfOneLength t × (count ≤ L t) × (n ≡ count))
  unfolding TableVerdict
  counted-exact n = (λ e. go e table-verdict, λ (c, o, h, e). counted-reply (record { accepted = c; lists = o; few = h }) ∙ ap (λ (k : ℕ). done k) (sym e))
    where
      go : reply_to f t ≡ done n → TableVerdict → Accepted f × ThreeOfOneLength t × (count ≤ L t) × (n ≡ count)
      go e (inl x) = let y = counted-reply x in (x.accepted, x.lists, x.few, cc)
      go e (inr (k, o, r)) = let y = refused-reply r in let z : ◌≡◌ {A = ℕ} 0 1 = cc in absurd (omega arith)

  -- ---- by number

  nine-out : {n p : ℕ} → RefusedTable f t n p → n ≡ 9 → Accepted f × ¬ ThreeOfOneLength t
  nine-out (file r) e = absurd (not-of-source f r 9 tt e)
  nine-out (lengths c h) e = (c, h)
  nine-out (full c o h) e = absurd (omega arith)

  ten-out : {n p : ℕ} → RefusedTable f t n p → n ≡ 10 → Accepted f × ThreeOfOneLength t × (L t < count)
  ten-out (file r) e = absurd (not-of-source f r 10 tt e)
  ten-out (lengths c h) e = absurd (omega arith)
  ten-out (full c o h) e = (c, o, h)

  pub nine-exact : reply_to f t ≡ refused 9 0 ↔ (Accepted f × ¬ ThreeOfOneLength t)
  nine-exact = ((λ e. nine-out ((refused-exact 9 0).0 e) refl), λ (c, h). refused-reply (lengths c h))

  pub ten-exact : reply_to f t ≡ refused 10 0 ↔ (Accepted f × ThreeOfOneLength t × (L t < count))
  ten-exact = ((λ e. ten-out ((refused-exact 10 0).0 e) refl), λ (c, o, h). refused-reply (full c o h))

-- The reply and the lists of each way in which completing ends.
use mathlib.Core.Path.{◌≡◌, refl, sym, ap, ◌∙◌, subst⁻¹}
use mathlib.Core.Logic.{inl, inr}
use mathlib.Core.Bool.{Bool, true, false, ◌&&◌}
use mathlib.Core.List.{List, [], ◌∷◌}
use Prim.Native.Nat.{ℕ, ◌-◌, ◌≤◌, ◌<◌}
use native.Mathlib.Omega.{arith}
use lib.Dec.{T, eqb, leb, eqb→eq, leb→le}
use lib.ListN.{length, replicate}
use borrow.Author.Tests.{ne_eqb, lt-ltb, le-ltb}
use Rattle.meaning.specs.Credentials.{Credential}
use Rattle.meaning.specs.Table.{Row, ends, span_count, table}
use Rattle.meaning.proofs.Tests.{and_left, and_right}
use Rattle.file.specs.Refusals.{Outcome, done, refused, first, number_of, left}
use Rattle.file.specs.Reading.{between}
use Rattle.policy.specs.Policy.{credentials_of}
use Rattle.withdrawals.specs.Source.{Source, credentials, read}
use Rattle.withdrawals.proofs.Refusals.{Verdict, verdict, accepted-read, refused-read, not-of-source}
use Rattle.survey.specs.Ends.{padded}
use Rattle.survey.specs.Surveying.{Surveyed}
use Rattle.survey.specs.declared.Summary.{Summary}
use Rattle.survey.proofs.Outcomes.{survey-refused, survey-passed}
use Rattle.writing.specs.Columns.{column}
use Rattle.tabling.specs.Tabling.{Worked, Loadable}
use Rattle.completing.specs.Completing.{Lent, lent_row, table_full_row, reply_to, TableEnding, table_ending, completing}
use Rattle.completing.specs.Working.{last_reply, ending_by, last_ending}

-- not 10 and not 13, which clear lists
abbrev Keeps : ℕ → Type 0
Keeps n = (n ≡ 10 → ⊥) × (n ≡ 13 → ⊥)

-- none of the refusals of a file does
read_keeps : {A : Type 0} (f : Source) (a : A) → Keeps (number_of (read f a))
read_keeps {A} f a = go (verdict f)
  where
    go : Verdict f → Keeps (number_of (read f a))
    go (inl c) = subst⁻¹ (λ (o : Outcome A). Keeps (number_of o)) (accepted-read a f c) ((λ e. omega arith), λ e. omega arith)
    go (inr (n, p, r)) = subst⁻¹ (λ (o : Outcome A). Keeps (number_of o)) (refused-read a f r) (not-of-source f r 10 tt, not-of-source f r 13 tt)

left-kept : (n p : ℕ) (before written : List ℕ) → Keeps n → left {A = ℕ} (refused n p) before written ≡ before
left-kept n p before written h = simp (ne_eqb n 10 h.0, ne_eqb n 13 h.1)

module _ (f : Source) (t : Lent) where
  abbrev size : ℕ
  size = length t.roles

  abbrev rows : List Row
  rows = table (credentials f)

  by-reply : (o : Outcome ℕ) → reply_to f t ≡ o → ending_by (credentials f) t o ≡ completing f t
  unfolding completing
  by-reply o e = sym (ap (ending_by (credentials f) t) e)

  kept : (n p : ℕ) → Keeps n → reply_to f t ≡ refused n p → table_ending (refused n p) t.roles t.sets t.spans ≡ completing f t
  kept n p h e =
      (λ i. table_ending (refused n p) (sym (left-kept n p t.roles (column (λ x. x.role) size rows) h) i) (sym (left-kept n p t.sets (column (λ x. x.set) size rows) h) i)
      (sym (left-kept n p t.spans (column (λ x. x.spans) size rows) h) i))
      ∙ by-reply (refused n p) e

  abbrev fitting : Bool
  fitting = eqb (length t.sets) size && eqb (length t.spans) size && between 1 1024 size

  module _ (p es : List ℕ) (s : Summary) (found : Surveyed f p es s) where
    pub refused-ending : (s.number ≡ 0 → ⊥) → table_ending (refused s.number s.place) t.roles t.sets t.spans ≡ completing f t
    unfolding reply_to
    refused-ending h =
        kept s.number s.place (subst⁻¹ Keeps found.number (read_keeps f (ends (credentials f))))
        (survey-refused f p es s found h (lent_row t ∷ table_full_row f t ∷ []) (length rows))

    module _ (none : s.number ≡ 0) where
      passed : reply_to f t ≡ first (lent_row t ∷ table_full_row f t ∷ []) (length rows)
      unfolding reply_to
      passed = survey-passed f p es s found none (lent_row t ∷ table_full_row f t ∷ []) (length rows)

      pub nine-ending : fitting ≡ false → table_ending (refused 9 0) t.roles t.sets t.spans ≡ completing f t
      nine-ending e = kept 9 0 ((λ z. omega arith), λ z. omega arith) (passed ∙ rw e refl)

      abbrev cs : List Credential
      cs = credentials_of p s.credentials

      same : cs ≡ credentials f
      same = (found.policy none).means

      module _ (fits : fitting ≡ true) where
        pub lengths : (length t.sets ≡ size) × (length t.spans ≡ size) × (size ≤ 1024)
        lengths =
            let w = subst⁻¹ T fits tt in
            let alike = and_left (eqb (length t.sets) size && eqb (length t.spans) size) (between 1 1024 size) w in
            let few = and_right (eqb (length t.sets) size && eqb (length t.spans) size) (between 1 1024 size) w in (
              eqb→eq (length t.sets) size (and_left (eqb (length t.sets) size) (eqb (length t.spans) size) alike),
              eqb→eq (length t.spans) size (and_right (eqb (length t.sets) size) (eqb (length t.spans) size) alike),
              leb→le size 1024 (and_right (leb 1 size) (leb size 1024) few),
            )

        pub loadable : {count : ℕ} → count ≡ s.count - 1 → Loadable p s.credentials es count size
        loadable {count} e =
            record {
              decoded = (found.policy none).decoded;
              few = subst⁻¹ (λ (x : List Credential). length (ends x) ≤ 64) same (found.few none);
              held = subst⁻¹ (λ (x : List Credential). es ≡ padded 64 (ends x)) same (found.ends none);
              counted = subst⁻¹ (λ (x : List Credential). count ≡ span_count (ends x)) same (e ∙ ap (λ (n : ℕ). n - 1) (found.count none));
              small = lengths.2;
            }

        pub last-ending : {x : TableEnding} → x ≡ last_ending cs t → x ≡ completing f t
        last-ending e = e ∙ ap (λ (y : List Credential). last_ending y t) same ∙ by-reply (last_reply (credentials f) t) (passed ∙ rw fits refl)

-- ---- lists of one length

module _ (cs : List Credential) (t : Lent) {roles sets spans : List ℕ} {r : ℕ} (w : Worked cs (length t.roles) roles sets spans r) (same : length roles ≡ length t.roles) where
  -- the lists were cleared after too many memberships
  pub over-ending : length roles < r → length sets ≡ length t.sets → length spans ≡ length t.spans → {roles' sets' spans' : List ℕ} → roles' ≡ replicate (length roles) 0
      → sets' ≡ replicate (length sets) 0 → spans' ≡ replicate (length spans) 0 → table_ending (refused 10 0) roles' sets' spans' ≡ last_ending cs t
  over-ending h k l a b c =
      (λ i. table_ending (refused 10 0) ((a ∙ ap (λ (n : ℕ). replicate n 0) same) i) ((b ∙ ap (λ (n : ℕ). replicate n 0) k) i) ((c ∙ ap (λ (n : ℕ). replicate n 0) l) i))
      ∙ ap (ending_by cs t) (sym reply)
    where
      reply : last_reply cs t ≡ refused 10 0
      reply = rw (lt-ltb (length t.roles) (length (table cs)) (w.over (omega (arith, same)))) refl

  -- the lists hold the table
  pub table-ending : r ≤ length roles → table_ending (done r) roles sets spans ≡ last_ending cs t
  table-ending h =
      let l : r ≤ length t.roles = omega (arith, same) in
      (λ i. table_ending (done (w.count l i)) (w.by_role l i) (w.by_set l i) (w.by_spans l i)) ∙ ap (ending_by cs t) (sym (reply l))
    where
      reply : r ≤ length t.roles → last_reply cs t ≡ done (length (table cs))
      reply l = rw (le-ltb (length t.roles) (length (table cs)) (omega (arith, w.count l))) refl

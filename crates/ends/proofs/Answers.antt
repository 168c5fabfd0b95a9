-- The public answers from what `survey` leaves.
use mathlib.Core.Path.{◌≡◌, refl, sym, ap, ap₂, ◌∙◌}
use mathlib.Core.Bool.{Bool, true, false}
use mathlib.Core.Logic.{dite}
use mathlib.Core.List.{List, [], ◌∷◌, ◌++◌}
use Prim.Native.Nat.{ℕ, zero, suc, ◌-◌, ◌/◌, ◌^◌, ◌≤◌}
use native.Mathlib.Decide.{dec_lt}
use native.Mathlib.Nat.{div-lt_iff_lt-mul, div-eq_of_lt}
use native.Mathlib.Omega.{arith}
use borrow.Author.Tests.{le-leb, lt-leb}
use lib.Dec.{eqb, leb}
use lib.ListN.{length, get_or, replicate}
use lib.Pow.{pow_pos}
use Rattle.meaning.specs.Lists.{if}
use Rattle.meaning.specs.Credentials.{Period}
use Rattle.meaning.specs.Table.{bit, ends, span_count, extended, intervals_to, intervals}
use Rattle.file.specs.Refusals.{Outcome, done, refused, first, number_of, place_of, ◌when◌}
use Rattle.withdrawals.specs.Source.{Source, credentials}
use Rattle.survey.specs.declared.Summary.{Summary}
use Rattle.survey.specs.Ends.{padded, ends_read}
use Rattle.survey.specs.Surveying.{Surveyed}
use Rattle.survey.proofs.Outcomes.{survey-refused, read_done, survey-passed}
use Rattle.ends.specs.Ends.{ends_out, ends_in}
use Rattle.ends.specs.Intervals.{intervals_out, intervals_in}
use Rattle.ends.specs.Joining.{joined_to}

zeros-after : (k : ℕ) (l : List ℕ) (i : ℕ) → get_or (l ++ replicate k 0) i 0 ≡ get_or l i 0
zeros-after zero [] i = refl
zeros-after (suc k) [] zero = refl
zeros-after (suc k) [] (suc i) = zeros-after k [] i
zeros-after k (x ∷ l) zero = refl
zeros-after k (x ∷ l) (suc i) = zeros-after k l i

-- the intervals depend on the entries alone
same-intervals : (es fs : List ℕ) → ((i : ℕ) → get_or es i 0 ≡ get_or fs i 0) → (spans n : ℕ) → intervals_to es spans n ≡ intervals_to fs spans n
same-intervals es fs e spans zero = refl
same-intervals es fs e spans (suc n) =
    ap (λ (vs : List Period). if (eqb (bit spans n) 1) (extended vs (get_or es n 0) (get_or es (suc n) 0)) vs) (same-intervals es fs e spans n)
    ∙ ap₂ (λ (a b : ℕ). if (eqb (bit spans n) 1) (extended (intervals_to fs spans n) a b) (intervals_to fs spans n)) (e n) (e (suc n))

module _ (f : Source) (p es : List ℕ) (s : Summary) (found : Surveyed f p es s) where
  abbrev all : List ℕ
  all = ends (credentials f)

  -- ---- the ends

  pub ends-refused : {zs : List ℕ} → zs ≡ padded 64 [] → (s.number ≡ 0 → ⊥)
      → record { number = s.number; place = s.place; count = 0; ends = zs } ≡ ends_in f
  unfolding ends_in
  ends-refused {zs} e h = go (ends_read f) found.number found.place
    where
      go : (o : Outcome (List ℕ)) → s.number ≡ number_of o → s.place ≡ place_of o
          → record { number = s.number; place = s.place; count = 0; ends = zs } ≡ ends_out o
      go (done _) n p = absurd (h n)
      go (refused _ _) n p = λ j. record { number = n j; place = p j; count = 0; ends = e j }

  pub ends-done : s.number ≡ 0 → record { number = 0; place = 0; count = s.count; ends = es } ≡ ends_in f
  unfolding ends_in
  ends-done none =
      (λ j. record { number = 0; place = 0; count = found.count none j; ends = found.ends none j }) ∙ ap ends_out (sym (read_done f p es s found none))

  -- ---- the intervals

  module _ (spans : ℕ) where
    abbrev beyond : Bool
    beyond = leb (2 ^ span_count all) spans

    pub intervals-refused : (s.number ≡ 0 → ⊥) → intervals_out (refused s.number s.place) ≡ intervals_in f spans
    unfolding intervals_in
    intervals-refused h = ap intervals_out (sym (survey-refused f p es s found h (11 when beyond ∷ []) (intervals all spans)))

    module _ (none : s.number ≡ 0) {count : ℕ} (counted : count ≡ s.count - 1) where
      counts : count ≡ span_count all
      counts = counted ∙ ap (λ (n : ℕ). n - 1) (found.count none)

      high : (spans / 2 ^ count ≡ 0 → ⊥) → beyond ≡ true
      high h =
          le-leb (2 ^ span_count all) spans
          (let e = ap (λ (k : ℕ). 2 ^ k) counts in
          let l : 2 ^ count ≤ spans = dite (dec_lt spans (2 ^ count)) (λ l. absurd (h (div-eq_of_lt l))) (λ n. omega arith) in
          omega arith)

      low : spans / 2 ^ count ≡ 0 → beyond ≡ false
      low z =
          lt-leb (2 ^ span_count all) spans
          (let e = ap (λ (k : ℕ). 2 ^ k) counts in
          let l = (div-lt_iff_lt-mul {x = spans} {y = 1} (pow_pos count)).0 (omega arith) in
          omega arith)

      pub intervals-beyond : (spans / 2 ^ count ≡ 0 → ⊥) → intervals_out (refused 11 0) ≡ intervals_in f spans
      unfolding intervals_in
      intervals-beyond h =
          ap intervals_out
          (sym (survey-passed f p es s found none (11 when beyond ∷ []) (intervals all spans)
          ∙ ap (λ (b : Bool). first {A = List Period} (11 when b ∷ []) (intervals all spans)) (high h)))

      same_entries : (i : ℕ) → get_or es i 0 ≡ get_or all i 0
      same_entries i = ap (λ (l : List ℕ). get_or l i 0) (found.ends none) ∙ zeros-after (64 - length all) all i

      pub intervals-done : spans / 2 ^ count ≡ 0 → joined_to es spans count ≡ intervals_in f spans
      unfolding intervals_in
      intervals-done z =
          ap (λ (vs : List Period). intervals_out (done vs)) (same-intervals es all same_entries spans count ∙ ap (intervals_to all spans) counts)
          ∙ ap intervals_out
          (sym (survey-passed f p es s found none (11 when beyond ∷ []) (intervals all spans)
          ∙ ap (λ (b : Bool). first {A = List Period} (11 when b ∷ []) (intervals all spans)) (low z)))

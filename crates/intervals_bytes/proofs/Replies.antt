-- The reply and the bytes of the two ways in which the call ends.
use mathlib.Core.Path.{◌≡◌, refl, sym, ap, ap₂, ◌∙◌, subst⁻¹}
use mathlib.Core.Logic.{inl, inr}
use mathlib.Core.Bool.{Bool, true, false, ◌&&◌, ◌||◌, not}
use mathlib.Core.List.{List, [], ◌∷◌, ◌++◌}
use Prim.Native.Nat.{ℕ, ◌+◌, ◌*◌, ◌^◌, ◌≤◌, ◌<◌}
use native.Mathlib.Omega.{arith}
use borrow.Author.Tests.{ne_eqb}
use lib.Dec.{T, eqb, leb, eqb→eq, nleb→lt}
use lib.ListN.{length, take, drop}
use Rattle.meaning.specs.Lists.{if}
use Rattle.meaning.specs.Credentials.{Period}
use Rattle.meaning.specs.Table.{ends, span_count, intervals}
use Rattle.meaning.proofs.Intervals.{intervals-fit}
use Rattle.file.specs.Refusals.{RefusalRow, Outcome, done, refused, first, ◌when◌, left}
use Rattle.withdrawals.specs.Source.{Source, credentials}
use Rattle.withdrawals.specs.Conditions.{Accepted, Refused}
use Rattle.withdrawals.proofs.Refusals.{refused-some, Verdict, verdict, not-of-source}
use Rattle.ends.specs.declared.Intervals.{Intervals}
use Rattle.survey.specs.Ends.{padded}
use Rattle.ends.specs.Intervals.{intervals_out, intervals_in}
use Rattle.codec.specs.Bytes.{bytes_of}
use Rattle.replies.specs.Interface.{word}
use Rattle.replies.proofs.Leaving.{all-bytes}
use Rattle.replies.proofs.Files.{refused-first, accepted-first}
use Rattle.intervals_bytes.specs.Interface.{bounds, intervals_reply, intervals_bytes}
use Rattle.intervals_bytes.specs.Bounds.{bounds_in, number_for}
use Rattle.intervals_bytes.proofs.Bounds.{padded-bounds, length-places}

-- v is what `intervals_of` answers, and k the refusal's number after the test of the length
module _ (f : Source) (spans : ℕ) (b : List ℕ) (v : Intervals) (u : v ≡ intervals_in f spans) (k : ℕ) (n : k ≡ number_for v.number (length b)) where
  abbrev all : List ℕ
  all = ends (credentials f)

  abbrev vs : List Period
  vs = intervals all spans

  abbrev written : List ℕ
  written = bytes_of 4 (padded 64 (bounds vs))

  -- 11, and 9 before it
  abbrev beyond : Bool
  beyond = leb (2 ^ span_count all) spans

  abbrev span_row : Bool → List RefusalRow
  span_row d = 11 when d ∷ []

  abbrev own_rows : Bool → Bool → List RefusalRow
  own_rows t d = 9 when (not t) ∷ span_row d

  pub record Stopped : Type 0 where
    pub reply : intervals_reply f spans b ≡ refused k v.place
    pub some : k ≡ 0 → ⊥
    pub keeps : (eqb k 10 || eqb k 13) ≡ false

  pub record Passed : Type 0 where
    pub reply : intervals_reply f spans b ≡ done (length vs)
    pub none : k ≡ 0
    pub accepted : Accepted f
    pub within : spans < 2 ^ span_count all
    pub long : length b ≡ 256
    pub answer : v ≡ intervals_out (done vs)
    pub few : length vs ≤ 32

  pub data Way : Type 0 where
    stopped : Stopped → Way
    passed : Passed → Way

  -- ---- a refused file

  file-refused : {m p : ℕ} → Refused f m p → Stopped
  unfolding intervals_reply intervals_in
  file-refused {m} {p} r =
      let l = refused-some f r in
      let x : v ≡ intervals_out (refused m p) = u ∙ ap intervals_out (refused-first f (span_row beyond) vs r) in
      let q : v.number ≡ m = ap (λ (y : Intervals). y.number) x in
      let z : k ≡ m = n ∙ ap (λ (y : ℕ). number_for y (length b)) q ∙ keep (not (eqb (length b) 256)) m (not-of-source f r 0 tt) (not-of-source f r 11 tt) in
      let w : v.place ≡ p = ap (λ (y : Intervals). y.place) x in
      record {
        reply = refused-first f (own_rows (eqb (length b) 256) beyond) (length vs) r ∙ (λ j. refused (sym z j) (sym w j));
        some = λ e. omega arith;
        keeps = simp (ne_eqb k 10 (λ e. not-of-source f r 10 tt (sym z ∙ e)), ne_eqb k 13 (λ e. not-of-source f r 13 tt (sym z ∙ e)));
      }
    where
      keep : (t : Bool) (m : ℕ) → (m ≡ 0 → ⊥) → (m ≡ 11 → ⊥) → if (t && (eqb m 0 || eqb m 11)) 9 m ≡ m
      keep true m h g = simp (ne_eqb m 0 h, ne_eqb m 11 g)
      keep false m h g = refl

  -- ---- an accepted file

  module _ (c : Accepted f) where
    answered : (d : Bool) → beyond ≡ d → v ≡ intervals_out (first (span_row d) vs)
    unfolding intervals_in
    answered d e = u ∙ ap intervals_out (accepted-first f (span_row beyond) vs c ∙ ap (λ (x : Bool). first (span_row x) vs) e)

    replied : (t d : Bool) → eqb (length b) 256 ≡ t → beyond ≡ d → intervals_reply f spans b ≡ first (own_rows t d) (length vs)
    unfolding intervals_reply
    replied t d e g = accepted-first f (own_rows (eqb (length b) 256) beyond) (length vs) c ∙ ap₂ (λ (x y : Bool). first (own_rows x y) (length vs)) e g

    numbered : (t d : Bool) → eqb (length b) 256 ≡ t → beyond ≡ d
        → k ≡ if (not t && (eqb (intervals_out (first (span_row d) vs)).number 0 || eqb (intervals_out (first (span_row d) vs)).number 11)) 9 (intervals_out (first (span_row d) vs)).number
    numbered t d e g =
        n ∙ ap₂ (λ (x : Bool) (y : Intervals). if (not x && (eqb y.number 0 || eqb y.number 11)) 9 y.number) e (answered d g)

    -- with place 0
    stop : (m : ℕ) → k ≡ m → v.place ≡ 0 → intervals_reply f spans b ≡ refused m 0 → (m ≡ 0 → ⊥) → (eqb m 10 || eqb m 13) ≡ false → Way
    stop m e p r h g = stopped (record {
      reply = r ∙ (λ j. refused (sym e j) (sym p j));
      some = λ z. h (sym e ∙ z);
      keeps = ap (λ (x : ℕ). eqb x 10 || eqb x 13) e ∙ g;
    })

    by_tests : (t d : Bool) → eqb (length b) 256 ≡ t → beyond ≡ d → Way
    by_tests false true e g = stop 9 (numbered false true e g) (ap (λ (x : Intervals). x.place) (answered true g)) (replied false true e g) (λ z. omega arith) refl
    by_tests false false e g = stop 9 (numbered false false e g) (ap (λ (x : Intervals). x.place) (answered false g)) (replied false false e g) (λ z. omega arith) refl
    by_tests true true e g = stop 11 (numbered true true e g) (ap (λ (x : Intervals). x.place) (answered true g)) (replied true true e g) (λ z. omega arith) refl
    by_tests true false e g = passed (record {
      reply = replied true false e g;
      none = numbered true false e g;
      accepted = c;
      within = nleb→lt (2 ^ span_count all) spans (subst⁻¹ (λ (x : Bool). T (not x)) g tt);
      long = eqb→eq (length b) 256 (subst⁻¹ T e tt);
      answer = answered false g;
      few = intervals-fit all spans c.few;
    })

  pub way : Way
  way = go (verdict f)
    where
      go : Verdict f → Way
      go (inl c) = by_tests c (eqb (length b) 256) beyond refl refl
      go (inr (m, p, r)) = stopped (file-refused r)

  -- ---- the end of the call

  -- the reply r, with the bytes l left
  abbrev pub Ended : ℕ → List ℕ → Type 0
  Ended r l = (r ≡ word (λ n. n) (intervals_reply f spans b)) × (l ≡ intervals_bytes f spans b)

  by-reply : (o : Outcome ℕ) → intervals_reply f spans b ≡ o → Ended (word (λ n. n) o) (left o b written)
  unfolding intervals_bytes
  by-reply o q = (ap (word (λ (n : ℕ). n)) (sym q), ap (λ (o : Outcome ℕ). left o b written) (sym q))

  pub refused-ended : (k ≡ 0 → ⊥) → Ended (k * 4294967296 + v.place) b
  refused-ended h = go way
    where
      go : Way → Ended (k * 4294967296 + v.place) b
      go (passed p) = absurd (h p.none)
      go (stopped s) =
          let x = by-reply (refused k v.place) s.reply in
          let same : left {A = ℕ} (refused k v.place) b written ≡ b = rw s.keeps refl in
          (x.0, sym same ∙ x.1)

  module _ (z : k ≡ 0) where
    all-passed : Passed
    all-passed = go way
      where
        go : Way → Passed
        go (passed p) = p
        go (stopped s) = absurd (s.some z)

    module _ {places : List ℕ} (q : places ≡ bounds_in v.intervals) where
      placed : places ≡ padded 64 (bounds vs)
      placed = q ∙ ap (λ (x : Intervals). bounds_in x.intervals) all-passed.answer ∙ padded-bounds vs all-passed.few

      pub fits : (length places ≡ 64) × (length b ≡ 256)
      fits = (ap length placed ∙ length-places vs all-passed.few, all-passed.long)

      pub done-ended : {l : List ℕ} → l ≡ bytes_of 4 (take 64 places) ++ drop (4 * 64) b → Ended v.count l
      done-ended e =
          let p = all-passed in
          let x = by-reply (done (length vs)) p.reply in
          (ap (λ (y : Intervals). y.count) p.answer ∙ x.0, e ∙ all-bytes 4 64 places b fits.0 fits.1 ∙ ap (bytes_of 4) placed ∙ x.1)

-- What the intervals on bytes are shown to mean: when the reply is a count, and which minutes the bytes then hold.
use mathlib.Core.Path.{◌≡◌, refl, ap, ◌∙◌, subst⁻¹}
use mathlib.Core.Logic.{◌↔◌}
use mathlib.Core.Bool.{Bool, not}
use mathlib.Core.List.{List, [], ◌∷◌, ◌++◌}
use Prim.Native.Nat.{ℕ, ◌-◌, ◌^◌, ◌≤◌, ◌<◌}
use native.Mathlib.Omega.{arith}
use borrow.Author.Tests.{eq-eqb, lt-leb}
use lib.Dec.{T, eqb, leb}
use lib.ListN.{length}
use Rattle.meaning.specs.Lists.{any}
use Rattle.meaning.specs.Credentials.{covers}
use Rattle.meaning.specs.Table.{ends, span_count, in_spans, intervals}
use Rattle.meaning.proofs.Intervals.{intervals-fit}
use Rattle.meaning.proofs.Claims.{interval-minutes}
use Rattle.file.specs.Refusals.{Outcome, done, first, ◌when◌, left}
use Rattle.file.specs.Format as F
use Rattle.file.specs.Reading as Reading
use Rattle.withdrawals.specs.List.{none}
use Rattle.withdrawals.specs.Source.{Source, ◌without◌, credentials}
use Rattle.withdrawals.proofs.Claims.{uncut-first}
use Rattle.withdrawals.specs.Conditions.{Accepted}
use Rattle.survey.specs.Ends.{padded}
use Rattle.ends.specs.Intervals.{intervals_in}
use Rattle.codec.specs.Bytes.{bytes_of, entries}
use Rattle.replies.specs.Interface.{word, Bytes}
use Rattle.replies.proofs.Files.{accepted-first}
use Rattle.replies.proofs.Widths.{places-read}
use Rattle.intervals_bytes.specs.Interface.{bounds, pairs_in, intervals_reply, intervals_bytes}
use Rattle.intervals_bytes.specs.Bounds.{number_for}
use Rattle.intervals_bytes.proofs.Bounds.{length-bounds}
use Rattle.intervals_bytes.proofs.Replies.{Way, stopped, passed, way}
use Rattle.intervals_bytes.proofs.Minutes.{bounds-low, pairs-minutes}

module _ (f : Source) (spans : ℕ) (b : List ℕ) where
  abbrev es : List ℕ
  es = ends (credentials f)

  abbrev reply : ℕ
  reply = word (λ n. n) (intervals_reply f spans b)

  abbrev written : List ℕ
  written = bytes_of 4 (padded 64 (bounds (intervals es spans)))

  -- the file and its withdrawals are accepted, the list has 256 bytes, and the number has no bit beyond the last span
  abbrev Passes : Type 0
  Passes = Accepted f × (length b ≡ 256) × (spans < 2 ^ span_count es)

  module _ (c : Accepted f) (l : length b ≡ 256) (h : spans < 2 ^ span_count es) where
    success : intervals_reply f spans b ≡ done (length (intervals es spans))
    unfolding intervals_reply
    success =
        accepted-first f (9 when (not (eqb (length b) 256)) ∷ 11 when (leb (2 ^ span_count es) spans) ∷ []) (length (intervals es spans)) c
        ∙ rw (eq-eqb (length b) 256 l, lt-leb (2 ^ span_count es) spans h) refl

    -- Then the reply is the count of the intervals, at most 32.
    pub count-of-intervals : (reply ≡ length (intervals es spans)) × (length (intervals es spans) ≤ 32)
    count-of-intervals = (ap (word (λ (n : ℕ). n)) success, intervals-fit es spans c.few)

    -- The bytes, read as entries, are from and to of each interval, and zeros after them.
    pub bounds-read : Bytes f.file → entries 4 (intervals_bytes f spans b) ≡ padded 64 (bounds (intervals es spans))
    unfolding intervals_bytes
    bounds-read small =
        let k = count-of-intervals.1 in
        ap (λ (o : Outcome ℕ). entries 4 (left o b written)) success
        ∙ places-read (bounds (intervals es spans)) (omega (arith, length-bounds (intervals es spans))) (bounds-low f small c spans)

    -- A minute lies in one of the pairs exactly when it lies in a span of the number.
    pub minutes-read : Bytes f.file → (m : ℕ) → T (any (λ v. covers v m) (pairs_in (entries 4 (intervals_bytes f spans b)))) ↔ T (in_spans es spans m)
    minutes-read small m =
        subst⁻¹ (λ (x : Bool). T x ↔ T (in_spans es spans m))
        (ap (λ (x : List ℕ). any (λ v. covers v m) (pairs_in x)) (bounds-read small) ∙ pairs-minutes m (intervals es spans) (64 - length (bounds (intervals es spans))))
        (interval-minutes (credentials f) spans m)

  abbrev ending : Type 0
  ending = Way f spans b (intervals_in f spans) refl (number_for (intervals_in f spans).number (length b)) refl

  ends_so : ending
  ends_so = way f spans b (intervals_in f spans) refl (number_for (intervals_in f spans).number (length b)) refl

  -- The reply is below 4,294,967,296 exactly then.
  pub count-exactly : reply < 4294967296 ↔ Passes
  count-exactly = (λ h. go h ends_so, λ s. let k = count-of-intervals s.0 s.1 s.2 in omega arith)
    where
      go : reply < 4294967296 → ending → Passes
      go h (stopped s) = absurd (s.some (omega (arith, ap (word (λ (n : ℕ). n)) s.reply)))
      go h (passed p) = (p.accepted, p.long, p.within)

  -- Otherwise the bytes are as they were.
  pub bytes-kept : ¬ Passes → intervals_bytes f spans b ≡ b
  unfolding intervals_bytes
  bytes-kept h = go ends_so
    where
      go : ending → left (intervals_reply f spans b) b written ≡ b
      go (stopped s) = ap (λ (o : Outcome ℕ). left o b written) s.reply ∙ rw s.keeps refl
      go (passed p) = absurd (h (p.accepted, p.long, p.within))

-- With the list of count 0 the reply is by the file's own refusals and credentials.
pub uncut-intervals : (f : List ℕ) (spans : ℕ) (b : List ℕ) → intervals_reply (f without none) spans b
    ≡ first (Reading.reading f ++ (9 when (not (eqb (length b) 256)) ∷ 11 when (leb (2 ^ span_count (ends (F.credentials f))) spans) ∷ []))
    (length (intervals (ends (F.credentials f)) spans))
unfolding intervals_reply
uncut-intervals f spans b =
    uncut-first f (λ cs. 9 when (not (eqb (length b) 256)) ∷ 11 when (leb (2 ^ span_count (ends cs)) spans) ∷ []) (λ cs. length (intervals (ends cs) spans))

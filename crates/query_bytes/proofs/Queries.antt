-- Querying on bytes: its reply and the bytes as it leaves them, from what querying answers on entries.
use mathlib.Core.Path.{◌≡◌, sym, ap, ◌∙◌, subst⁻¹}
use mathlib.Core.Bool.{Bool, true, false}
use mathlib.Core.List.{List, [], ◌∷◌}
use Prim.Native.Nat.{ℕ, ◌*◌, ◌/◌, ◌≤◌}
use native.Mathlib.Omega.{arith}
use lib.Dec.{T}
use lib.ListN.{length}
use Rattle.meaning.specs.Lists.{if}
use Rattle.meaning.specs.Proofs.{Step}
use Rattle.file.specs.Refusals.{Outcome, done, left, writes}
use Rattle.withdrawals.specs.Source.{Source, credentials, reading}
use Rattle.asking.specs.Asking.{Request, StepLists, step_lists, Sized}
use Rattle.derivation.specs.HandedOut.{HandedOut, words}
use Rattle.querying.specs.Querying.{Counts, counts, minute_full_row, none_row, level_for, reply_with, QueryEnding, querying, Bounded, Queried}
use Rattle.codec.specs.Bytes.{bytes_of, entries}
use Rattle.codec.proofs.Entries.{length-entries}
use Rattle.replies.specs.Interface.{word, not_whole, step_lists_in}
use Rattle.replies.specs.Lengths.{StepSizes}
use Rattle.replies.proofs.Refusing.{nine-word, nine-keeps}
use Rattle.replies.proofs.Fitting.{fit, steps-whole, steps-unfit}
use Rattle.replies.proofs.Leaving.{left-kept, left-written}
use Rattle.query_bytes.specs.Interface.{steps_and_level, query_reply, query_bytes, QueriedBytes}

-- what querying leaves of four lists of bytes of so many entries
module _ (b : StepLists) where
  abbrev leaving : List Step → Outcome Counts → ℕ → StepLists
  leaving ss o size =
      step_lists (left o b.credential (bytes_of 4 (words (λ s. s.credential) size ss))) (left o b.first (bytes_of 4 (words (λ s. s.first) size ss)))
      (left o b.second (bytes_of 4 (words (λ s. s.second) size ss))) (left o b.sets (bytes_of 4 (words (λ s. s.set) size ss)))

  leaving-kept : (ss : List Step) (o : Outcome Counts) (size : ℕ) → writes o ≡ false → b ≡ leaving ss o size
  leaving-kept ss o size w =
      λ j. step_lists (sym (left-kept o b.credential (bytes_of 4 (words (λ s. s.credential) size ss)) w) j) (sym (left-kept o b.first (bytes_of 4 (words (λ s. s.first) size ss)) w) j)
      (sym (left-kept o b.second (bytes_of 4 (words (λ s. s.second) size ss)) w) j) (sym (left-kept o b.sets (bytes_of 4 (words (λ s. s.set) size ss)) w) j)

-- ---- lists that are not of one length

-- a call that is not refused writes its lists
done-writes : {A : Type 0} {a : A} {o : Outcome A} → o ≡ done a → writes o ≡ false → ⊥
done-writes e w = subst⁻¹ T (sym w ∙ ap writes e) tt

module _ (f : Source) (q : Request) (b : StepLists) (e : fit b ≡ false) where
  reply-unfit : (ss : List Step) → query_reply f q b ss ≡ not_whole f (counts 0 0)
  unfolding query_reply reply_with
  reply-unfit ss = steps-unfit b f q e (minute_full_row f q (length (entries 4 b.credential)) ∷ none_row f q ∷ []) (counts (length ss) (level_for f q)) (counts 0 0)

  pub unfit-queried : {r : ℕ} → r ≡ word (λ n. n) (not_whole f 0) → QueriedBytes f q b r b
  unfolding query_bytes
  unfit-queried h =
      let u = reply-unfit [] in
      let w : writes (query_reply f q b []) ≡ false = ap writes u ∙ nine-keeps f (counts 0 0) in
      record {
        steps = [];
        reply = h ∙ nine-word (λ (n : ℕ). n) steps_and_level (reading f) 0 (counts 0 0) ∙ ap (word steps_and_level) (sym u);
        lists = leaving-kept b [] (query_reply f q b []) (length b.credential / 4) w;
        handed = λ c d. absurd (done-writes d w);
        bounded = λ c d. absurd (done-writes d w);
      }

-- ---- lists of one length

module _ (f : Source) (q : Request) (b : StepLists) (n : ℕ) (z : StepSizes b n) where
  as_many : (bs : List ℕ) → length bs ≡ 4 * n → length (entries 4 bs) ≡ n
  as_many bs e = length-entries 4 bs ∙ omega arith

  -- the lists of entries
  pub sized : Sized (step_lists_in b) n n n n
  sized = record { credential = as_many b.credential z.credential; first = as_many b.first z.first; second = as_many b.second z.second; sets = as_many b.sets z.sets }

  bytes-reply : (ss : List Step) → query_reply f q b ss ≡ reply_with f q (step_lists_in b) ss
  unfolding query_reply
  bytes-reply ss = ap (λ (w : Bool). if w (reply_with f q (step_lists_in b) ss) (not_whole f (counts 0 0))) (steps-whole b n z)

  -- what querying leaves of the entries, as bytes
  module _ {o : Outcome Counts} {u : StepLists} (d : Queried f q (step_lists_in b) o u) where
    abbrev ss : List Step
    ss = d.steps

    said : query_reply f q b ss ≡ o
    unfolding querying
    said = bytes-reply ss ∙ sym (ap (λ (e : QueryEnding). e.reply) d.ends)

    abbrev left_by : Outcome Counts → StepLists
    left_by o =
        step_lists (left o (entries 4 b.credential) (words (λ s. s.credential) (length (entries 4 b.credential)) ss)) (left o (entries 4 b.first) (words (λ s. s.first) (length (entries 4 b.credential)) ss))
        (left o (entries 4 b.second) (words (λ s. s.second) (length (entries 4 b.credential)) ss)) (left o (entries 4 b.sets) (words (λ s. s.set) (length (entries 4 b.credential)) ss))

    entries-left : u ≡ left_by o
    unfolding querying
    entries-left = ap (λ (e : QueryEnding). e.lists) d.ends ∙ ap left_by (sym (ap (λ (e : QueryEnding). e.reply) d.ends))

    handed : (c : Counts) → query_reply f q b ss ≡ done c → HandedOut (credentials f) q.minute q.role q.set c.level ss × (length ss ≤ length b.credential / 4)
    handed c e = let g = d.handed c (sym said ∙ e) in (g.0, omega (arith, g.1, length-entries 4 b.credential))

    bounded : (c : Counts) → query_reply f q b ss ≡ done c → Bounded f q (length b.credential / 4) c.level
    bounded c e = let g = d.bounded c (sym said ∙ e) in (g.0, omega (arith, g.1, length-entries 4 b.credential), omega (arith, g.2, length-entries 4 b.credential))

    pub bytes-kept : writes o ≡ false → {r : ℕ} → r ≡ word steps_and_level o → QueriedBytes f q b r b
    unfolding query_bytes
    bytes-kept w h =
        record {
          steps = ss;
          reply = h ∙ ap (word steps_and_level) (sym said);
          lists = leaving-kept b ss (query_reply f q b ss) (length b.credential / 4) (ap writes said ∙ w);
          handed = handed;
          bounded = bounded;
        }

    -- one list of entries that were written or cleared
    one : writes o ≡ true → (field : Step → ℕ) (bs l l' : List ℕ) → length bs ≡ 4 * n → l ≡ left o (entries 4 bs) (words field (length (entries 4 b.credential)) ss) → l' ≡ bytes_of 4 l
        → l' ≡ left o bs (bytes_of 4 (words field (length b.credential / 4) ss))
    one w field bs l l' size e h =
        h ∙ ap (bytes_of 4) e ∙ left-written 4 o bs (entries 4 bs) (words field (length (entries 4 b.credential)) ss) w (omega (arith, as_many bs size))
        ∙ ap (λ (k : ℕ). left o bs (bytes_of 4 (words field k ss))) (length-entries 4 b.credential)

    pub bytes-written : writes o ≡ true → {r : ℕ} → r ≡ word steps_and_level o → {l : StepLists} → l.credential ≡ bytes_of 4 u.credential → l.first ≡ bytes_of 4 u.first → l.second ≡ bytes_of 4 u.second → l.sets ≡ bytes_of 4 u.sets → QueriedBytes f q b r l
    unfolding query_bytes
    bytes-written w h {l} lc lf ls lr =
        let credential = one w (λ s. s.credential) b.credential u.credential l.credential z.credential (ap (λ (t : StepLists). t.credential) entries-left) lc in
        let first = one w (λ s. s.first) b.first u.first l.first z.first (ap (λ (t : StepLists). t.first) entries-left) lf in
        let second = one w (λ s. s.second) b.second u.second l.second z.second (ap (λ (t : StepLists). t.second) entries-left) ls in
        let sets = one w (λ s. s.set) b.sets u.sets l.sets z.sets (ap (λ (t : StepLists). t.sets) entries-left) lr in
        record {
          steps = ss;
          reply = h ∙ ap (word steps_and_level) (sym said);
          lists = (λ a. step_lists (credential a) (first a) (second a) (sets a)) ∙ ap (λ (o : Outcome Counts). leaving b ss o (length b.credential / 4)) (sym said);
          handed = handed;
          bounded = bounded;
        }

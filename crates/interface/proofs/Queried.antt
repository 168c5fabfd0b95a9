-- A query on bytes, read as entries, is a query on entries; and what it then says of the bytes.
use mathlib.Core.Path.{◌≡◌, refl, sym, ap, ◌∙◌}
use mathlib.Core.Bool.{Bool, true}
use mathlib.Core.List.{List, [], map, Memᴰ as Mem}
use Prim.Native.Nat.{ℕ, ◌*◌, ◌^◌, ◌-◌, ◌≤◌, ◌<◌}
use native.Mathlib.Nat.{not-suc-le-zero}
use native.Mathlib.Omega.{arith}
use borrow.Author.Tests.{eq-eqb}
use lib.ListN.{length, replicate, length-append, length-map, length-replicate}
use Rattle.meaning.specs.Lists.{if}
use Rattle.meaning.specs.Proofs.{Step}
use Rattle.file.specs.Refusals.{Outcome, done, left}
use Rattle.file.specs.Reading.{between}
use Rattle.withdrawals.specs.Source.{Source, credentials}
use Rattle.withdrawals.specs.Conditions.{Accepted}
use Rattle.withdrawals.proofs.Credentials.{length-credentials, accepted-fits}
use Rattle.asking.specs.Asking.{Request, StepLists, step_lists, size, one_length}
use Rattle.derivation.specs.HandedOut.{words}
use Rattle.querying.specs.Querying as Q
use Rattle.querying.specs.Querying.{Counts, counts, reply_with, querying, Queried}
use Rattle.checking.specs.Checking.{checking}
use Rattle.codec.specs.Bytes.{bytes_of, entries}
use Rattle.codec.proofs.Entries.{length-bytes_of, length-entries}
use Rattle.replies.specs.Interface.{word, not_whole, entry_count, step_lists_in}
use Rattle.replies.specs.Lengths.{StepSizes}
use Rattle.replies.proofs.Fitting.{steps-whole}
use Rattle.query_bytes.specs.Interface.{steps_and_level, query_reply, query_bytes, QueriedBytes}
use Rattle.check_bytes.specs.Interface.{check_reply}
use Rattle.interface.proofs.Reading.{entries-left, left-length}
use Rattle.interface.proofs.Widths.{column-low, Low, steps_low}

-- checking on whole entries
pub check-entries : (f : Source) (q : Request) (b : StepLists) (L steps : ℕ) → StepSizes b L → check_reply f q b steps ≡ checking f q (step_lists_in b) steps
unfolding check_reply
check-entries f q b L steps z = ap (λ (w : Bool). if w (checking f q (step_lists_in b) steps) (not_whole f 0)) (steps-whole b L z)

-- lists of L entries each are of one length
pub one-length : (b : StepLists) (L : ℕ) → StepSizes b L → between 1 1024 L ≡ true → one_length (step_lists_in b) ≡ true
one-length b L z some =
    let as_long : (bs : List ℕ) → length bs ≡ 4 * L → length (entries 4 bs) ≡ L = λ bs e. length-entries 4 bs ∙ omega arith in
    let c = as_long b.credential z.credential in
    rw (as_long b.first z.first, as_long b.second z.second, as_long b.sets z.sets, c, eq-eqb L L refl, some) refl

module _ (f : Source) (a : Accepted f) (q : Request) (b b' : StepLists) (L r : ℕ) (z : StepSizes b L) (d : QueriedBytes f q b r b') where
  abbrev ss : List Step
  ss = d.steps

  -- the reply as an outcome
  abbrev pub answer : Outcome Counts
  answer = query_reply f q b d.steps

  pub replied : r ≡ word steps_and_level answer
  unfolding query_bytes
  replied = d.reply

  by_entries : answer ≡ reply_with f q (step_lists_in b) ss
  unfolding query_reply
  by_entries = ap (λ (w : Bool). if w (reply_with f q (step_lists_in b) ss) (not_whole f (counts 0 0))) (steps-whole b L z)

  count : entry_count b.credential ≡ L
  count = omega (arith, z.credential)

  pub as_many : size (step_lists_in b) ≡ L
  as_many = length-entries 4 b.credential ∙ count

  few : (c : Counts) → answer ≡ done c → length ss ≤ L
  unfolding query_bytes
  few c e = let h = (d.handed c e).1 in omega (arith, count)

  -- the steps' words fit 4 bytes
  low : (c : Counts) → answer ≡ done c → (s : Step) → Mem s ss → Low (length (credentials f)) 1024 s
  unfolding query_bytes
  low c e =
      steps_low (credentials f) (accepted-fits f a) q.minute 1024 ss [] (omega (arith, few c e, z.few)) (λ i h. absurd (not-suc-le-zero h)) (d.handed c e).0.proof.keeping

  module _ (field : Step → ℕ) (fit : (s : Step) → Low (length (credentials f)) 1024 s → field s < 256 ^ 4) where
    words-length : (c : Counts) → answer ≡ done c → length (words field (entry_count b.credential) ss) ≡ L
    words-length c e =
        length-append (map field ss) (replicate (entry_count b.credential - length ss) 0)
        ∙ omega (arith, length-map ss field, length-replicate {A = ℕ} (entry_count b.credential - length ss) 0, few c e, count)

    module _ (list bytes : List ℕ) (long : length list ≡ 4 * L) (e : bytes ≡ left answer list (bytes_of 4 (words field (entry_count b.credential) ss))) where
      -- one list of bytes, as entries
      words-read : entries 4 bytes ≡ left (reply_with f q (step_lists_in b) ss) (entries 4 list) (words field (size (step_lists_in b)) ss)
      words-read =
          ap (entries 4) e
          ∙ entries-left 4 (λ n. omega arith) (omega arith) L list (words field (entry_count b.credential) ss) long (length-entries 4 list ∙ omega arith) answer
          (λ c k. column-low (256 ^ 4) (omega arith) field (entry_count b.credential - length ss) ss (λ s m. fit s (low c k s m)))
          ∙ (λ j. left (by_entries j) (entries 4 list) (words field (sym (length-entries 4 b.credential) j) ss))

      -- it keeps its length
      bytes-length : length bytes ≡ 4 * L
      bytes-length =
          ap length e
          ∙ left-length answer list (bytes_of 4 (words field (entry_count b.credential) ss))
          (λ c k. length-bytes_of 4 (words field (entry_count b.credential) ss) ∙ ap (λ (n : ℕ). 4 * n) (words-length c k) ∙ sym long)
          ∙ long

  fit-credential : (s : Step) → Low (length (credentials f)) 1024 s → s.credential < 256 ^ 4
  fit-credential s l = omega (arith, l.credential, length-credentials f, a.readable.head.limits.credentials)

  fit-first : (s : Step) → Low (length (credentials f)) 1024 s → s.first < 256 ^ 4
  fit-first s l = omega (arith, l.first)

  fit-second : (s : Step) → Low (length (credentials f)) 1024 s → s.second < 256 ^ 4
  fit-second s l = omega (arith, l.second)

  fit-set : (s : Step) → Low (length (credentials f)) 1024 s → s.set < 256 ^ 4
  fit-set s l = omega (arith, l.set)

  pub sizes-left : StepSizes b' L
  unfolding query_bytes
  sizes-left = record {
    credential = bytes-length (λ s. s.credential) fit-credential b.credential b'.credential z.credential (ap (λ (l : StepLists). l.credential) d.lists);
    first = bytes-length (λ s. s.first) fit-first b.first b'.first z.first (ap (λ (l : StepLists). l.first) d.lists);
    second = bytes-length (λ s. s.second) fit-second b.second b'.second z.second (ap (λ (l : StepLists). l.second) d.lists);
    sets = bytes-length (λ s. s.set) fit-set b.sets b'.sets z.sets (ap (λ (l : StepLists). l.sets) d.lists);
    few = z.few;
  }

  lists-left : Q.query_ending answer (step_lists_in b') ≡ querying f q (step_lists_in b) ss
  unfolding query_bytes querying
  lists-left =
      let c = words-read (λ s. s.credential) fit-credential b.credential b'.credential z.credential (ap (λ (l : StepLists). l.credential) d.lists) in
      let x = words-read (λ s. s.first) fit-first b.first b'.first z.first (ap (λ (l : StepLists). l.first) d.lists) in
      let y = words-read (λ s. s.second) fit-second b.second b'.second z.second (ap (λ (l : StepLists). l.second) d.lists) in
      let v = words-read (λ s. s.set) fit-set b.sets b'.sets z.sets (ap (λ (l : StepLists). l.sets) d.lists) in
      λ j. Q.query_ending (by_entries j) (step_lists (c j) (x j) (y j) (v j))

  -- the query on entries
  pub as-entries : Queried f q (step_lists_in b) answer (step_lists_in b')
  unfolding query_bytes
  as-entries = record {
    steps = ss;
    ends = lists-left;
    handed = λ c e. ((d.handed c e).0, omega (arith, few c e, as_many));
    bounded = λ c e. let g = d.bounded c e in (g.0, omega (arith, g.1, length-entries 4 b.credential), omega (arith, g.2, length-entries 4 b.credential));
  }

-- What a query says where the file is accepted, the request is in range and the memberships at the minute fit the lists.
use mathlib.Core.Path.{◌≡◌, refl, sym, ap, ◌∙◌, subst⁻¹}
use mathlib.Core.Bool.{Bool, true, false, ◌&&◌, not}
use mathlib.Core.List.{List, [], ◌∷◌, ◌++◌, map}
use Prim.Native.Nat.{ℕ, ◌-◌, ◌≤◌, ◌<◌}
use native.Mathlib.Omega.{arith}
use borrow.Author.Tests.{le-ltb}
use lib.Dec.{T, eqb}
use lib.ListN.{length, get_or, replicate, length-append, length-map, length-replicate}
use Rattle.meaning.specs.Credentials.{FitsAll}
use Rattle.meaning.specs.Members.{Membership, member, has, members}
use Rattle.meaning.specs.Proofs.{Step, Shown, Proof, shown_by}
use Rattle.meaning.proofs.Tests.{is_true, is_false}
use Rattle.meaning.proofs.OrderLaws.{has_in, has-out}
use Rattle.meaning.proofs.Rows.{members-derivable, valid-fits}
use Rattle.meaning.proofs.Least.{provable-derivable, least-counted, proof-bound}
use Rattle.file.specs.Refusals.{Outcome, done, refused, first, left}
use Rattle.file.specs.Reading.{between}
use Rattle.withdrawals.specs.Source.{Source, credentials}
use Rattle.withdrawals.proofs.Claims.{within-format}
use Rattle.asking.specs.Asking.{Request, StepLists, step_in, steps_in, size, one_length, Askable}
use Rattle.asking.proofs.Asked.{askable-passes, same-lengths}
use Rattle.derivation.specs.HandedOut.{HandedOut, words}
use Rattle.querying.specs.Querying.{Counts, counts, minute_full_row, none_row, level_for, reply_with, QueryEnding, querying, Queried}
use Rattle.checking.specs.Checking.{checking}
use Rattle.checking.proofs.Claims.{passes-exactly}
use Rattle.joint.specs.Joint.{SomeProof, Given, AfterQuery}
use Rattle.joint.proofs.Lists.{positions, column-at, column-past}

no-refusal : {n p : ℕ} {c : Counts} → refused n p ≡ done c → ⊥
no-refusal e = let z : ◌≡◌ {A = ℕ} 0 1 = cc in absurd (omega arith)

words-length : (field : Step → ℕ) (n : ℕ) (ss : List Step) → length ss ≤ n → length (words field n ss) ≡ n
words-length field n ss h =
    length-append (map field ss) (replicate (n - length ss) 0) ∙ omega (arith, length-map ss field, length-replicate {A = ℕ} (n - length ss) 0)

abbrev no_step : Step
no_step = record { credential = 0; first = 0; second = 0; set = 0 }

module _ (f : Source) (q : Request) (t t' : StepLists) (reply : Outcome Counts) (a : Askable f q t) (room : length (members (credentials f) q.minute) ≤ size t) (d : Queried f q t reply t') where
  w : FitsAll (credentials f)
  w = within-format f a.accepted

  abbrev M : List Membership
  M = members (credentials f) q.minute

  there : SomeProof f q → has (member q.role q.set) M ≡ true
  there p = is_true (has (member q.role q.set) M) (has_in (member q.role q.set) ((members-derivable (credentials f) w q.minute).1 ((provable-derivable (credentials f) q.minute).0 p)))

  proved : T (has (member q.role q.set) M) → SomeProof f q
  proved h = (provable-derivable (credentials f) q.minute).1 ((members-derivable (credentials f) w q.minute).0 (has-out (member q.role q.set) M h))

  abbrev answer : Counts
  answer = counts (length d.steps) (level_for f q)

  abbrev by_has : Bool → Outcome Counts
  by_has b = elim (not b) [ true ↦ refused 13 0 | false ↦ done answer ]

  replies : reply ≡ reply_with f q t d.steps
  unfolding querying
  replies = ap (λ (e : QueryEnding). e.reply) d.ends

  -- the rows above 13 do not hold
  decided : reply ≡ by_has (has (member q.role q.set) M)
  unfolding reply_with
  decided = replies ∙ askable-passes f q t a (minute_full_row f q (size t) ∷ none_row f q ∷ []) answer ∙ rw (le-ltb (size t) (length M) room) refl

  none-refused : ¬ SomeProof f q → reply ≡ refused 13 0
  none-refused n = decided ∙ ap by_has (is_false (has (member q.role q.set) M) (λ h. n (proved h)))

  refused_none : reply ≡ refused 13 0 → ¬ SomeProof f q
  refused_none e p = no-refusal (sym e ∙ decided ∙ ap by_has (there p))

  module _ (p : SomeProof f q) where
    replied : reply ≡ done answer
    replied = decided ∙ ap by_has (there p)

    abbrev ss : List Step
    ss = d.steps

    handed : HandedOut (credentials f) q.minute q.role q.set (level_for f q) ss
    handed = (d.handed answer replied).0

    few : length ss ≤ size t
    few = (d.handed answer replied).1

    list : (field : Step → ℕ) (before : List ℕ) → left (reply_with f q t ss) before (words field (size t) ss) ≡ words field (size t) ss
    list field before = ap (λ (o : Outcome Counts). left o before (words field (size t) ss)) (sym replies ∙ replied)

    by-credential : t'.credential ≡ words (λ s. s.credential) (size t) ss
    unfolding querying
    by-credential = ap (λ (e : QueryEnding). e.lists.credential) d.ends ∙ list (λ s. s.credential) t.credential

    by_first : t'.first ≡ words (λ s. s.first) (size t) ss
    unfolding querying
    by_first = ap (λ (e : QueryEnding). e.lists.first) d.ends ∙ list (λ s. s.first) t.first

    by-second : t'.second ≡ words (λ s. s.second) (size t) ss
    unfolding querying
    by-second = ap (λ (e : QueryEnding). e.lists.second) d.ends ∙ list (λ s. s.second) t.second

    by-set : t'.sets ≡ words (λ s. s.set) (size t) ss
    unfolding querying
    by-set = ap (λ (e : QueryEnding). e.lists.sets) d.ends ∙ list (λ s. s.set) t.sets

    same_size : size t' ≡ size t
    same_size = ap length by-credential ∙ words-length (λ s. s.credential) (size t) ss few

    -- the lists hold the steps
    step-at : (i : ℕ) → i < length ss → step_in t' i ≡ get_or ss i no_step
    step-at i h =
        let a = ap (λ (l : List ℕ). get_or l i 0) by-credential ∙ column-at no_step (λ s. s.credential) (size t - length ss) ss i h in
        let b = ap (λ (l : List ℕ). get_or l i 0) by_first ∙ column-at no_step (λ s. s.first) (size t - length ss) ss i h in
        let c = ap (λ (l : List ℕ). get_or l i 0) by-second ∙ column-at no_step (λ s. s.second) (size t - length ss) ss i h in
        let e = ap (λ (l : List ℕ). get_or l i 0) by-set ∙ column-at no_step (λ s. s.set) (size t - length ss) ss i h in
        λ j. record { credential = a j; first = b j; second = c j; set = e j }

    steps-read : steps_in t' (length ss) ≡ ss
    steps-read = positions no_step ss (step_in t') step-at

    zeros : (i : ℕ) → length ss ≤ i → step_in t' i ≡ record { credential = 0; first = 0; second = 0; set = 0 }
    zeros i h =
        let a = ap (λ (l : List ℕ). get_or l i 0) by-credential ∙ column-past no_step (λ s. s.credential) (size t - length ss) ss i h in
        let b = ap (λ (l : List ℕ). get_or l i 0) by_first ∙ column-past no_step (λ s. s.first) (size t - length ss) ss i h in
        let c = ap (λ (l : List ℕ). get_or l i 0) by-second ∙ column-past no_step (λ s. s.second) (size t - length ss) ss i h in
        let e = ap (λ (l : List ℕ). get_or l i 0) by-set ∙ column-past no_step (λ s. s.set) (size t - length ss) ss i h in
        λ j. record { credential = a j; first = b j; second = c j; set = e j }

    -- a proof has a step
    some : 1 ≤ length ss
    some = go ss _ handed.proof.last.0 handed.proof.last.1
      where
        go : (us : List Step) (x : Shown) (before : List Shown) → shown_by (credentials f) [] us ≡ before ++ x ∷ [] → 1 ≤ length us
        go [] x before e = absurd (omega (arith, ap length e, length-append before (x ∷ [])))
        go (u ∷ us) x before e = omega arith

    -- the lists as they were left can be checked for the same request
    askable : Askable f q t'
    askable = record { accepted = a.accepted; lists = one-length; within = a.within; some = a.some; minute = a.minute }
      where
        lengths : (length t'.first ≡ length t.first) × (length t'.second ≡ length t.second) × (length t'.sets ≡ length t.sets)
        lengths =
            let l = same-lengths t a.lists in (
              ap length by_first ∙ words-length (λ s. s.first) (size t) ss few ∙ sym l.0,
              ap length by-second ∙ words-length (λ s. s.second) (size t) ss few ∙ sym l.1,
              ap length by-set ∙ words-length (λ s. s.set) (size t) ss few ∙ sym l.2,
            )

        one-length : one_length t' ≡ true
        one-length =
            (λ i. eqb (lengths.0 i) (same_size i) && eqb (lengths.1 i) (same_size i) && eqb (lengths.2 i) (same_size i) && between 1 1024 (same_size i)) ∙ a.lists

    checked : checking f q t' (length ss) ≡ done (level_for f q)
    checked =
        (passes-exactly f q t' (length ss) askable some (omega (arith, few, same_size)) (level_for f q)).1
        (subst⁻¹ (Proof (credentials f) q.minute q.role q.set (level_for f q)) steps-read handed.proof)

    given : Given f q reply t'
    given = record {
      counts = answer;
      replied = replied;
      fits = omega (arith, few, same_size);
      zeros = zeros;
      handed = subst⁻¹ (HandedOut (credentials f) q.minute q.role q.set (level_for f q)) steps-read handed;
      checked = checked;
      least = λ k us r. proof-bound (credentials f) q.minute (least-counted (credentials f) q.minute (valid-fits (credentials f) w q.minute) p) r;
    }

  pub after-query : AfterQuery f q reply t'
  after-query = record { given = given; none = (refused_none, none-refused) }

-- The refusals of querying are given exactly under the documents' conditions.
use mathlib.Core.Path.{◌≡◌, refl, sym, ap, ◌∙◌, subst}
use mathlib.Core.Logic.{◌⊎◌, inl, inr, ◌↔◌}
use mathlib.Core.Bool.{Bool}
use mathlib.Core.List.{List, [], ◌∷◌}
use Prim.Native.Nat.{ℕ, ◌<◌, ◌≤◌}
use native.Mathlib.Omega.{arith}
use lib.Dec.{T, ltb→lt, lt→ltb, T_not, not_T}
use lib.ListN.{length}
use Rattle.meaning.specs.Members.{member, has, members}
use Rattle.meaning.specs.Proofs.{Step, Provable}
use Rattle.meaning.proofs.OrderLaws.{has_in, has-out}
use Rattle.meaning.proofs.Claims.{members-exact, proofs-and-rules, least-level-bound}
use Rattle.file.specs.Refusals.{RefusalRow, Outcome, done, refused, first}
use Rattle.file.proofs.Refusals.{pass, give, by-test, less}
use Rattle.withdrawals.specs.Source.{Source, credentials}
use Rattle.withdrawals.proofs.Claims.{within-format}
use Rattle.withdrawals.proofs.Refusals.{not-of-source}
use Rattle.asking.specs.Asking.{Request, StepLists, size, Askable}
use Rattle.asking.specs.Conditions.{RefusedRequest, file, lengths, numbers, minute}
use Rattle.asking.proofs.Asked.{askable-passes, same-lengths}
use Rattle.asking.proofs.Requests.{RequestVerdict, request-verdict, call-refused}
use Rattle.querying.specs.Querying.{Counts, counts, minute_full_row, none_row, level_for, reply_with, QueryEnding, querying, Bounded, Queried}
use Rattle.querying.specs.Conditions.{members_for, RefusedQuery, request, full, none}

-- a request's refusals are neither 10 nor 13, which the query itself gives
not-10-or-13 : {f : Source} {q : Request} {t : StepLists} {n p : ℕ} → RefusedRequest f q t n p → (n ≡ 10 → ⊥) × (n ≡ 13 → ⊥)
not-10-or-13 {f} (file r) = (not-of-source f r 10 tt, not-of-source f r 13 tt)
not-10-or-13 (lengths c h) = ((λ e. omega arith), λ e. omega arith)
not-10-or-13 (numbers c o h) = ((λ e. omega arith), λ e. omega arith)
not-10-or-13 (minute c o n m) = ((λ e. omega arith), λ e. omega arith)

module _ (f : Source) (q : Request) (t : StepLists) where
  abbrev Proved : Type 0
  Proved = Provable (credentials f) q.minute q.role q.set

  abbrev there : Bool
  there = has (member q.role q.set) (members (credentials f) q.minute)

  module _ (a : Askable f q t) where
    there_out : T there → Proved
    there_out h =
        (proofs-and-rules (credentials f) q.minute).1
        ((members-exact (credentials f) (within-format f a.accepted) q.minute).0 (has-out (member q.role q.set) (members (credentials f) q.minute) h))

    there-in : Proved → T there
    there-in p =
        has_in (member q.role q.set) ((members-exact (credentials f) (within-format f a.accepted) q.minute).1 ((proofs-and-rules (credentials f) q.minute).0 p))

  -- a proof is handed out
  pub record Answerable : Type 0 where
    pub askable : Askable f q t
    pub few : members_for f q ≤ size t
    pub proved : Proved

  module _ (ss : List Step) where
    abbrev answer : Counts
    answer = counts (length ss) (level_for f q)

    abbrev rows : List RefusalRow
    rows = minute_full_row f q (size t) ∷ none_row f q ∷ []

    -- ---- the conditions give the replies

    asked : Askable f q t → reply_with f q t ss ≡ first rows answer
    unfolding reply_with
    asked a = askable-passes f q t a rows answer

    few-pass : members_for f q ≤ size t → first rows answer ≡ first (none_row f q ∷ []) answer
    few-pass h = pass answer (minute_full_row f q (size t)) (none_row f q ∷ []) (λ u. omega (arith, ltb→lt (size t) (members_for f q) u))

    refused-reply : {n p : ℕ} → RefusedQuery f q t n p → reply_with f q t ss ≡ refused n p
    unfolding reply_with
    refused-reply (request r) = call-refused f q t answer rows r
    refused-reply (full a h) = asked a ∙ give answer (minute_full_row f q (size t)) (none_row f q ∷ []) (lt→ltb (size t) (members_for f q) h)
    refused-reply (none a h n) = asked a ∙ few-pass h ∙ give answer (none_row f q) [] (not_T there (λ u. n (there_out a u)))

    answered-reply : Answerable → reply_with f q t ss ≡ done answer
    answered-reply x =
        asked x.askable ∙ few-pass x.few ∙ pass answer (none_row f q) [] (λ u. T_not there u (there-in x.askable x.proved))

  -- ---- one of the conditions holds

  QueryVerdict : Type 0
  QueryVerdict = Answerable ⊎ ((n p : ℕ) × RefusedQuery f q t n p)

  query-verdict : QueryVerdict
  unfolding QueryVerdict
  query-verdict = by-request (request-verdict f q t)
    where
      by-proof : Askable f q t → members_for f q ≤ size t → Proved ⊎ (¬ Proved) → QueryVerdict
      by-proof a h (inl p) = inl (record { askable = a; few = h; proved = p })
      by-proof a h (inr n) = inr (13, 0, none a h n)

      by_count : Askable f q t → (size t < members_for f q) ⊎ (members_for f q ≤ size t) → QueryVerdict
      by_count a (inl h) = inr (10, 0, full a h)
      by_count a (inr h) = by-proof a h (by-test there (there_out a) (there-in a))

      by-request : RequestVerdict f q t → QueryVerdict
      by-request (inl a) = by_count a (less (size t) (members_for f q))
      by-request (inr (n, p, r)) = inr (n, p, request r)

  -- ---- the bound

  abbrev level_in : Outcome Counts → ℕ
  level_in (done c) = c.level
  level_in (refused n p) = 0

  -- a level that is replied is the least one, so no more than there are memberships
  pub reply-bound : (ss : List Step) (c : Counts) → reply_with f q t ss ≡ done c → Bounded f q (size t) c.level
  unfolding QueryVerdict
  reply-bound ss c e = go query-verdict
    where
      go : QueryVerdict → Bounded f q (size t) c.level
      go (inl x) =
          let l : level_for f q ≡ c.level = ap level_in (sym (answered-reply ss x) ∙ e) in
          (omega (arith, least-level-bound (credentials f) (within-format f x.askable.accepted) q.minute x.proved), x.few, (same-lengths t x.askable.lists).3)
      go (inr (n, p, r)) =
          let y = sym (refused-reply ss r) ∙ e in
          let z : ◌≡◌ {A = ℕ} 0 1 = cc in
          absurd (omega arith)

  -- ---- by number

  ten-out : {n p : ℕ} → RefusedQuery f q t n p → n ≡ 10 → Askable f q t × (size t < members_for f q)
  ten-out (request r) e = absurd ((not-10-or-13 r).0 e)
  ten-out (full a h) e = (a, h)
  ten-out (none a h n) e = absurd (omega arith)

  thirteen-out : {n p : ℕ} → RefusedQuery f q t n p → n ≡ 13 → Askable f q t × (members_for f q ≤ size t) × ¬ Proved
  thirteen-out (request r) e = absurd ((not-10-or-13 r).1 e)
  thirteen-out (full a h) e = absurd (omega arith)
  thirteen-out (none a h n) e = (a, h, n)

  -- ---- exact both ways

  module _ {reply : Outcome Counts} {t' : StepLists} (d : Queried f q t reply t') where
    replies : reply ≡ reply_with f q t d.steps
    unfolding querying
    replies = ap (λ (e : QueryEnding). e.reply) d.ends

    pub refused-exact : (n p : ℕ) → reply ≡ refused n p ↔ RefusedQuery f q t n p
    unfolding QueryVerdict
    refused-exact n p = (λ e. go e query-verdict, λ r. replies ∙ refused-reply d.steps r)
      where
        go : reply ≡ refused n p → QueryVerdict → RefusedQuery f q t n p
        go e (inl x) =
            let y = replies ∙ answered-reply d.steps x in
            let z : ◌≡◌ {A = ℕ} 0 1 = cc in
            absurd (omega arith)
        go e (inr (k, o, r)) =
            let x = replies ∙ refused-reply d.steps r in
            let u : k ≡ n = cc in
            let v : o ≡ p = cc in
            subst (λ (y : ℕ). RefusedQuery f q t n y) v (subst (λ (y : ℕ). RefusedQuery f q t y o) u r)

    pub ten-exact : reply ≡ refused 10 0 ↔ (Askable f q t × (size t < members_for f q))
    ten-exact = ((λ e. ten-out ((refused-exact 10 0).0 e) refl), λ (a, h). (refused-exact 10 0).1 (full a h))

    pub thirteen-exact : reply ≡ refused 13 0 ↔ (Askable f q t × (members_for f q ≤ size t) × ¬ Proved)
    thirteen-exact = ((λ e. thirteen-out ((refused-exact 13 0).0 e) refl), λ (a, h, n). (refused-exact 13 0).1 (none a h n))

    pub proof-exact : ((c : Counts) × (reply ≡ done c)) ↔ (Askable f q t × (members_for f q ≤ size t) × Proved)
    unfolding QueryVerdict
    proof-exact = (
      (λ (c, e). go c e query-verdict),
      λ (a, h, p). (counts (length d.steps) (level_for f q), replies ∙ answered-reply d.steps (record { askable = a; few = h; proved = p })),
    )
      where
        go : (c : Counts) → reply ≡ done c → QueryVerdict → Askable f q t × (members_for f q ≤ size t) × Proved
        go c e (inl x) = (x.askable, x.few, x.proved)
        go c e (inr (n, p, r)) =
            let y = replies ∙ refused-reply d.steps r in
            let z : ◌≡◌ {A = ℕ} 0 1 = cc in
            absurd (omega arith)

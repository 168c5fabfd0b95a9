-- What checking a proof is shown to mean. The laws behind each claim are in `Passing` and `Parts`.
use mathlib.Core.Path.{◌≡◌, ap, ◌∙◌, subst}
use mathlib.Core.Logic.{◌↔◌}
use mathlib.Core.Bool.{Bool, false, ◌&&◌, ◌||◌}
use mathlib.Core.List.{List, [], ◌++◌, append_assoc}
use Prim.Native.Nat.{ℕ, ◌<◌, ◌≤◌}
use native.Mathlib.Omega.{arith}
use lib.Dec.{T, ltb}
use lib.ListN.{length}
use Rattle.meaning.specs.Credentials.{Body, Credential, covers, credential_at}
use Rattle.meaning.specs.Proofs.{Step, Shown, cites_first, cites_second, citable, follows, first_of, second_of, keeps, shown_by, all_keep, Proof}
use Rattle.meaning.proofs.Tests.{and_left, and_right, is_false}
use Rattle.file.specs.Refusals.{RefusalRow, done, refused, first}
use Rattle.file.specs.Format as F
use Rattle.file.specs.Format.{serial_of}
use Rattle.file.specs.Reading as Reading
use Rattle.file.specs.Reading.{between}
use Rattle.withdrawals.specs.List.{count, serial_at, minute_at, none}
use Rattle.withdrawals.specs.Source.{Source, ◌without◌, N, credentials, reading}
use Rattle.withdrawals.proofs.Claims.{credential-at-position, source-covers, uncut-first}
use Rattle.asking.specs.Asking.{Request, StepLists, step_in, steps_in, size, request_rows, asking, Askable}
use Rattle.asking.specs.Conditions.{of_request}
use Rattle.checking.specs.Checking.{step_holds, last_shown, part_before, proof_rows, checking}
use Rattle.checking.proofs.Passing as Passing
use Rattle.checking.proofs.Parts.{AgreeBelow, same_answer}

-- a step that keeps the rules is by a credential that is valid
kept-valid : (m : ℕ) (c : Credential) (before : List Shown) (s : Step) → T (keeps m c before s) → T (covers c.period m)
kept-valid m c before s t =
    let e : Body = c.statement.body in
    let v : Bool = covers c.period m in
    let a : Bool = citable (cites_first e) before s.first in
    let b : Bool = citable (cites_second e) before s.second in
    and_left v a (and_left (v && a) b (and_left (v && a && b) (follows e (first_of e before s) (second_of e before s) s.set) t))

module _ (f : Source) (q : Request) (t : StepLists) (n : ℕ) where
  -- Every refusal is one of a request's, which are 1 to 9, 11, 12, 17, 20 and 21, or 14 to 16: never 10, and never 13.
  pub refusal-numbers : (k p : ℕ) → checking f q t n ≡ refused k p → T (of_request k || between 14 16 k) × ¬ (k ≡ 10) × ¬ (k ≡ 13)
  refusal-numbers k p e =
      let u = Passing.refusal-numbers f q t n k p e in
      let number : (ℕ → Type 0) = λ m. T (of_request m || between 14 16 m) in
      (u, (λ i. subst number i u), λ i. subst number i u)

  -- Entries at and past the step count play no part: two proofs that agree below it are answered alike.
  pub part-before-count : {u : StepLists} → AgreeBelow n t u → checking f q t n ≡ checking f q u n
  part-before-count a = same_answer a f q

  module _ (a : Askable f q t) where
    -- 14 is given exactly when the step count is outside 1 to L.
    pub count-outside : checking f q t n ≡ refused 14 0 ↔ ¬ ((1 ≤ n) × (n ≤ size t))
    count-outside = Passing.count-outside f q t n a

    module _ (some : 1 ≤ n) (few : n ≤ size t) where
      -- A level k is answered exactly when the steps are a proof of the queried membership at the minute, of level k.
      pub passes-exactly : (k : ℕ) → checking f q t n ≡ done k ↔ Proof (credentials f) q.minute q.role q.set k (steps_in t n)
      passes-exactly = Passing.passes-exactly f q t n a some few

      -- 15 names step p exactly when p is the first of the steps that does not keep the rules.
      pub first-broken : (p : ℕ) → checking f q t n ≡ refused 15 p
          ↔ ((p < n) × T (all_keep (credentials f) q.minute [] (steps_in t p)) × (step_holds (credentials f) q.minute (steps_in t p) (step_in t p) ≡ false))
      first-broken = Passing.first-broken f q t n a some few

      -- So a step by a credential whose withdrawal has begun is refused, where the steps before it keep the rules.
      pub withdrawn-step : (p k : ℕ) → p < n → T (all_keep (credentials f) q.minute [] (steps_in t p)) → (step_in t p).credential < N f
          → k < count f.withdrawals → serial_at f.withdrawals k ≡ serial_of f.file (step_in t p).credential → minute_at f.withdrawals k ≤ q.minute
          → checking f q t n ≡ refused 15 p
      withdrawn-step p k l before low h e begun =
          (first-broken p).1 (
            l,
            before,
            is_false _ (λ holds.
                let c = credential_at (credentials f) (step_in t p).credential in
                let kept = and_right (ltb (step_in t p).credential (length (credentials f))) (keeps q.minute c (shown_by (credentials f) [] (steps_in t p)) (step_in t p)) holds in
                let valid = kept-valid q.minute c (shown_by (credentials f) [] (steps_in t p)) (step_in t p) kept in
                let m = ((source-covers f a.accepted.readable (step_in t p).credential low q.minute).0
                (subst (λ (x : Credential). T (covers x.period q.minute)) (credential-at-position f (step_in t p).credential low) valid)).2 k h e in
                absurd (omega arith)),
          )

      -- 16 is given exactly when all steps keep the rules and the last shows another membership.
      pub other-membership : checking f q t n ≡ refused 16 0
          ↔ (T (all_keep (credentials f) q.minute [] (steps_in t n)) × ¬ (((last_shown (credentials f) t n).role ≡ q.role) × ((last_shown (credentials f) t n).set ≡ q.set)))
      other-membership = Passing.other-membership f q t n a some few

-- With the list of count 0 the answer is by the file's own refusals and credentials.
pub uncut-checking : (f : List ℕ) (q : Request) (t : StepLists) (n : ℕ) → checking (f without none) q t n
    ≡ first (Reading.reading f ++ (request_rows (f without none) q t ++ proof_rows (F.credentials f) q t n)) (last_shown (F.credentials f) (part_before n t) n).level
unfolding checking asking
uncut-checking f q t n =
    ap (λ (rows : List RefusalRow). first rows (last_shown (credentials (f without none)) (part_before n t) n).level)
    (append_assoc (reading (f without none)) (request_rows (f without none) q t) (proof_rows (credentials (f without none)) q t n))
    ∙ uncut-first f (λ cs. request_rows (f without none) q t ++ proof_rows cs q t n) (λ cs. (last_shown cs (part_before n t) n).level)

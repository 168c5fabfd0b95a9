-- The requests that demand 3 speaks of are those that neither 11 nor 12 refuses.
use mathlib.Core.Path.{◌≡◌, subst⁻¹}
use mathlib.Core.Logic.{inl, inr, ◌↔◌}
use mathlib.Core.Bool.{true}
use Prim.Native.Nat.{ℕ, ◌≤◌}
use native.Mathlib.Omega.{arith}
use lib.Dec.{T}
use Rattle.file.specs.Refusals.{Outcome, refused, first}
use Rattle.withdrawals.specs.Source.{Source}
use Rattle.withdrawals.specs.Conditions.{Accepted}
use Rattle.withdrawals.proofs.Refusals.{accepted-read, refused-read}
use Rattle.asking.specs.Asking.{Request, StepLists, one_length, asking, Askable}
use Rattle.asking.specs.Conditions.{RefusedRequest, file, lengths, numbers, minute}
use Rattle.asking.proofs.Asked.{asking-done}
use Rattle.asking.proofs.Requests.{lengths-out, request-refused, RequestVerdict, request-verdict}
use Rattle.joint.specs.Joint.{InRange}

module _ (f : Source) (q : Request) (t : StepLists) (c : Accepted f) (o : one_length t ≡ true) (m : q.minute ≤ 4294967295) where
  Given : ℕ → Type 0
  Given n = ◌≡◌ {A = Outcome ℕ} (first (asking f q t) 0) (refused n 0)

  ranged : InRange f q → (n : ℕ) → ¬ Given n
  unfolding Given
  ranged r n e =
      let k : Askable f q t = record { accepted = c; lists = o; within = r.numbers; some = r.some; minute = λ i. let l = r.minute in omega arith } in
      let d = asking-done f q t k {B = ℕ} 0 in
      let z : ◌≡◌ {A = ℕ} 0 1 = cc in
      omega arith

  refused-by : {n p : ℕ} → RefusedRequest f q t n p → ¬ Given 11 → ¬ Given 12 → ⊥
  unfolding Given
  refused-by (file r) a b =
      let x = accepted-read {A = ℕ} 0 f c in
      let y = refused-read {A = ℕ} 0 f r in
      let z : ◌≡◌ {A = ℕ} 0 1 = cc in
      omega arith
  refused-by (lengths d h) a b = h (lengths-out t (subst⁻¹ T o tt))
  refused-by (numbers d l h) a b = a (request-refused f q t 0 (numbers d l h))
  refused-by (minute d l n h) a b = b (request-refused f q t 0 (minute d l n h))

  pub in-range-exact : InRange f q ↔ (¬ (◌≡◌ {A = Outcome ℕ} (first (asking f q t) 0) (refused 11 0)) × ¬ (◌≡◌ {A = Outcome ℕ} (first (asking f q t) 0) (refused 12 0)))
  unfolding Given
  in-range-exact = ((λ r. (ranged r 11, ranged r 12)), λ (a, b). go a b (request-verdict f q t))
    where
      go : ¬ Given 11 → ¬ Given 12 → RequestVerdict f q t → InRange f q
      go a b (inl k) = record { numbers = k.within; some = k.some; minute = let h = k.minute in omega arith }
      go a b (inr (n, p, r)) = absurd (refused-by r a b)

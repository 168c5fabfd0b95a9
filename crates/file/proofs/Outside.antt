-- Bytes outside the serials: they alone decide which credentials a file has.
use mathlib.Core.Path.{◌≡◌, refl, ap, ◌∙◌}
use mathlib.Core.Logic.{◌⊎◌, inl, inr}
use mathlib.Core.List.{List, ◌∷◌, map}
use Prim.Native.Nat.{ℕ, zero, suc, ◌+◌, ◌*◌, ◌<◌, ◌≤◌}
use native.Mathlib.Omega.{arith}
use Rattle.meaning.specs.Lists.{up_from, below}
use Rattle.meaning.specs.Credentials.{Credential}
use Rattle.file.specs.Format.{byte, four, N, statement_at, period_at, field, from_of, to_of, role_of, role_number, body_of, with_body, credential_in, credentials}
use Rattle.file.specs.Conditions.{AlikeOutside}
use Rattle.file.proofs.Refusals.{less}

map-up-from : (g h : ℕ → Credential) (i n : ℕ) → ((j : ℕ) → i ≤ j → j < i + n → g j ≡ h j) → map g (up_from i n) ≡ map h (up_from i n)
map-up-from g h i zero e = refl
map-up-from g h i (suc n) e =
    let a = e i (omega arith) (omega arith) in
    let b = map-up-from g h (suc i) n (λ j l m. e j (omega arith) (omega arith)) in
    λ k. a k ∷ b k

module _ (f g : List ℕ) (same : AlikeOutside f g) where
  same_count : N f ≡ N g
  same_count =
      let a = same 4 (λ i m. inl (omega arith)) in
      let b = same 5 (λ i m. inl (omega arith)) in
      omega arith

  -- a credential by its numbers
  abbrev made : ℕ → ℕ → ℕ → ℕ → ℕ → ℕ → ℕ → ℕ → ℕ → Credential
  made kind A r b s c t from to = with_body (role_number (role_of A r)) (record { from = from; until = to + 1 }) (body_of kind b s c t)

  module _ (i : ℕ) (l : i < N f) where
    same-field : (j : ℕ) → j < 8 → field f i j ≡ field g i j
    same-field j m = same (statement_at i + j) (λ k n. go k (less k i))
      where
        go : (k : ℕ) → (k < i) ⊎ (i ≤ k) → (statement_at i + j < statement_at k + 8) ⊎ (statement_at k + 12 ≤ statement_at i + j)
        go k (inl h) = inr (omega arith)
        go k (inr h) = inl (omega arith)

    period-byte : (p : ℕ) → period_at f i ≤ p → byte f p ≡ byte g p
    period-byte p m = same p (λ k n. inr (omega arith))

    period-four : (p : ℕ) → period_at f i ≤ p → four f p ≡ four g p
    period-four p m =
        let a = period-byte p (omega arith) in
        let b = period-byte (p + 1) (omega arith) in
        let c = period-byte (p + 2) (omega arith) in
        let d = period-byte (p + 2 + 1) (omega arith) in
        omega arith

    same_from : from_of f i ≡ from_of g i
    same_from = period-four (period_at f i) (omega arith) ∙ ap (λ (n : ℕ). four g (6 + 12 * n + 8 * i)) same_count

    same-to : to_of f i ≡ to_of g i
    same-to = period-four (period_at f i + 4) (omega arith) ∙ ap (λ (n : ℕ). four g (6 + 12 * n + 8 * i + 4)) same_count

    same-credential : credential_in f i ≡ credential_in g i
    same-credential =
        let kind = same-field 0 (omega arith) in
        let A = same-field 1 (omega arith) in
        let r = same-field 2 (omega arith) in
        let b = same-field 3 (omega arith) in
        let s = same-field 4 (omega arith) in
        let c = same-field 5 (omega arith) in
        let t = same-field 6 (omega arith) in
        λ k. made (kind k) (A k) (r k) (b k) (s k) (c k) (t k) (same_from k) (same-to k)

  pub same-credentials : credentials f ≡ credentials g
  unfolding credentials
  same-credentials =
      map-up-from (credential_in f) (credential_in g) 0 (N f) (λ i l m. same-credential i (omega arith))
      ∙ ap (λ (n : ℕ). map (credential_in g) (below n)) same_count

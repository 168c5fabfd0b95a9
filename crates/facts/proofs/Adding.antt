-- Adding the sets of one credential after another to entries, given as lists.
use mathlib.Core.Path.{subst⁻¹}
use mathlib.Core.List.{List}
use Prim.Native.Nat.{ℕ, ◌+◌, ◌≤◌, ◌<◌}
use native.Mathlib.Nat.{not-suc-le-zero}
use native.Mathlib.Omega.{arith}
use Rattle.policy.specs.Policy.{credential_of}
use Rattle.heads.specs.Gaining.{Kept, Gains}
use Rattle.heads.proofs.Gaining.{gains-none, gains-by, gains-same, gains-over, gains-then}
use Rattle.facts.specs.Facts.{StatedIn, StatedBy, FactAt, FactBy}
use Rattle.facts.proofs.Sets.{before-in, before-out}

module _ (p es : List ℕ) (count : ℕ) {limit : ℕ} {keys spans notes : List ℕ} where
  pub sets-start : {slots links : List ℕ} → Kept keys spans slots links notes 0 → Gains limit keys spans notes 0 (StatedBy p 0 es count) (FactBy p 0 es count) keys spans slots links notes 0
  sets-start kept = gains-none kept (omega arith) (λ k s x. not-suc-le-zero x.1)

  module _ (i : ℕ) {keys' spans' slots' links' notes' : List ℕ} {n : ℕ} (g : Gains limit keys spans notes 0 (StatedBy p i es count) (FactBy p i es count) keys' spans' slots' links' notes' n) (few : n ≤ limit) {keys'' spans'' slots'' links'' notes'' : List ℕ} {r : ℕ} (h : Gains limit keys' spans' notes' n (StatedIn es count (credential_of p i)) (FactAt es count (credential_of p i) i) keys'' spans'' slots'' links'' notes'' r) where
    pub sets-next : Gains limit keys spans notes 0 (StatedBy p (i + 1) es count) (FactBy p (i + 1) es count) keys'' spans'' slots'' links'' notes'' r
    sets-next =
        gains-same (λ k s. before-in {P = λ j. StatedIn es count (credential_of p j) k s} i) (λ k s. before-out {P = λ j. StatedIn es count (credential_of p j) k s} i)
        (gains-then (gains-by (λ k at first second x. (x.0, x.1, omega (arith, x.2), x.3)) g) few (gains-by new h))
      where
        new : (k at first second : ℕ) → FactAt es count (credential_of p i) i k at first second → FactBy p (i + 1) es count k at first second
        new k at first second (a, b, e, x) = (a, b, omega arith, subst⁻¹ (λ (j : ℕ). (s : ℕ) × StatedIn es count (credential_of p j) k s) e x)

    -- too many already
    pub sets_over : {m : ℕ} → i < m → limit < r → Gains limit keys spans notes 0 (StatedBy p m es count) (FactBy p m es count) keys'' spans'' slots'' links'' notes'' r
    sets_over l o = gains-over (λ k s x. (x.0, omega (arith, x.1), x.2)) o sets-next

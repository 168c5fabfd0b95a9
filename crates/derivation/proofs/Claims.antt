-- What 'handed out' rules out, of proofs by the cases' set P. A checker passes both of these.
use mathlib.Core.Path.{◌≡◌, refl, ap, subst}
use mathlib.Core.List.{List, [], ◌∷◌}
use Prim.Native.Nat.{ℕ, zero, suc, ◌<◌}
use native.Mathlib.Omega.{arith}
use lib.Dec.{T}
use Rattle.meaning.specs.Credentials.{◌·◌, ◌⊙◌, ◌⊗◌}
use Rattle.meaning.specs.Members.{Membership}
use Rattle.meaning.specs.Proofs.{Step, cites_first, cites_second, Proof, body_at, RestsOn, itself, by_first, by_second}
use Rattle.meaning.specs.Cases.{P}
use Rattle.derivation.specs.HandedOut.{membership_at, HandedOut}

abbrev step : ℕ → ℕ → ℕ → ℕ → Step
step c i j X = record { credential = c; first = i; second = j; set = X }

-- 0.0 {1}, then 0.0 {2}, which does not rest on it
abbrev pub with_idle : List Step
with_idle = step 0 0 0 2 ∷ step 1 0 0 4 ∷ []

-- 0.0 {1} twice, then 0.1 {1} from both
abbrev pub with_twice : List Step
with_twice = step 0 0 0 2 ∷ step 0 0 0 2 ∷ step 2 0 1 2 ∷ []

idle-rests : {i j : ℕ} → RestsOn (P ◌⊗◌) with_idle i j → i ≡ 1 → j ≡ 0 → ⊥
idle-rests (itself h e) p q = omega arith
idle-rests (by_first h c r) p q = subst (λ (i : ℕ). T (cites_first (body_at (P ◌⊗◌) with_idle i))) p c
idle-rests (by_second h c r) p q = subst (λ (i : ℕ). T (cites_second (body_at (P ◌⊗◌) with_idle i))) p c

idle-once : (i j : ℕ) → i < 2 → j < 2 → membership_at (P ◌⊗◌) with_idle i ≡ membership_at (P ◌⊗◌) with_idle j → i ≡ j
idle-once zero zero h k e = refl
idle-once zero (suc zero) h k e = let z : ◌≡◌ {A = ℕ} 2 4 = ap (λ (p : Membership). p.set) e in absurd (omega arith)
idle-once (suc zero) zero h k e = let z : ◌≡◌ {A = ℕ} 4 2 = ap (λ (p : Membership). p.set) e in absurd (omega arith)
idle-once (suc zero) (suc zero) h k e = refl
idle-once zero (suc (suc j)) h k e = absurd (omega arith)
idle-once (suc zero) (suc (suc j)) h k e = absurd (omega arith)
idle-once (suc (suc i)) j h k e = absurd (omega arith)

twice-rests : (j : ℕ) → j < 3 → RestsOn (P ◌⊙◌) with_twice 2 j
twice-rests zero h = by_first {i = 2} (omega arith) tt (itself {i = 0} (omega arith) refl)
twice-rests (suc zero) h = by_second {i = 2} (omega arith) tt (itself {i = 1} (omega arith) refl)
twice-rests (suc (suc zero)) h = itself {i = 2} (omega arith) refl
twice-rests (suc (suc (suc j))) h = absurd (omega arith)

-- A proof with a step that the last one does not rest on is not handed out, though it has no membership twice.
pub idle-step-not-handed : Proof (P ◌⊗◌) 15 (0 · 0) 4 1 with_idle
    × ((i j : ℕ) → i < 2 → j < 2 → membership_at (P ◌⊗◌) with_idle i ≡ membership_at (P ◌⊗◌) with_idle j → i ≡ j)
    × ¬ HandedOut (P ◌⊗◌) 15 (0 · 0) 4 1 with_idle
idle-step-not-handed = (record { keeping = tt; last = (_ ∷ [], refl) }, idle-once, λ h. idle-rests (h.needed 0 (omega arith)) refl refl)

-- A proof with a membership twice is not handed out, though the last step rests on all.
pub twice-not-handed : Proof (P ◌⊙◌) 10 (0 · 1) 2 2 with_twice
    × ((j : ℕ) → j < 3 → RestsOn (P ◌⊙◌) with_twice 2 j)
    × ¬ HandedOut (P ◌⊙◌) 10 (0 · 1) 2 2 with_twice
twice-not-handed = (
  record { keeping = tt; last = (_ ∷ _ ∷ [], refl) },
  twice-rests,
  λ h. let e : ◌≡◌ {A = ℕ} 0 1 = h.once 0 1 (omega arith) (omega arith) refl in omega arith,
)

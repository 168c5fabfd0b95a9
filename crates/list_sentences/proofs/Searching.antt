-- Whether a test takes one of the numbers below n, and which it takes first.
use mathlib.Core.Path.{◌≡◌, refl, sym, ap, ap₂, ◌∙◌, subst, subst⁻¹}
use mathlib.Core.Logic.{dite, ⊎_elim}
use mathlib.Core.Bool.{Bool, true, false, ◌||◌, not}
use mathlib.Core.List.{List}
use Prim.Native.Nat.{ℕ, zero, suc, ◌+◌, ◌*◌, ◌≤◌, ◌<◌}
use native.Mathlib.Omega.{arith}
use native.Mathlib.Decide.{ℕ_discrete}
use lib.Dec.{T, eqb}
use Rattle.meaning.specs.Lists.{if, any, up_from, below}
use Rattle.meaning.proofs.Tests.{any-in, any_out, is_true, is_false}
use Rattle.meaning.proofs.ListLaws.{below_in, below_out}
use Rattle.file.specs.Format.{four}
use Rattle.withdrawals.specs.List.{serial_at, repeated}
use Rattle.sentences.specs.Words.{first_of}
use Rattle.list_sentences.specs.ListSentences.{on_credential, wrong_at}
use Rattle.sentences.proofs.First.{found-or}

-- of numbers that stand `step` bytes apart, number j is x
abbrev pub is : List ℕ → ℕ → ℕ → ℕ → ℕ → Bool
is bytes from step x j = eqb (four bytes (from + step * j)) x

-- a withdrawal is wrong by its two tests
pub tested : (f w : List ℕ) (k x : ℕ) {r o : Bool} → x ≡ serial_at w k → r ≡ repeated w k → o ≡ on_credential f x → wrong_at f w k ≡ (r || not o)
tested f w k x e h g = ap₂ (λ (a b : Bool). a || not b) (sym h) (ap (on_credential f) (sym e) ∙ sym g)

pub contrary : {b : Bool} → b ≡ true → b ≡ false → ⊥
contrary e d = subst T d (subst⁻¹ T e tt)

-- a test takes no number before the first that it takes
before : (p : ℕ → Bool) (n a j : ℕ) → a ≤ j → j < first_of p (up_from a n) → p j ≡ false
before p zero a j h l = absurd (omega arith)
before p (suc n) a j h l = go (p a) refl (λ k. before p n (suc a) j k)
  where
    by : (b : Bool) → p a ≡ b → j < if b a (first_of p (up_from (suc a) n))
    by b e = subst (λ (c : Bool). j < if c a (first_of p (up_from (suc a) n))) e l

    go : (b : Bool) → p a ≡ b → (suc a ≤ j → j < first_of p (up_from (suc a) n) → p j ≡ false) → p j ≡ false
    go true e rec = let b = by true e in absurd (omega arith)
    go false e rec = dite (ℕ_discrete j a) (λ q. ap p q ∙ e) (λ d. rec (omega arith) (by false e))

module _ (p : ℕ → Bool) (n : ℕ) where
  pub some_in : (j : ℕ) → j < n → p j ≡ true → any p (below n) ≡ true
  some_in j l e = is_true _ (any-in p (below_in n j l) (subst⁻¹ T e tt))

  pub none_in : ((j : ℕ) → j < n → p j ≡ false) → any p (below n) ≡ false
  none_in h = is_false _ (λ t. let (j, m, u) = any_out p (below n) t in subst T (h j (below_out n m)) u)

  pub some_out : any p (below n) ≡ true → (j : ℕ) × (j < n) × (p j ≡ true)
  some_out e = let (j, m, t) = any_out p (below n) (subst⁻¹ T e tt) in (j, below_out n m, is_true _ t)

  pub none_out : any p (below n) ≡ false → (j : ℕ) → j < n → p j ≡ false
  none_out e j l = is_false _ (λ t. subst T e (any-in p (below_in n j l) t))

  pub before-first : (j : ℕ) → j < first_of p (below n) → p j ≡ false
  before-first j l = before p n 0 j (omega arith) l

  pub first-in : (k : ℕ) → k < n → p k ≡ true → ((j : ℕ) → j < k → p j ≡ false) → first_of p (below n) ≡ k
  first-in k l e h =
      ⊎_elim
      (λ r. let a : first_of p (below n) < k → ⊥ = λ b. contrary r.taken (h _ b) in let b : k < first_of p (below n) → ⊥ = λ b. contrary e (before-first k b) in omega (arith, a, b))
      (λ r. absurd (contrary e (r.each k (below_in n k l))))
      (found-or p (below n))

  pub first-none : ((j : ℕ) → j < n → p j ≡ false) → first_of p (below n) ≡ 0
  first-none h = ⊎_elim (λ r. absurd (contrary r.taken (h _ (below_out n r.in_list)))) (λ r. r.none) (found-or p (below n))

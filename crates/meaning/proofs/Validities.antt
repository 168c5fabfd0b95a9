-- The rules over periods infer, at each minute, exactly what the rules at that minute derive (document 003, Lemma 2 and Theorem 3).
use mathlib.Core.Logic.{◌⊎◌, inl, inr, ◌↔◌}
use mathlib.Core.List.{List}
use Prim.Native.Nat.{ℕ}
use lib.Dec.{T}
use Rattle.meaning.specs.Credentials.{Body, Credential}
use Rattle.meaning.specs.Rules.{CW, cw1, cw2, cw3, cw4, cw5, cw6}
use Rattle.meaning.specs.Periods.{Validity, period, ◌∩ᵛ◌, contains, CWP, cwp1, cwp2, cwp3, cwp4, cwp5, cwp6, cwp7, Maximal}
use Rattle.meaning.proofs.Tests.{and_in, and_left, and_right, or_cases}

ruleset parts = (and_left, and_right)

both : (m : ℕ) (u v : Validity) → T (contains u m) → T (contains v m) → T (contains (u ∩ᵛ v) m)
both m u v p q = search and_in

three : (m : ℕ) (u v w : Validity) → T (contains u m) → T (contains v m) → T (contains w m) → T (contains (u ∩ᵛ v ∩ᵛ w) m)
three m u v w p q r = search and_in

module _ (cs : List Credential) where
  -- an inferred validity is sound at each of its minutes
  pub at-minute : {v : Validity} {Ar : ℕ} {e : Body} (m : ℕ) → CWP cs v Ar e → T (contains v m) → CW cs m Ar e
  at-minute m (cwp1 i) t = cw1 i t
  at-minute m (cwp2 a b) t = cw2 (at-minute m a (search parts)) (at-minute m b (search parts))
  at-minute m (cwp3 C a b c) t = cw3 C (at-minute m a (search parts)) (at-minute m b (search parts)) (at-minute m c (search parts))
  at-minute m (cwp4 a b c) t = cw4 (at-minute m a (search parts)) (at-minute m b (search parts)) (at-minute m c (search parts))
  at-minute m (cwp5 a b c) t = cw5 (at-minute m a (search parts)) (at-minute m b (search parts)) (at-minute m c (search parts))
  at-minute m (cwp6 a b c o) t = cw6 (at-minute m a (search parts)) (at-minute m b (search parts)) (at-minute m c (search parts)) o
  at-minute {Ar = Ar} {e = e} m (cwp7 {v = v} {w = w} a b) t = go (or_cases (contains v m) (contains w m) t) (λ p. at-minute m a p) (λ p. at-minute m b p)
    where
      go : T (contains v m) ⊎ T (contains w m) → (T (contains v m) → CW cs m Ar e) → (T (contains w m) → CW cs m Ar e) → CW cs m Ar e
      go (inl p) f g = f p
      go (inr p) f g = g p

  -- some validity that holds the minute can be inferred
  abbrev pub InferredAt : ℕ → ℕ → Body → Type 0
  InferredAt m Ar e = (v : Validity) × CWP cs v Ar e × T (contains v m)

  -- Lemma 2
  pub inferred : {m Ar : ℕ} {e : Body} → CW cs m Ar e → InferredAt m Ar e
  inferred (cw1 {v = v} i t) = (period v, cwp1 i, t)
  inferred {m = m} (cw2 a b) = let x = inferred a in let y = inferred b in (_, cwp2 x.1 y.1, both m x.0 y.0 x.2 y.2)
  inferred {m = m} (cw3 C a b c) =
      let x = inferred a in let y = inferred b in let z = inferred c in
      (_, cwp3 C x.1 y.1 z.1, three m x.0 y.0 z.0 x.2 y.2 z.2)
  inferred {m = m} (cw4 a b c) =
      let x = inferred a in let y = inferred b in let z = inferred c in
      (_, cwp4 x.1 y.1 z.1, three m x.0 y.0 z.0 x.2 y.2 z.2)
  inferred {m = m} (cw5 a b c) =
      let x = inferred a in let y = inferred b in let z = inferred c in
      (_, cwp5 x.1 y.1 z.1, three m x.0 y.0 z.0 x.2 y.2 z.2)
  inferred {m = m} (cw6 a b c o) =
      let x = inferred a in let y = inferred b in let z = inferred c in
      (_, cwp6 x.1 y.1 z.1 o, three m x.0 y.0 z.0 x.2 y.2 z.2)

  pub periods-minutes : {m Ar : ℕ} {e : Body} → CW cs m Ar e ↔ InferredAt m Ar e
  periods-minutes {m = m} = (inferred, λ x. at-minute m x.1 x.2)

  -- Theorem 3
  pub maximal-exact : {v : Validity} {m Ar : ℕ} {e : Body} → CWP cs v Ar e → Maximal cs v Ar e → CW cs m Ar e ↔ T (contains v m)
  maximal-exact {m = m} c h = ((λ d. let x = inferred d in h x.0 x.1 m x.2), λ t. at-minute m c t)

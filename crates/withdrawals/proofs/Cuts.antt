-- What a cut period covers, and how a list cuts.
use mathlib.Core.Path.{◌≡◌, refl, ap, ◌∙◌, subst⁻¹}
use mathlib.Core.Logic.{◌↔◌, dite}
use mathlib.Core.List.{List, []}
use Prim.Native.Nat.{ℕ, zero, suc, min, ◌<◌, ◌≤◌}
use native.Mathlib.Omega.{arith}
use native.Mathlib.Decide.{ℕ_discrete}
use lib.Dec.{T}
use borrow.Author.Tests.{eq-eqb, ne_eqb, le-ltb}
use Rattle.meaning.specs.Credentials.{Period, covers}
use Rattle.meaning.specs.Table.{ends_of}
use Rattle.meaning.proofs.Spans.{covers-in, covers_out}
use Rattle.withdrawals.specs.List.{serial_at, minute_at}
use Rattle.withdrawals.specs.Cut.{cut, cut_to}

module _ (v : Period) (w : ℕ) where
  -- exactly the minutes of the period before the withdrawal's
  pub cut-covers : (m : ℕ) → T (covers (cut v w) m) ↔ (T (covers v m) × (m < w))
  cut-covers m = (
    (λ t. let o : (v.from ≤ m) × (m < min v.until w) = covers_out (cut v w) m t in let b = o.1 in (covers-in v m o.0 (omega arith), omega arith)),
    λ (t, l). let o = covers_out v m t in let b = o.1 in covers-in (cut v w) m o.0 (omega arith),
  )

  -- in the period after `from`: it ends where the withdrawal begins
  pub cut_inside : w ≤ v.until → cut v w ≡ record { from = v.from; until = w }
  cut_inside h = let e : min v.until w ≡ w = omega arith in ap (λ (u : ℕ). record { from = v.from; until = u }) e

  -- at or before `from`: no minutes and no ends
  pub cut_out : w ≤ v.from → ((m : ℕ) → ¬ T (covers (cut v w) m)) × (ends_of (cut v w) ≡ [])
  cut_out h = (
    (λ m t. let o : (v.from ≤ m) × (m < min v.until w) = covers_out (cut v w) m t in let a = o.0 in let b = o.1 in absurd (omega arith)),
    rw (le-ltb v.from (min v.until w) (omega arith)) refl,
  )

  -- later: nothing changes
  pub cut_later : v.until ≤ w → cut v w ≡ v
  cut_later h = let e : min v.until w ≡ v.until = omega arith in ap (λ (u : ℕ). record { from = v.from; until = u }) e

module _ (w : List ℕ) (serial : ℕ) (v : Period) where
  -- the next withdrawal is of another serial, or of this one
  pub cut-other : (k : ℕ) → ¬ (serial_at w k ≡ serial) → cut_to w serial v (suc k) ≡ cut_to w serial v k
  cut-other k h = rw (ne_eqb (serial_at w k) serial h) refl

  pub cut-this : (k : ℕ) → serial_at w k ≡ serial → cut_to w serial v (suc k) ≡ cut (cut_to w serial v k) (minute_at w k)
  cut-this k e = rw (eq-eqb (serial_at w k) serial e) refl

  -- `from` stays
  pub cut-from : (k : ℕ) → (cut_to w serial v k).from ≡ v.from
  cut-from zero = refl
  cut-from (suc k) =
      dite (ℕ_discrete (serial_at w k) serial)
      (λ e. ap (λ (x : Period). x.from) (cut-this k e) ∙ cut-from k) (λ h. ap (λ (x : Period). x.from) (cut-other k h) ∙ cut-from k)

  -- withdrawals of other serials change nothing
  pub cut-none : (n : ℕ) → ((k : ℕ) → k < n → ¬ (serial_at w k ≡ serial)) → cut_to w serial v n ≡ v
  cut-none zero h = refl
  cut-none (suc n) h = cut-other n (h n (omega arith)) ∙ cut-none n (λ k l. h k (omega arith))

  -- a minute is covered where the period covers it and no withdrawal of the serial has begun
  pub cut-minutes : (n m : ℕ) → T (covers (cut_to w serial v n) m) ↔ (T (covers v m) × ((k : ℕ) → k < n → serial_at w k ≡ serial → m < minute_at w k))
  cut-minutes zero m = ((λ t. (t, λ k l. absurd (omega arith))), λ (t, h). t)
  cut-minutes (suc n) m = go (cut-minutes n m)
    where
      Before : ℕ → Type 0
      Before j = (k : ℕ) → k < j → serial_at w k ≡ serial → m < minute_at w k

      more : Before n → (serial_at w n ≡ serial → m < minute_at w n) → Before (suc n)
      more h l k b e = dite (ℕ_discrete k n) (λ q. subst⁻¹ (λ (i : ℕ). serial_at w i ≡ serial → m < minute_at w i) q l e) (λ q. h k (omega arith) e)

      go : T (covers (cut_to w serial v n) m) ↔ (T (covers v m) × Before n) → T (covers (cut_to w serial v (suc n)) m) ↔ (T (covers v m) × Before (suc n))
      go r =
          dite (ℕ_discrete (serial_at w n) serial)
          (λ e. subst⁻¹ (λ (x : Period). T (covers x m) ↔ (T (covers v m) × Before (suc n))) (cut-this n e) (
            (λ t. let (u, l) = (cut-covers (cut_to w serial v n) (minute_at w n) m).0 t in let (c, h) = r.0 u in (c, more h (λ _. l))),
            λ (c, h). (cut-covers (cut_to w serial v n) (minute_at w n) m).1 (r.1 (c, λ k b. h k (omega arith)), h n (omega arith) e),
          ))
          (λ d. subst⁻¹ (λ (x : Period). T (covers x m) ↔ (T (covers v m) × Before (suc n))) (cut-other n d) (
            (λ t. let (c, h) = r.0 t in (c, more h (λ e. absurd (d e)))),
            λ (c, h). r.1 (c, λ k b. h k (omega arith)),
          ))

  -- one withdrawal of the serial and no other
  pub cut-once : (n k : ℕ) → k < n → serial_at w k ≡ serial → ((j : ℕ) → j < n → ¬ (j ≡ k) → ¬ (serial_at w j ≡ serial)) → cut_to w serial v n ≡ cut v (minute_at w k)
  cut-once zero k l e h = absurd (omega arith)
  cut-once (suc n) k l e h =
      dite (ℕ_discrete n k)
      (λ q. cut-this n (subst⁻¹ (λ (j : ℕ). serial_at w j ≡ serial) q e) ∙ ap (λ (x : Period). cut x (minute_at w n)) (cut-none n (λ j b. h j (omega arith) (λ z. absurd (omega arith))))
      ∙ ap (λ (j : ℕ). cut v (minute_at w j)) q)
      (λ q. cut-other n (h n (omega arith) q) ∙ cut-once n k (omega arith) e (λ j b. h j (omega arith)))

  -- it ends no later
  pub cut-until : (k : ℕ) → (cut_to w serial v k).until ≤ v.until
  cut-until zero = omega arith
  cut-until (suc k) =
      let h = cut-until k in
      dite (ℕ_discrete (serial_at w k) serial)
      (λ e. let q = ap (λ (x : Period). x.until) (cut-this k e) in omega arith) (λ n. let q = ap (λ (x : Period). x.until) (cut-other k n) in omega arith)

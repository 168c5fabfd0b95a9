-- Every membership has one validity that can be inferred and holds exactly its minutes: the maximal inference of document 003, Definition 5.
use mathlib.Core.Path.{◌≡◌, ap₂, subst⁻¹}
use mathlib.Core.Logic.{◌⊎◌, inl, inr}
use mathlib.Core.Bool.{Bool, true, false, ◌&&◌, ◌||◌}
use mathlib.Core.List.{List}
use Prim.Native.Nat.{ℕ, zero, suc, ◌<◌}
use native.Mathlib.Nat.{not-suc-le-zero, le_of_suc-le-suc, eq-or-lt_of_le}
use lib.Dec.{T}
use lib.ListN.{get_or}
use Rattle.meaning.specs.Credentials.{Body, set, ◌⟵◌, Credential, ◌during◌, FitsAll}
use Rattle.meaning.specs.Rules.{Derivable}
use Rattle.meaning.specs.Members.{member, has, members, In}
use Rattle.meaning.specs.Periods.{Validity, ◌∪ᵛ◌, contains, CWP, cwp1, cwp2, cwp3, cwp4, cwp5, cwp6, cwp7, Maximal}
use Rattle.meaning.specs.Table.{ends, span_count, in_span}
use Rattle.meaning.proofs.Tests.{or_left, or_right}
use Rattle.meaning.proofs.OrderLaws.{has_in, has-out}
use Rattle.meaning.proofs.Spans.{span-covers, span_of, span-out, span-derivable}
use Rattle.meaning.proofs.Rows.{members-derivable}
use Rattle.meaning.proofs.Validities.{at-minute, inferred}

module _ (cs : List Credential) where
  -- an inferred validity does not change within a span
  constant : {v : Validity} {Ar : ℕ} {e : Body} (i m : ℕ) → T (in_span (ends cs) i m) → CWP cs v Ar e → contains v m ≡ contains v (get_or (ends cs) i 0)
  constant i m s (cwp1 {Ar = Ar} {e = e} {v = v} u) = span-covers cs i m s (Ar ⟵ e during v) u
  constant i m s (cwp2 a b) = ap₂ ◌&&◌ (constant i m s a) (constant i m s b)
  constant i m s (cwp3 C a b c) = ap₂ ◌&&◌ (ap₂ ◌&&◌ (constant i m s a) (constant i m s b)) (constant i m s c)
  constant i m s (cwp4 a b c) = ap₂ ◌&&◌ (ap₂ ◌&&◌ (constant i m s a) (constant i m s b)) (constant i m s c)
  constant i m s (cwp5 a b c) = ap₂ ◌&&◌ (ap₂ ◌&&◌ (constant i m s a) (constant i m s b)) (constant i m s c)
  constant i m s (cwp6 a b c o) = ap₂ ◌&&◌ (ap₂ ◌&&◌ (constant i m s a) (constant i m s b)) (constant i m s c)
  constant i m s (cwp7 a b) = ap₂ ◌||◌ (constant i m s a) (constant i m s b)

  module _ (w : FitsAll cs) (Ar X : ℕ) where
    abbrev at : ℕ → ℕ
    at i = get_or (ends cs) i 0

    -- one validity holds the first n spans in which the membership can be derived, or there is no such span
    abbrev Joined : ℕ → Type 0
    Joined n = ((i : ℕ) → i < n → ¬ Derivable cs (at i) Ar X) ⊎ ((v : Validity) × CWP cs v Ar (set X) × ((i : ℕ) → i < n → Derivable cs (at i) Ar X → T (contains v (at i))))

    decided : (m : ℕ) → Derivable cs m Ar X ⊎ (¬ Derivable cs m Ar X)
    decided m = go (has (member Ar X) (members cs m)) (has-out (member Ar X) (members cs m)) (has_in (member Ar X))
      where
        go : (b : Bool) → (T b → In (members cs m) Ar X) → (In (members cs m) Ar X → T b) → Derivable cs m Ar X ⊎ (¬ Derivable cs m Ar X)
        go true out into = inl ((members-derivable cs w m).0 (out tt))
        go false out into = inr (λ d. into ((members-derivable cs w m).1 d))

    -- what holds below n and at n holds below the next
    also : (P : ℕ → Type 0) (n : ℕ) → ((i : ℕ) → i < n → P i) → P n → (i : ℕ) → i < suc n → P i
    also P n h p i l = go (eq-or-lt_of_le (le_of_suc-le-suc l))
      where
        go : (i ≡ n) ⊎ (i < n) → P i
        go (inl e) = subst⁻¹ P e p
        go (inr k) = h i k

    joined : (n : ℕ) → Joined n
    joined zero = inl (λ i h. absurd (not-suc-le-zero h))
    joined (suc n) = go (joined n) (decided (at n))
      where
        None : ℕ → Type 0
        None i = ¬ Derivable cs (at i) Ar X

        Held : Validity → ℕ → Type 0
        Held v i = Derivable cs (at i) Ar X → T (contains v (at i))

        go : Joined n → Derivable cs (at n) Ar X ⊎ (¬ Derivable cs (at n) Ar X) → Joined (suc n)
        go (inl h) (inr d) = inl (also None n h d)
        go (inl h) (inl d) =
            let x = inferred cs d in
            inr (x.0, x.1, also (Held x.0) n (λ i l e. absurd (h i l e)) (λ e. x.2))
        go (inr (v, c, h)) (inr d) = inr (v, c, also (Held v) n h (λ e. absurd (d e)))
        go (inr (v, c, h)) (inl d) =
            let x = inferred cs d in
            let u = x.0 in
            inr (v ∪ᵛ u, cwp7 c x.1, also (Held (v ∪ᵛ u)) n (λ i l e. or_left (contains v (at i)) (contains u (at i)) (h i l e)) (λ e. or_right (contains v (at n)) (contains u (at n)) x.2))

    pub maximal-exists : {m : ℕ} → Derivable cs m Ar X → (v : Validity) × CWP cs v Ar (set X) × Maximal cs v Ar (set X)
    maximal-exists {m} d = go (joined (span_count (ends cs)))
      where
        go : Joined (span_count (ends cs)) → (v : Validity) × CWP cs v Ar (set X) × Maximal cs v Ar (set X)
        go (inl h) = let s = span_of cs d in absurd (h s.0 (span-out (ends cs) s.0 m s.1).0 ((span-derivable cs s.0 m s.1).0 d))
        go (inr (v, c, h)) = (v, c, held)
          where
            held : Maximal cs v Ar (set X)
            held u e n t =
                let a = at-minute cs n e t in
                let s = span_of cs a in
                subst⁻¹ T (constant s.0 n s.1 c) (h s.0 (span-out (ends cs) s.0 n s.1).0 ((span-derivable cs s.0 n s.1).0 a))

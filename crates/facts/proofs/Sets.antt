-- The sets that credentials state, added to the entries one after another, each new entry with its credential.
use mathlib.Core.Path.{◌≡◌, refl, sym, ap, ◌∙◌, subst, subst⁻¹}
use mathlib.Core.Logic.{◌⊎◌, inl, inr, ◌↔◌}
use mathlib.Core.List.{List}
use Prim.Native.Nat.{ℕ, ◌+◌, ◌≤◌, ◌<◌}
use native.Mathlib.Omega.{arith}
use lib.ListN.{get_or}
use Rattle.meaning.specs.Table.{bit}
use Rattle.file.proofs.Uses.{by_kind}
use Rattle.policy.specs.declared.Statement.{Statement}
use Rattle.policy.specs.Policy.{credential_of, statement_in, body_by}
use Rattle.std.proofs.Common.{Result, Ok, Err}
use Rattle.std.specs.Result.{IsErr}
use Rattle.store.specs.declared.Store.{Store}
use Rattle.store.specs.declared.Full.{Full}
use Rattle.store.specs.Entries.{key_of, Has, Added}
use Rattle.store.proofs.Chains.{last-or-below}
use Rattle.store.proofs.Stores.{distinct-keys}
use Rattle.heads.specs.Gaining.{Origin, Gains}
use Rattle.heads.specs.Heads.{One}
use Rattle.heads.specs.Stores.{Adds}
use Rattle.heads.proofs.Gaining.{some-bit, gains-by, gains-same, gains-over, gains-then}
use Rattle.heads.proofs.Stores.{adds-full}
use Rattle.masks.specs.Masks.{Masked}
use Rattle.facts.specs.Facts.{Before, States, StatedIn, StatedBy, FactAt, FactBy}

-- ---- one more position

module _ {P : ℕ → Type 0} (i : ℕ) where
  pub before-out : Before (i + 1) P → Before i P ⊎ P i
  before-out (j, l, p) = go (last-or-below {i = j} {n = i} (omega arith))
    where
      go : (j ≡ i) ⊎ (j < i) → Before i P ⊎ P i
      go (inl e) = inr (subst P e p)
      go (inr k) = inl (j, k, p)

  pub before-in : Before i P ⊎ P i → Before (i + 1) P
  before-in (inl (j, l, p)) = (j, omega arith, p)
  before-in (inr p) = (i, omega arith, p)

-- ---- one credential

-- only kind 0 states a set
none-stated : (X Bs Ct : ℕ) (k : ℕ) → k ≤ 5 → (k ≡ 0 → ⊥) → (Ar key : ℕ) → States (body_by k X Bs Ct) Ar key → ⊥
none-stated X Bs Ct =
    by_kind (λ k. (k ≡ 0 → ⊥) → (Ar key : ℕ) → States (body_by k X Bs Ct) Ar key → ⊥)
    (λ z _ _ _. z refl) (λ _ _ _ x. x) (λ _ _ _ x. x) (λ _ _ _ x. x) (λ _ _ _ x. x) (λ _ _ _ x. x)

-- a new entry has spans
pub added-span : {limit key m : ℕ} {keys spans keys' spans' slots' links' : List ℕ} {n r : ℕ} → Added limit key m keys spans n keys' spans' slots' links' r → r ≤ limit → (r ≡ n → ⊥) → (s : ℕ) × (bit m s ≡ 1)
added-span {key = key} {m} {keys} {spans} {keys'} {spans'} {n = n} {r} a l ne = (b.0, go ((a.exact l (get_or keys' n 0) b.0).0 (n, low, refl, b.1)))
  where
    low : n < r
    low = omega (arith, (a.grown l).more)

    b : (s : ℕ) × (bit (get_or spans' n 0) s ≡ 1)
    b = some-bit (get_or spans' n 0) (λ z. let w = (a.some l n low z).0 in omega arith)

    go : Has keys spans n (get_or keys' n 0) b.0 ⊎ ((get_or keys' n 0 ≡ key) × (bit m b.0 ≡ 1)) → bit m b.0 ≡ 1
    go (inl (j, o, e, _)) = let f = distinct-keys (a.stored l) j n (omega (arith, low)) low ((a.grown l).same j o ∙ e) in absurd (omega arith)
    go (inr (_, w)) = w

module _ (p : List ℕ) (i : ℕ) (es : List ℕ) (count : ℕ) {st : Statement} (q : st ≡ statement_in p i) where
  same_kind : (statement_in p i).kind ≡ st.kind
  same_kind = ap (λ (x : Statement). x.kind) (sym q)

  pub other-stated : (statement_in p i).kind ≤ 5 → (st.kind ≡ 0 → ⊥) → (k s : ℕ) → StatedIn es count (credential_of p i) k s → ⊥
  other-stated h some k s x = let t = statement_in p i in none-stated t.set t.first t.second t.kind h (λ z. some (sym same_kind ∙ z)) t.head k x.0

  -- kind 0 states its set in the spans of its period
  pub set-stated : (v key : ℕ) → st.kind ≡ 0 → Masked es count (credential_of p i).period v → key ≡ key_of st.head st.set → (k s : ℕ) → One key v k s ↔ StatedIn es count (credential_of p i) k s
  set-stated v key z m e k s = ((λ x. (subst⁻¹ At (same_kind ∙ z) (x.0 ∙ f), (m s).0 x.1)), λ x. (subst At (same_kind ∙ z) x.0 ∙ sym f, (m s).1 x.1))
    where
      t : Statement
      t = statement_in p i

      f : key ≡ key_of t.head t.set
      f = e ∙ ap (λ (x : Statement). key_of x.head x.set) q

      At : ℕ → Type 0
      At kind = States (body_by kind t.set t.first t.second) t.head k

  module _ (v : ℕ) {key : ℕ} (z : st.kind ≡ 0) (m : Masked es count (credential_of p i).period v) (e : key ≡ key_of st.head st.set) {limit n r : ℕ} {keys spans keys' spans' slots' links' : List ℕ} where
    -- so adding the one is adding the other
    pub set-gains : {notes notes' : List ℕ} {By : Origin} → Gains limit keys spans notes n (One key v) By keys' spans' slots' links' notes' r → Gains limit keys spans notes n (StatedIn es count (credential_of p i)) By keys' spans' slots' links' notes' r
    set-gains = gains-same (λ k s. (set-stated v key z m e k s).0) (λ k s. (set-stated v key z m e k s).1)

    -- and a new entry with the key is by the credential
    pub set-fact : Added limit key v keys spans n keys' spans' slots' links' r → r ≤ limit → (r ≡ n → ⊥) → FactAt es count (credential_of p i) i key i 0 0
    set-fact a l ne = let x = added-span a l ne in (refl, refl, refl, (x.0, (set-stated v key z m e key x.0).0 (refl, x.1)))

-- ---- the first i credentials

module _ (p es : List ℕ) (count i : ℕ) {limit : ℕ} {s t : Store} (g : Adds limit s (StatedBy p i es count) (FactBy p i es count) t (Ok tt)) where
  pub sets-next : {u : Store} {r : Result Unit Full} → Adds limit t (StatedIn es count (credential_of p i)) (FactAt es count (credential_of p i) i) u r → Adds limit s (StatedBy p (i + 1) es count) (FactBy p (i + 1) es count) u r
  sets-next h =
      record {
        gains =
            gains-same (λ k s. before-in {P = λ j. StatedIn es count (credential_of p j) k s} i) (λ k s. before-out {P = λ j. StatedIn es count (credential_of p j) k s} i)
            (gains-then (gains-by (λ k at first second x. (x.0, x.1, omega (arith, x.2), x.3)) g.gains) g.within (gains-by new h.gains));
        within = h.within;
      }
    where
      new : (k at first second : ℕ) → FactAt es count (credential_of p i) i k at first second → FactBy p (i + 1) es count k at first second
      new k at first second (a, b, e, x) = (a, b, omega arith, subst⁻¹ (λ (j : ℕ). (s : ℕ) × StatedIn es count (credential_of p j) k s) e x)

  -- too many already
  pub sets_over : {m : ℕ} → i < m → {u : Store} {e : Full} → Adds limit t (StatedIn es count (credential_of p i)) (FactAt es count (credential_of p i) i) u (Err e) → {r : Result Unit Full} → IsErr r → Adds limit s (StatedBy p m es count) (FactBy p m es count) u r
  sets_over l h none = adds-full none h.within (gains-over (λ k s x. (x.0, omega (arith, x.1), x.2)) (omega arith) (sets-next h).gains)

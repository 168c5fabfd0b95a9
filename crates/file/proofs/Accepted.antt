-- What is known of a file that passes 1 to 8 and 17: its credentials' roles and sets are within the format's numbers, each position holds its credential,
-- which covers the minutes from its `from` to its `to`, no two credentials have one serial, and the ends are the from values and the to values plus one.
use mathlib.Core.Path.{◌≡◌, refl, sym, ap, ◌∙◌, subst, subst⁻¹}
use mathlib.Core.Logic.{◌⊎◌, inl, inr, ◌↔◌}
use mathlib.Core.List.Memᴰ.{head}
use mathlib.Core.List.Memᴰ.{tail}
use mathlib.Core.List.{List, [], ◌∷◌, Memᴰ as Mem}
use mathlib.Core.Option.{some}
use Prim.Native.Nat.{ℕ, ◌+◌, ◌*◌, ◌<◌, ◌≤◌}
use native.Mathlib.Omega.{arith}
use lib.Dec.{T}
use lib.Pow.{pow-lt}
use Rattle.meaning.specs.Lists.{below}
use Rattle.meaning.specs.Credentials.{Credential, Period, covers, SetFits, FitsAll}
use Rattle.meaning.specs.Table.{ends}
use Rattle.meaning.proofs.Tests.{is_true}
use Rattle.meaning.proofs.ListLaws.{map-in, map-out, below_in, below_out}
use Rattle.meaning.proofs.Spans.{covers-in, covers_out, ends-exact}
use Rattle.meaning.proofs.Levels.{entity-power}
use Rattle.file.specs.Format.{stated_by, N, field, serial_of, from_of, to_of, period_of, credential_in, body_of, body_in, meaning_of, credentials}
use Rattle.file.specs.Reading.{uses}
use Rattle.file.specs.Values.{Read, value_of, found, found_of, found_in}
use Rattle.file.specs.Conditions.{Head, Dated, Good, GoodBelow, Accepted}
use Rattle.file.specs.declared.Body.{Body}
use Rattle.file.specs.Refusals.{Outcome, number_of}
use Rattle.file.specs.declared.Found.TheVariants as F
use Rattle.file.proofs.Uses.{by_kind}
use Rattle.file.proofs.Faults.{fault-none}
use Rattle.file.proofs.Readable.{found-value, found-end}
use Rattle.file.proofs.Refusals.{head_read, ranges_in, zeros-in, less}

-- what a kind up to 5 has of the bytes g: a body, whose set is below 2 ^ 32, and which states these bytes
pub record Bodied (g : ℕ → ℕ) (k : ℕ) : Type 0 where
  pub body : Body
  pub read : body_of k (g 3) (g 4) (g 5) (g 6) ≡ some body
  pub fits : SetFits (meaning_of body)
  pub states : stated_by body ≡ k ∷ g 3 ∷ g 4 ∷ g 5 ∷ g 6 ∷ []

bodied : (g : ℕ → ℕ) → g 3 < 32 → (k : ℕ) → k ≤ 5 → ((j : ℕ) → Mem j (uses k).unused → g j ≡ 0) → Bodied g k
bodied g h =
    by_kind (λ k. ((j : ℕ) → Mem j (uses k).unused → g j ≡ 0) → Bodied g k)
    (λ z. record {
      body = _;
      read = refl;
      fits = pow-lt h;
      states = λ i. 0 ∷ entity-power (g 3) i ∷ sym (z 4 (head refl)) i ∷ sym (z 5 (tail (head refl))) i ∷ sym (z 6 (tail (tail (head refl)))) i ∷ [];
    })
    (λ z. record { body = _; read = refl; fits = tt; states = λ i. 1 ∷ g 3 ∷ g 4 ∷ sym (z 5 (head refl)) i ∷ sym (z 6 (tail (head refl))) i ∷ [] })
    (λ z. record { body = _; read = refl; fits = tt; states = λ i. 2 ∷ g 3 ∷ g 4 ∷ sym (z 5 (head refl)) i ∷ g 6 ∷ [] })
    (λ z. record { body = _; read = refl; fits = tt; states = refl })
    (λ z. record { body = _; read = refl; fits = tt; states = refl })
    (λ z. record { body = _; read = refl; fits = tt; states = refl })

-- every kind up to 5 has A and b among its entities, and r among its names
uses-a : (k : ℕ) → k ≤ 5 → Mem 1 (uses k).entities
uses-a = by_kind (λ k. Mem 1 (uses k).entities) (head refl) (head refl) (head refl) (head refl) (head refl) (head refl)

uses-b : (k : ℕ) → k ≤ 5 → Mem 3 (uses k).entities
uses-b =
    by_kind (λ k. Mem 3 (uses k).entities) (tail (head refl)) (tail (head refl)) (tail (head refl)) (tail (head refl)) (tail (head refl)) (tail (head refl))

uses-r : (k : ℕ) → k ≤ 5 → Mem 2 (uses k).names
uses-r = by_kind (λ k. Mem 2 (uses k).names) (head refl) (head refl) (head refl) (head refl) (head refl) (head refl)

module _ (f : List ℕ) (h : Head f) (i : ℕ) (g : Good f i) where
  good-body : Bodied (field f i) (field f i 0)
  good-body =
      let b = g.ranges.entities 3 (uses-b (field f i 0) g.kind) in
      let l = h.limits.entities.1 in
      bodied (field f i) (omega arith) (field f i 0) g.kind g.zeros

  good-head : field f i 1 * 32 + field f i 2 < 1024
  good-head =
      let a = g.ranges.entities 1 (uses-a (field f i 0) g.kind) in
      let r = g.ranges.names 2 (uses-r (field f i 0) g.kind) in
      let l = h.limits.entities.1 in
      let k = h.limits.names.1 in
      omega arith

  good-fits : ((credential_in f i).statement.head < 1024) × SetFits (credential_in f i).statement.body
  good-fits = let e = good-body in rw e.read (good-head, e.fits)

  good-period : (credential_in f i).period ≡ period_of f i
  good-period = let e = good-body in rw e.read refl

  good-found : found_in f i ≡ found_of f i (body_in f i) → Read f i
  good-found q =
      let e = good-body in
      record { value = value_of f i e.body; found = q ∙ rw e.read refl; means = rw e.read refl; states = e.states; serial = refl }

module _ (f : List ℕ) (h : Head f) (good : GoodBelow f (N f)) where
  -- the period at a position below N is the one of its bytes
  pub period-at : (i : ℕ) → i < N f → (credential_in f i).period ≡ period_of f i
  period-at i l = good-period f h i (good i l)

  -- however many there are, the ends are the from values, and the to values plus one
  pub counted-ends : (x : ℕ) → Mem x (ends (credentials f)) ↔ ((i : ℕ) × (i < N f) × ((x ≡ from_of f i) ⊎ (x ≡ to_of f i + 1)))
  unfolding credentials
  counted-ends x = (out, into)
    where
      Bound : Period → Type 0
      Bound v = (x ≡ v.from) ⊎ (x ≡ v.until)

      lasting : {i : ℕ} → Dated f i → from_of f i < to_of f i + 1
      lasting d = let o = d.order in omega arith

      out : Mem x (ends (credentials f)) → (i : ℕ) × (i < N f) × Bound (period_of f i)
      out m =
          let (c, k, _, b) = (ends-exact (credentials f) x).0 m in
          let (i, j, e) = map-out (credential_in f) (below (N f)) k in
          let l = below_out (N f) j in
          (i, l, subst Bound (ap (λ (y : Credential). y.period) e ∙ period-at i l) b)

      into : (i : ℕ) × (i < N f) × Bound (period_of f i) → Mem x (ends (credentials f))
      into (i, l, b) =
          let e = period-at i l in
          (ends-exact (credentials f) x).1 (
            credential_in f i,
            map-in (credential_in f) (below_in (N f) i l),
            subst⁻¹ (λ (v : Period). v.from < v.until) e (lasting (good i l).period),
            subst⁻¹ Bound e b,
          )

  -- their roles and sets are within the format's numbers
  pub credentials-fit : FitsAll (credentials f)
  unfolding credentials
  credentials-fit c m =
      let r = map-out (credential_in f) (below (N f)) m in
      subst⁻¹ (λ (x : Credential). (x.statement.head < 1024) × SetFits x.statement.body) r.2
      (good-fits f h r.0 (good r.0 (below_out (N f) r.1)))

  -- no serial is zero, and none is that of two positions
  pub distinct-serials : ((i : ℕ) → i < N f → ¬ (serial_of f i ≡ 0)) × ((i j : ℕ) → i < N f → j < N f → serial_of f i ≡ serial_of f j → i ≡ j)
  distinct-serials = ((λ i l. (good i l).serial.some), λ i j l m e. go i j l m e (less i j) (less j i))
    where
      go : (i j : ℕ) → i < N f → j < N f → serial_of f i ≡ serial_of f j → (i < j) ⊎ (j ≤ i) → (j < i) ⊎ (i ≤ j) → i ≡ j
      go i j l m e (inl h) k = absurd ((good j m).serial.new i h e)
      go i j l m e (inr h) (inl k) = absurd ((good i l).serial.new j k (sym e))
      go i j l m e (inr h) (inr k) = omega arith

module _ (f : List ℕ) (a : Accepted f) where
  pub accepted-fits : FitsAll (credentials f)
  accepted-fits = credentials-fit f a.head a.good

  -- each position below N holds its credential, as a value that means it
  pub accepted-found : (i : ℕ) → i < N f → Read f i
  accepted-found i l =
      let g = a.good i l in
      good-found f a.head i g
      (found-value f i (ap (λ (o : Outcome ℕ). number_of o) (head_read 0 f a.head)) l
      (fault-none f i g.kind (is_true _ (ranges_in f i g.ranges)) (is_true _ (zeros-in f i g.zeros)) g.period))

  -- from N on there is none
  pub accepted-end : (i : ℕ) → N f ≤ i → found_in f i ≡ F.End
  accepted-end i l = found-end f i (ap (λ (o : Outcome ℕ). number_of o) (head_read 0 f a.head)) l

  accepted-period : (i : ℕ) → i < N f → (credential_in f i).period ≡ period_of f i
  accepted-period = period-at f a.head a.good

  -- a minute is covered exactly from `from` to `to`
  pub accepted-covers : (i : ℕ) → i < N f → (m : ℕ) → T (covers (credential_in f i).period m) ↔ ((from_of f i ≤ m) × (m ≤ to_of f i))
  accepted-covers i h m =
      let o : T (covers (period_of f i) m) → (from_of f i ≤ m) × (m < to_of f i + 1) = covers_out (period_of f i) m in
      subst⁻¹ (λ (v : Period). T (covers v m) ↔ ((from_of f i ≤ m) × (m ≤ to_of f i))) (accepted-period i h)
      ((λ t. ((o t).0, let b = (o t).1 in omega arith)), (λ b. covers-in (period_of f i) m b.0 (let l = b.1 in omega arith)))

  pub accepted-serials : ((i : ℕ) → i < N f → ¬ (serial_of f i ≡ 0)) × ((i j : ℕ) → i < N f → j < N f → serial_of f i ≡ serial_of f j → i ≡ j)
  accepted-serials = distinct-serials f a.head a.good

  -- the ends are the from values, and the to values plus one
  pub accepted-ends : (x : ℕ) → Mem x (ends (credentials f)) ↔ ((i : ℕ) × (i < N f) × ((x ≡ from_of f i) ⊎ (x ≡ to_of f i + 1)))
  accepted-ends = counted-ends f a.head a.good

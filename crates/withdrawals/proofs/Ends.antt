-- The ends of a file with its withdrawals.
use mathlib.Core.Path.{◌≡◌, ap, ◌∙◌, subst, subst⁻¹}
use mathlib.Core.Logic.{◌⊎◌, ◌↔◌}
use mathlib.Core.List.{List, Memᴰ as Mem}
use Prim.Native.Nat.{ℕ, ◌+◌, ◌<◌, ◌≤◌}
use Rattle.meaning.specs.Lists.{below}
use Rattle.meaning.specs.Credentials.{Credential, Period}
use Rattle.meaning.specs.Table.{ends}
use Rattle.meaning.proofs.Spans.{ends-exact}
use Rattle.meaning.proofs.ListLaws.{map-in, map-out, below_in, below_out}
use Rattle.file.specs.Format.{serial_of, from_of, to_of, period_of}
use Rattle.file.proofs.Accepted as File
use Rattle.withdrawals.specs.List.{count}
use Rattle.withdrawals.specs.Cut.{cut_by}
use Rattle.withdrawals.specs.Source.{Source, N, credential_in, credentials}
use Rattle.withdrawals.specs.Conditions.{Readable}
use Rattle.withdrawals.proofs.Cuts.{cut-from, cut-until}

module _ (s : Source) (r : Readable s) where
  abbrev f : List ℕ
  f = s.file

  -- the minute at which the period of position i ends after the cut
  abbrev end_of : ℕ → ℕ
  end_of i = (credential_in s i).period.until

  pub period-in : (i : ℕ) → i < N s → (credential_in s i).period ≡ cut_by s.withdrawals (serial_of f i) (period_of f i)
  period-in i l = ap (cut_by s.withdrawals (serial_of f i)) (File.period-at f r.head r.good i l)

  -- it has `from` and that end, unless it is empty
  bounds : (i : ℕ) → i < N s → (credential_in s i).period ≡ record { from = from_of f i; until = end_of i }
  bounds i l =
      ap (λ (x : ℕ). record { from = x; until = end_of i })
      (ap (λ (v : Period). v.from) (period-in i l) ∙ cut-from s.withdrawals (serial_of f i) (period_of f i) (count s.withdrawals))

  pub counted-ends : (x : ℕ) → Mem x (ends (credentials s)) ↔ ((i : ℕ) × (i < N s) × (from_of f i < end_of i) × ((x ≡ from_of f i) ⊎ (x ≡ end_of i)))
  unfolding credentials
  counted-ends x = (out, into)
    where
      Bound : Period → Type 0
      Bound v = (v.from < v.until) × ((x ≡ v.from) ⊎ (x ≡ v.until))

      out : Mem x (ends (credentials s)) → (i : ℕ) × (i < N s) × (from_of f i < end_of i) × ((x ≡ from_of f i) ⊎ (x ≡ end_of i))
      out m =
          let (c, k, o, b) = (ends-exact (credentials s) x).0 m in
          let (i, j, e) = map-out (credential_in s) (below (N s)) k in
          let l = below_out (N s) j in
          let (p, q) = subst Bound (ap (λ (y : Credential). y.period) e ∙ bounds i l) (o, b) in
          (i, l, p, q)

      into : (i : ℕ) × (i < N s) × (from_of f i < end_of i) × ((x ≡ from_of f i) ⊎ (x ≡ end_of i)) → Mem x (ends (credentials s))
      into (i, l, o, b) =
          let (p, q) = subst⁻¹ Bound (bounds i l) (o, b) in
          (ends-exact (credentials s) x).1 (credential_in s i, map-in (credential_in s) (below_in (N s) i l), p, q)

  pub end-early : (i : ℕ) → i < N s → end_of i ≤ to_of f i + 1
  end-early i l =
      subst⁻¹ (λ (v : Period). v.until ≤ to_of f i + 1) (period-in i l) (cut-until s.withdrawals (serial_of f i) (period_of f i) (count s.withdrawals))

-- The ends of a file of bytes have 32 bits, so that they are read back from the 4 bytes that are written for each.
use mathlib.Core.Path.{◌≡◌, ap, ◌∙◌}
use mathlib.Core.Logic.{◌⊎◌, inl, inr}
use mathlib.Core.List.Memᴰ.{append_cases}
use mathlib.Core.List.Memᴰ.{head}
use mathlib.Core.List.Memᴰ.{tail}
use mathlib.Core.List.{List, Memᴰ as Mem}
use Prim.Native.Nat.{ℕ, zero, suc, ◌+◌, ◌-◌, ◌/◌, ◌^◌, ◌≤◌, ◌<◌}
use native.Mathlib.Omega.{arith}
use lib.ListN.{length, replicate}
use Rattle.meaning.specs.Table.{ends}
use Rattle.file.specs.Format.{four, period_at, from_of, to_of}
use Rattle.file.proofs.Refusals.{less}
use Rattle.withdrawals.specs.Source.{Source, N, credential_in, credentials}
use Rattle.withdrawals.specs.Conditions.{Accepted}
use Rattle.withdrawals.proofs.Ends.{counted-ends, end-early}
use Rattle.survey.specs.Ends.{padded}
use Rattle.codec.specs.Bytes.{bytes_of, first_entries, entries}
use Rattle.codec.proofs.Entries.{length-bytes_of, first-bytes_of}
use Rattle.replies.specs.Interface.{Bytes}

-- ---- the ends of a file

module _ (f : Source) (small : Bytes f.file) where
  four_low : (i : ℕ) → four f.file i < 256 ^ 4
  four_low i = omega (arith, small i, small (i + 1), small (i + 2), small (i + 2 + 1))

  pub end_low : Accepted f → (x : ℕ) → Mem x (ends (credentials f)) → x < 256 ^ 4
  end_low a x m = let (i, l, _, e) = (counted-ends f a.readable x).0 m in go i l (a.readable.good i l).period.minute e
    where
      -- `to` is not the largest number
      next_low : (i : ℕ) → ¬ (to_of f.file i ≡ 4294967295) → (to_of f.file i < 4294967295) ⊎ (4294967295 ≤ to_of f.file i) → to_of f.file i + 1 < 256 ^ 4
      next_low i n (inl h) = omega arith
      next_low i n (inr h) = absurd (n (omega (arith, four_low (period_at f.file i + 4))))

      go : (i : ℕ) → i < N f → ¬ (to_of f.file i ≡ 4294967295) → (x ≡ from_of f.file i) ⊎ (x ≡ (credential_in f i).period.until) → x < 256 ^ 4
      go i l n (inl e) = omega (arith, four_low (period_at f.file i))
      go i l n (inr e) = omega (arith, e, end-early f a.readable i l, next_low i n (less (to_of f.file i) 4294967295))

-- ---- 64 places

zeros-low : (n x : ℕ) → Mem x (replicate n 0) → x < 256 ^ 4
zeros-low zero x m = elim m [ ]
zeros-low (suc n) x (head e) = omega arith
zeros-low (suc n) x (tail m) = zeros-low n x m

pub places-read : (l : List ℕ) → length l ≤ 64 → ((x : ℕ) → Mem x l → x < 256 ^ 4) → entries 4 (bytes_of 4 (padded 64 l)) ≡ padded 64 l
places-read l few h =
    let n : length (bytes_of 4 (padded 64 l)) / 4 ≡ length (padded 64 l) = omega (arith, length-bytes_of 4 (padded 64 l)) in
    ap (λ (k : ℕ). first_entries 4 k (bytes_of 4 (padded 64 l))) n ∙ first-bytes_of 4 (padded 64 l) (λ x m. go x (append_cases l m))
  where
    go : (x : ℕ) → Mem x l ⊎ Mem x (replicate (64 - length l) 0) → x < 256 ^ 4
    go x (inl m) = h x m
    go x (inr m) = zeros-low (64 - length l) x m

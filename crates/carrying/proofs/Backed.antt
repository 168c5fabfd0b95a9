-- The bytes of a new file brought back, and what they are read as.
use mathlib.Core.Path.{◌≡◌, refl, ap, ◌∙◌}
use mathlib.Core.List.{List, ◌++◌}
use Prim.Native.Nat.{ℕ, ◌+◌, ◌*◌, ◌≤◌, ◌<◌}
use native.Mathlib.Omega.{arith}
use lib.ListN.{length, take, drop, get_or}
use lib.Seq.{get_or-take, length-take-le}
use Rattle.meaning.specs.Lists.{each, below}
use Rattle.file.specs.Format.{byte, two, E, R, N, length_for, statement_at, period_at, to_of}
use Rattle.codec.specs.Bytes.{bytes}
use Rattle.codec.specs.ByteLists.{Bytes}
use Rattle.blocks.proofs.Numbers.{four_bytes}
use Rattle.old_file.specs.OldFormat.{old_length, old_statement_at, old_period_at, old_to}
use Rattle.carrying.specs.Carrying.{old_statement, raised_period, back_of}
use Rattle.carrying.proofs.Bytes.{append-small, take-small, drop-small, bytes_small, each-small}
use Rattle.carrying.proofs.Laid as Laid
use Rattle.carrying.proofs.Forwarded.{part_length, part-byte, behind-byte, before-byte}
use Rattle.carrying.proofs.Parts as Parts

module _ (f : List ℕ) (few : N f ≤ 256) (long : length f ≡ length_for (N f)) where
  abbrev b : List ℕ
  b = back_of f

  abbrev n : ℕ
  n = N f

  six : length (take 6 f) ≡ 6
  six = length-take-le 6 f (omega arith)

  statements : (i : ℕ) → i < n → length (old_statement f i) ≡ 8
  statements = Parts.old-statement-length f n refl few long

  periods : (i : ℕ) → i < n → length (raised_period f i) ≡ 8
  periods = Parts.raised-length f n refl few long

  pub length_back : length b ≡ old_length n
  length_back = Parts.back-length f n refl few long

  head-same : (j : ℕ) → j < 6 → byte b j ≡ byte f j
  unfolding back_of
  head-same j l = Laid.head_byte (take 6 f) (old_statement f) (raised_period f) 8 n six statements periods j l ∙ get_or-take 6 f j 0 l

  pub sizes-back : (E b ≡ E f) × (R b ≡ R f) × (N b ≡ N f)
  sizes-back = (two-same 0 (omega arith), two-same 2 (omega arith), two-same 4 (omega arith))
    where
      two-same : (j : ℕ) → j + 1 < 6 → two b j ≡ two f j
      two-same j l =
          let x = head-same j (omega arith) in
          let y = head-same (j + 1) l in
          λ i. x i + 256 * y i

  pub head-back : take 6 b ≡ take 6 f
  unfolding back_of
  head-back = Laid.head-part (take 6 f) (old_statement f) (raised_period f) 8 n six statements periods

  pub small-back : Bytes f → Bytes b
  unfolding back_of
  small-back small =
      append-small (take 6 f) (each (old_statement f) (below n) ++ each (raised_period f) (below n)) (take-small 6 f small)
      (append-small (each (old_statement f) (below n)) (each (raised_period f) (below n))
      (each-small (old_statement f) (below n) (λ i. take-small 8 (drop (statement_at i) f) (drop-small (statement_at i) f small)))
      (each-small (raised_period f) (below n) (λ i. append-small (take 4 (drop (period_at f i) f)) (bytes 4 (to_of f i + 1)) (take-small 4 (drop (period_at f i) f) (drop-small (period_at f i) f small)) (bytes_small 4 (to_of f i + 1)))))

  module _ (i : ℕ) (low : i < n) where
    pub statement-back : (j : ℕ) → j < 8 → byte b (old_statement_at i + j) ≡ byte f (statement_at i + j)
    unfolding back_of
    statement-back j l =
        Laid.statement-byte (take 6 f) (old_statement f) (raised_period f) 8 n six statements periods i j low l (omega arith)
        ∙ part-byte f (statement_at i) 8 j l

    in-period : (j : ℕ) → j < 8 → byte b (old_period_at b i + j) ≡ get_or (raised_period f i) j 0
    unfolding back_of
    in-period j l =
        ap (λ (m : ℕ). byte b (6 + 8 * m + 8 * i + j)) sizes-back.2
        ∙ Laid.period-byte (take 6 f) (old_statement f) (raised_period f) 8 n six statements periods i j low l

    kept : length (take 4 (drop (period_at f i) f)) ≡ 4
    kept = part_length f (period_at f i) 4 (omega arith)

    pub from_back : (j : ℕ) → j < 4 → byte b (old_period_at b i + j) ≡ byte f (period_at f i + j)
    from_back j l =
        in-period j (omega arith) ∙ before-byte (take 4 (drop (period_at f i) f)) (bytes 4 (to_of f i + 1)) 4 j kept l
        ∙ part-byte f (period_at f i) 4 j l

    to-byte : (j : ℕ) → j < 4 → (q : ℕ) → q ≡ old_period_at b i + (4 + j) → byte b q ≡ get_or (bytes 4 (to_of f i + 1)) j 0
    to-byte j l q e =
        ap (byte b) e ∙ in-period (4 + j) (omega arith)
        ∙ behind-byte (take 4 (drop (period_at f i) f)) (bytes 4 (to_of f i + 1)) 4 j (4 + j) kept refl

    pub to_back : to_of f i + 1 < 4294967296 → old_to b i ≡ to_of f i + 1
    to_back h =
        let p : ℕ = old_period_at b i in
        four_bytes b (old_period_at b i + 4) (to_of f i + 1) h
        (to-byte 0 (omega arith) (p + 4) (omega arith)) (to-byte 1 (omega arith) (p + 4 + 1) (omega arith))
        (to-byte 2 (omega arith) (p + 4 + 2) (omega arith)) (to-byte 3 (omega arith) (p + 4 + 2 + 1) (omega arith))

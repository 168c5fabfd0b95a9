-- The bytes of an old file brought forward, and what they are read as: the same sizes, fields and `from`, serials that are position plus one, and `to` lowered.
use mathlib.Core.Path.{◌≡◌, refl, sym, ap, ◌∙◌}
use mathlib.Core.List.{List, ◌++◌}
use Prim.Native.Nat.{ℕ, zero, suc, ◌+◌, ◌*◌, ◌≤◌, ◌<◌}
use native.Mathlib.Omega.{arith}
use lib.ListN.{length, take, drop, get_or, length-append, length-drop, get_or-append}
use lib.Seq.{get_or-drop, get_or-take, get_or-append-add, length-take-le}
use Rattle.file.specs.Format.{byte, two, four, E, R, N, length_for, statement_at, period_at, field, serial_of, from_of, to_of}
use Rattle.codec.specs.Bytes.{bytes}
use Rattle.codec.specs.ByteLists.{Bytes}
use Rattle.codec.proofs.Entries.{length-bytes}
use Rattle.blocks.proofs.Numbers.{four_bytes}
use Rattle.old_file.specs.OldFormat.{old_length, old_statement_at, old_period_at, old_field, old_from, old_to}
use Rattle.carrying.specs.Carrying.{lowered, new_statement, new_period, forward_of}
use Rattle.carrying.proofs.Laid as Laid

-- k bytes of a list from p on
pub part_length : (f : List ℕ) (p k : ℕ) → p + k ≤ length f → length (take k (drop p f)) ≡ k
part_length f p k h = length-take-le k (drop p f) (omega (arith, length-drop p f))

pub part-byte : (f : List ℕ) (p k j : ℕ) → j < k → get_or (take k (drop p f)) j 0 ≡ get_or f (p + j) 0
part-byte f p k j h = get_or-take k (drop p f) j 0 h ∙ get_or-drop p f j 0

-- the bytes of a number behind a part
pub behind-byte : (s t : List ℕ) (k j m : ℕ) → length s ≡ k → m ≡ k + j → get_or (s ++ t) m 0 ≡ get_or t j 0
behind-byte s t k j m e q =
    let p : m ≡ length s + j = omega arith in
    ap (λ (x : ℕ). get_or (s ++ t) x 0) p ∙ get_or-append-add s t j 0

pub before-byte : (s t : List ℕ) (k j : ℕ) → length s ≡ k → j < k → get_or (s ++ t) j 0 ≡ get_or s j 0
before-byte s t k j e l = get_or-append s t 0 j (omega arith)

pub four_low : (f : List ℕ) → Bytes f → (p : ℕ) → four f p < 4294967296
four_low f small p = omega (arith, small p, small (p + 1), small (p + 2), small (p + 2 + 1))

pub lowered-low : (x : ℕ) → x < 4294967296 → lowered x < 4294967296
lowered-low zero h = omega arith
lowered-low (suc x) h = omega arith

pub lowered-raised : (x : ℕ) → 1 ≤ x → lowered x + 1 ≡ x
lowered-raised zero h = absurd (omega arith)
lowered-raised (suc x) h = omega arith

module _ (f : List ℕ) (few : N f ≤ 256) (long : length f ≡ old_length (N f)) where
  abbrev g : List ℕ
  g = forward_of f

  abbrev n : ℕ
  n = N f

  six : length (take 6 f) ≡ 6
  six = length-take-le 6 f (omega arith)

  kept : (i : ℕ) → i < n → length (take 8 (drop (old_statement_at i) f)) ≡ 8
  kept i l = part_length f (old_statement_at i) 8 (omega arith)

  kept_from : (i : ℕ) → i < n → length (take 4 (drop (old_period_at f i) f)) ≡ 4
  kept_from i l = part_length f (old_period_at f i) 4 (omega arith)

  pub statement-length : (i : ℕ) → i < n → length (new_statement f i) ≡ 12
  statement-length i l =
      length-append (take 8 (drop (old_statement_at i) f)) (bytes 4 (i + 1))
      ∙ omega (arith, kept i l, length-bytes 4 (i + 1))

  pub period-length : (i : ℕ) → i < n → length (new_period f i) ≡ 8
  period-length i l =
      length-append (take 4 (drop (old_period_at f i) f)) (bytes 4 (lowered (old_to f i)))
      ∙ omega (arith, kept_from i l, length-bytes 4 (lowered (old_to f i)))

  pub forward-length : length g ≡ length_for n
  unfolding forward_of
  forward-length =
      Laid.all-length (take 6 f) (new_statement f) (new_period f) 12 n six statement-length period-length ∙ omega arith

  head-same : (j : ℕ) → j < 6 → byte g j ≡ byte f j
  unfolding forward_of
  head-same j l =
      Laid.head_byte (take 6 f) (new_statement f) (new_period f) 12 n six statement-length period-length j l ∙ get_or-take 6 f j 0 l

  pub sizes-same : (E g ≡ E f) × (R g ≡ R f) × (N g ≡ N f)
  sizes-same = (two-same 0 (omega arith), two-same 2 (omega arith), two-same 4 (omega arith))
    where
      two-same : (j : ℕ) → j + 1 < 6 → two g j ≡ two f j
      two-same j l =
          let a = head-same j (omega arith) in
          let b = head-same (j + 1) l in
          λ x. a x + 256 * b x

  pub head-part : take 6 g ≡ take 6 f
  unfolding forward_of
  head-part = Laid.head-part (take 6 f) (new_statement f) (new_period f) 12 n six statement-length period-length

  module _ (i : ℕ) (low : i < n) where
    in-statement : (j : ℕ) → j < 12 → byte g (statement_at i + j) ≡ get_or (new_statement f i) j 0
    unfolding forward_of
    in-statement j l =
        Laid.statement-byte (take 6 f) (new_statement f) (new_period f) 12 n six statement-length period-length i j low l (omega arith)

    in-period : (j : ℕ) → j < 8 → byte g (period_at g i + j) ≡ get_or (new_period f i) j 0
    unfolding forward_of
    in-period j l =
        ap (λ (m : ℕ). byte g (6 + 12 * m + 8 * i + j)) sizes-same.2
        ∙ Laid.period-byte (take 6 f) (new_statement f) (new_period f) 12 n six statement-length period-length i j low l

    pub field-same : (j : ℕ) → j < 8 → field g i j ≡ old_field f i j
    field-same j l =
        in-statement j (omega arith) ∙ before-byte (take 8 (drop (old_statement_at i) f)) (bytes 4 (i + 1)) 8 j (kept i low) l
        ∙ part-byte f (old_statement_at i) 8 j l

    serial-byte : (j : ℕ) → j < 4 → (q : ℕ) → q ≡ statement_at i + (8 + j) → byte g q ≡ get_or (bytes 4 (i + 1)) j 0
    serial-byte j l q e =
        ap (byte g) e ∙ in-statement (8 + j) (omega arith)
        ∙ behind-byte (take 8 (drop (old_statement_at i) f)) (bytes 4 (i + 1)) 8 j (8 + j) (kept i low) refl

    pub serial-is : serial_of g i ≡ i + 1
    serial-is =
        four_bytes g (statement_at i + 8) (i + 1) (omega arith)
        (serial-byte 0 (omega arith) (statement_at i + 8) (omega arith)) (serial-byte 1 (omega arith) (statement_at i + 8 + 1) (omega arith))
        (serial-byte 2 (omega arith) (statement_at i + 8 + 2) (omega arith)) (serial-byte 3 (omega arith) (statement_at i + 8 + 2 + 1) (omega arith))

    pub from_byte : (j : ℕ) → j < 4 → (q r : ℕ) → q ≡ period_at g i + j → r ≡ old_period_at f i + j → byte g q ≡ byte f r
    from_byte j l q r e d =
        ap (byte g) e ∙ in-period j (omega arith)
        ∙ before-byte (take 4 (drop (old_period_at f i) f)) (bytes 4 (lowered (old_to f i))) 4 j (kept_from i low) l
        ∙ part-byte f (old_period_at f i) 4 j l ∙ ap (byte f) (sym d)

    pub from-same : from_of g i ≡ old_from f i
    from-same =
        let p : ℕ = period_at g i in
        let q : ℕ = old_period_at f i in
        let a = from_byte 0 (omega arith) p q (omega arith) (omega arith) in
        let b = from_byte 1 (omega arith) (p + 1) (q + 1) refl refl in
        let c = from_byte 2 (omega arith) (p + 2) (q + 2) refl refl in
        let d = from_byte 3 (omega arith) (p + 2 + 1) (q + 2 + 1) (omega arith) (omega arith) in
        λ x. a x + 256 * b x + 65536 * (c x + 256 * d x)

    to-byte : (j : ℕ) → j < 4 → (q : ℕ) → q ≡ period_at g i + (4 + j) → byte g q ≡ get_or (bytes 4 (lowered (old_to f i))) j 0
    to-byte j l q e =
        ap (byte g) e ∙ in-period (4 + j) (omega arith)
        ∙ behind-byte (take 4 (drop (old_period_at f i) f)) (bytes 4 (lowered (old_to f i))) 4 j (4 + j) (kept_from i low) refl

    pub to_is : Bytes f → to_of g i ≡ lowered (old_to f i)
    to_is small =
        let p : ℕ = period_at g i in
        four_bytes g (period_at g i + 4) (lowered (old_to f i)) (lowered-low (old_to f i) (four_low f small (old_period_at f i + 4)))
        (to-byte 0 (omega arith) (p + 4) (omega arith)) (to-byte 1 (omega arith) (p + 4 + 1) (omega arith))
        (to-byte 2 (omega arith) (p + 4 + 2) (omega arith)) (to-byte 3 (omega arith) (p + 4 + 2 + 1) (omega arith))

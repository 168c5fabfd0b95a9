-- The three parts that are written one after the other are the whole file.
use mathlib.Core.Path.{◌≡◌, ap, ◌∙◌}
use mathlib.Core.List.{List, ◌++◌, append_assoc}
use Prim.Native.Nat.{ℕ, zero, suc, ◌+◌, ◌*◌, ◌≤◌, ◌<◌}
use native.Mathlib.Omega.{arith}
use lib.ListN.{length, take, drop, length-append}
use lib.Seq.{length-take-le}
use Rattle.meaning.specs.Lists.{each, below}
use Rattle.meaning.proofs.ListLaws.{each_same}
use Rattle.file.specs.Format.{N, length_for, statement_at, period_at, to_of}
use Rattle.codec.specs.Bytes.{bytes}
use Rattle.codec.proofs.Entries.{length-bytes}
use Rattle.blocks.specs.Blocks.{written, serialled, bare, raised}
use Rattle.blocks.proofs.Numbers.{bytes-wrap}
use Rattle.blocks.proofs.Writing.{written_next, written-whole, written_start}
use Rattle.old_file.specs.OldFormat.{old_length, old_period_at, old_to}
use Rattle.carrying.specs.Carrying.{lowered, new_statement, new_period, forward_of, old_statement, raised_period, back_of}
use Rattle.carrying.specs.Judging.{OldSized}
use Rattle.carrying.proofs.Laid as Laid
use Rattle.carrying.proofs.Forwarded.{part_length, statement-length, period-length, forward-length}

-- three parts from the start
three-parts : (d h s p : List ℕ) (a : ℕ) → length h ≡ 6 → a ≡ 6 + length s → a ≤ length d → {d₁ d₂ d₃ : List ℕ}
    → d₁ ≡ written d 0 h → d₂ ≡ written d₁ 6 s → d₃ ≡ written d₂ a p → d₃ ≡ written d 0 (h ++ (s ++ p))
three-parts d h s p a six e room {d₁} {d₂} {d₃} q₁ q₂ q₃ =
    let both : d₂ ≡ written d 0 (h ++ s) = q₂ ∙ ap (λ (l : List ℕ). written l 6 s) q₁ ∙ written_next d 0 h s 6 (omega arith) (omega arith) in
    let n : a ≡ 0 + length (h ++ s) = omega (arith, length-append h s) in
    q₃ ∙ ap (λ (l : List ℕ). written l a p) both ∙ written_next d 0 (h ++ s) p a n room ∙ ap (written d 0) (append_assoc h s p)

-- raising by the largest number is lowering by one
pub lowered-bytes : (t : ℕ) → bytes 4 (t + 4294967295) ≡ bytes 4 (lowered t)
lowered-bytes zero = let e : 0 + 4294967295 ≡ 4294967295 = omega arith in ap (bytes 4) e
lowered-bytes (suc t) = let e : suc t + 4294967295 ≡ t + 4294967296 = omega arith in ap (bytes 4) e ∙ bytes-wrap t

module _ (f : List ℕ) (n : ℕ) (s : OldSized f n) where
  periods-lowered : each (raised f (6 + 8 * n) 4294967295) (below n) ≡ each (new_period f) (below (N f))
  periods-lowered =
      ap (λ (m : ℕ). each (raised f (6 + 8 * m) 4294967295) (below m)) s.count
      ∙ each_same (below (N f)) (λ i m. ap (λ (l : List ℕ). take 4 (drop (old_period_at f i) f) ++ l) (lowered-bytes (old_to f i)))

  pub new-parts : (d : List ℕ) → 6 + 20 * n ≤ length d → {d₁ d₂ d₃ : List ℕ}
      → d₁ ≡ written d 0 (take 6 f) → d₂ ≡ written d₁ 6 (each (serialled f) (below n)) → d₃ ≡ written d₂ (6 + 12 * n) (each (raised f (6 + 8 * n) 4294967295) (below n))
      → d₃ ≡ written d 0 (forward_of f)
  unfolding forward_of
  new-parts d room {d₁} {d₂} q₁ q₂ q₃ =
      let h : length (take 6 f) ≡ 6 = length-take-le 6 f (omega (arith, s.long)) in
      let l = Laid.statements-length (take 6 f) (new_statement f) (new_period f) 12 (N f) h (statement-length f s.few s.long) (period-length f s.few s.long) in
      let c = s.count in
      three-parts d (take 6 f) (each (new_statement f) (below (N f))) (each (new_period f) (below (N f))) (6 + 12 * n) h (omega arith) (omega arith)
      q₁ (q₂ ∙ ap (λ (m : ℕ). written d₁ 6 (each (serialled f) (below m))) c) (q₃ ∙ ap (written d₂ (6 + 12 * n)) periods-lowered)

  pub new-start : (d : List ℕ) → take (6 + 20 * n) (written d 0 (forward_of f)) ≡ forward_of f
  new-start d =
      let l = forward-length f s.few s.long in
      let c = s.count in
      written_start d (forward_of f) (6 + 20 * n) (omega arith)

module _ (f : List ℕ) (n : ℕ) (count : n ≡ N f) (few : n ≤ 256) (long : length f ≡ length_for n) where
  pub old-statement-length : (i : ℕ) → i < N f → length (old_statement f i) ≡ 8
  old-statement-length i l = part_length f (statement_at i) 8 (omega arith)

  pub raised-length : (i : ℕ) → i < N f → length (raised_period f i) ≡ 8
  raised-length i l =
      length-append (take 4 (drop (period_at f i) f)) (bytes 4 (to_of f i + 1))
      ∙ omega (arith, part_length f (period_at f i) 4 (omega arith), length-bytes 4 (to_of f i + 1))

  pub back-length : length (back_of f) ≡ old_length (N f)
  unfolding back_of
  back-length =
      let h : length (take 6 f) ≡ 6 = length-take-le 6 f (omega arith) in
      Laid.all-length (take 6 f) (old_statement f) (raised_period f) 8 (N f) h old-statement-length raised-length ∙ omega arith

  pub old-parts : (d : List ℕ) → length d ≡ old_length n → {d₁ d₂ d₃ : List ℕ}
      → d₁ ≡ written d 0 (take 6 f) → d₂ ≡ written d₁ 6 (each (bare f) (below n)) → d₃ ≡ written d₂ (6 + 8 * n) (each (raised f (6 + 12 * n) 1) (below n))
      → d₃ ≡ back_of f
  unfolding back_of
  old-parts d room {d₁} {d₂} q₁ q₂ q₃ =
      let h : length (take 6 f) ≡ 6 = length-take-le 6 f (omega arith) in
      let l = Laid.statements-length (take 6 f) (old_statement f) (raised_period f) 8 (N f) h old-statement-length raised-length in
      let e = back-length in
      three-parts d (take 6 f) (each (old_statement f) (below (N f))) (each (raised_period f) (below (N f))) (6 + 8 * n) h (omega arith) (omega arith)
      q₁ (q₂ ∙ ap (λ (m : ℕ). written d₁ 6 (each (bare f) (below m))) count)
      (q₃ ∙ ap (λ (m : ℕ). written d₂ (6 + 8 * n) (each (raised f (6 + 12 * m) 1) (below m))) count)
      ∙ written-whole d (back_of f) (omega arith)

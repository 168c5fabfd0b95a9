-- What the sentences of 20 and 21 say is so.
use mathlib.Core.Path.{◌≡◌, refl, subst⁻¹}
use mathlib.Core.Bool.{Bool, true, false, not}
use mathlib.Core.Logic.{◌⊎◌, inl, inr, ⊎_elim}
use mathlib.Core.List.{List}
use Prim.Native.Nat.{ℕ, min, ◌≤◌, ◌<◌}
use native.Mathlib.Omega.{arith}
use borrow.Author.Tests.{lt-ltb, le-ltb, eqb-true, eqb-false, eq-eqb, ne_eqb, not-true}
use lib.Dec.{T, eqb}
use lib.ListN.{length}
use Rattle.meaning.proofs.Tests.{or_right, is_true}
use Rattle.meaning.proofs.ListLaws.{below_in, below_out}
use Rattle.file.specs.Format.{N, serial_of}
use Rattle.file.proofs.Refusals.{less}
use Rattle.withdrawals.specs.List.{count, bytes_for, serial_at, repeated}
use Rattle.withdrawals.specs.Source.{◌without◌}
use Rattle.withdrawals.specs.Conditions.{Misshapen, Twice, Unknown}
use Rattle.sentences.proofs.First.{Found, Absent, found-or}
use Rattle.list_sentences.specs.ListSentences.{looked, on_credential, wrong_at, first_wrong, list_text}
use Rattle.list_sentences.specs.Named.{ShapeNamed, Repeated, Unheld, FaultNamed, SerialNamed}
use Rattle.list_sentences.proofs.Searching.{contrary, some_in, none_in, some_out, none_out, before-first}

-- ---- 20

module _ (f w : List ℕ) where
  pub shape-named : Misshapen w → ShapeNamed f w
  unfolding list_text
  shape-named m = by_length (less (length w) 2)
    where
      other : 2 ≤ length w → count w ≤ 256 → Misshapen w → ¬ (length w ≡ bytes_for (count w))
      other g h (inl l) = absurd (omega arith)
      other g h (inr (inl l)) = absurd (omega arith)
      other g h (inr (inr l)) = l

      by_count : 2 ≤ length w → (256 < count w) ⊎ (count w ≤ 256) → ShapeNamed f w
      by_count g (inl h) = inr (inl (h, rw (le-ltb _ _ g, lt-ltb _ _ h)))
      by_count g (inr h) = inr (inr (other g h m, rw (le-ltb _ _ g, le-ltb _ _ h)))

      by_length : (length w < 2) ⊎ (2 ≤ length w) → ShapeNamed f w
      by_length (inl h) = inl (h, rw (lt-ltb _ _ h))
      by_length (inr h) = by_count h (less 256 (count w))

-- ---- 21

module _ (w : List ℕ) (k : ℕ) where
  abbrev same : ℕ → Bool
  same j = eqb (serial_at w j) (serial_at w k)

  repeated-in : Repeated w k → repeated w k ≡ true
  repeated-in (j, l, e) = some_in same k j l (eq-eqb _ _ e)

  repeated-out : repeated w k ≡ true → Repeated w k
  repeated-out e = let (j, l, t) = some_out same k e in (j, l, eqb-true _ _ t)

module _ (f w : List ℕ) (few : N f ≤ 256) where
  module _ (k : ℕ) where
    abbrev held : ℕ → Bool
    held i = eqb (serial_of f i) (serial_at w k)

    unheld-in : Unheld f w k → on_credential f (serial_at w k) ≡ false
    unheld-in u = none_in held (min (N f) 256) (λ i l. ne_eqb _ _ (u i (omega arith)))

    unheld-out : on_credential f (serial_at w k) ≡ false → Unheld f w k
    unheld-out e i l = eqb-false _ _ (none_out held (min (N f) 256) e i (omega arith))

    wrong-in : Repeated w k ⊎ Unheld f w k → wrong_at f w k ≡ true
    wrong-in (inl r) = rw (repeated-in w k r)
    wrong-in (inr u) = is_true _ (or_right (repeated w k) _ (subst⁻¹ (λ (b : Bool). T (not b)) (unheld-in u) tt))

  module _ (short : count w ≤ 256) where
    abbrev at : ℕ
    at = first_wrong f w

    named : Found (wrong_at f w) (looked (count w)) → SerialNamed f w
    unfolding list_text
    named r = record {
      at = at;
      within = let l = below_out (min (count w) 256) r.in_list in omega arith;
      first = λ k l x. contrary (wrong-in k x) (before-first (wrong_at f w) (min (count w) 256) k l);
      fault = by (repeated w at) refl;
    }
      where
        by : (b : Bool) → repeated w at ≡ b → FaultNamed f w at
        by true e = inl (repeated-out w at e, rw e)
        by false e = inr ((λ x. contrary (repeated-in w at x) e), unheld-out at (not-true _ (rw e at r.taken)), rw e)

    pub serial-named : Twice w ⊎ Unknown (f without w) → SerialNamed f w
    serial-named u = ⊎_elim named (λ a. absurd (none a u)) (found-or (wrong_at f w) (looked (count w)))
      where
        none : Absent (wrong_at f w) (looked (count w)) → Twice w ⊎ Unknown (f without w) → ⊥
        none a (inl (j, k, l, m, e)) = contrary (wrong-in k (inl (j, l, e))) (a.each k (below_in (min (count w) 256) k (omega arith)))
        none a (inr (k, m, n)) = contrary (wrong-in k (inr n)) (a.each k (below_in (min (count w) 256) k (omega arith)))

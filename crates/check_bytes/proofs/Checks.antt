-- Checking on bytes: its reply from what checking answers on the entries before the step count.
use mathlib.Core.Path.{◌≡◌, sym, ap, ◌∙◌}
use mathlib.Core.Bool.{Bool, false}
use mathlib.Core.Logic.{dite}
use mathlib.Core.List.{List}
use Prim.Native.Nat.{ℕ, ◌*◌, ◌/◌, ◌≤◌, ◌<◌, min}
use native.Mathlib.Decide.{dec_lt}
use native.Mathlib.Omega.{arith}
use lib.ListN.{length, take, get_or, get_or-eq_default}
use lib.Seq.{length-take-le, get_or-take}
use Rattle.meaning.specs.Lists.{if}
use Rattle.file.specs.Refusals.{Outcome}
use Rattle.asking.specs.Asking.{Request, StepLists, step_lists}
use Rattle.withdrawals.specs.Source.{Source, credentials}
use Rattle.checking.specs.Checking.{part_before, proof_rows, last_shown, checking}
use Rattle.checking.proofs.Parts.{Agree, AgreeBelow}
use Rattle.checking.proofs.Claims.{part-before-count}
use Rattle.codec.specs.Bytes.{first_entries, entries}
use Rattle.codec.proofs.Entries.{length-entries, get_d-first}
use Rattle.replies.specs.Interface.{word, not_whole, step_lists_in}
use Rattle.replies.specs.Lengths.{StepSizes}
use Rattle.replies.proofs.Fitting.{fit, steps-whole, steps-unfit}
use Rattle.check_bytes.specs.Interface.{check_reply}

-- lists that are not of one length
pub check-unfit : (f : Source) (q : Request) (b : StepLists) (n : ℕ) → fit b ≡ false → check_reply f q b n ≡ not_whole f 0
unfolding check_reply checking
check-unfit f q b n e = steps-unfit b f q e (proof_rows (credentials f) q (step_lists_in b) n) (last_shown (credentials f) (part_before n (step_lists_in b)) n).level 0

-- n of the first L places of a list hold the first entries of L, and there are no more steps
abbrev Holds : ℕ → List ℕ → List ℕ → Type 0
Holds n room bs = (length room ≡ 1024) × (take n room ≡ first_entries 4 n bs)

module _ (L steps n : ℕ) (few : L ≤ 1024) (least : n ≡ min steps L) where
  read-agrees : (room bs : List ℕ) → length bs ≡ 4 * L → Holds n room bs → Agree steps (take L room) (entries 4 bs)
  read-agrees room bs h (long, e) = record { long = size ∙ sym all; same = same }
    where
      all : length (entries 4 bs) ≡ L
      all = length-entries 4 bs ∙ omega arith

      size : length (take L room) ≡ L
      size = length-take-le L room (omega arith)

      same : (i : ℕ) → i < steps → get_or (take L room) i 0 ≡ get_or (entries 4 bs) i 0
      same i s =
          dite (dec_lt i n)
          (λ low.
          get_or-take L room i 0 (omega arith) ∙ sym (get_or-take n room i 0 low) ∙ ap (λ (x : List ℕ). get_or x i 0) e ∙ get_d-first 4 n bs i low
          ∙ sym (get_d-first 4 (length bs / 4) bs i (omega arith)))
          (λ high. get_or-eq_default (take L room) 0 (omega (arith, size)) ∙ sym (get_or-eq_default (entries 4 bs) 0 (omega (arith, all))))

-- the entries before the step count decide
module _ (f : Source) (q : Request) (b : StepLists) (L steps n : ℕ) (z : StepSizes b L) (least : n ≡ min steps L) where
  bytes-checked : check_reply f q b steps ≡ checking f q (step_lists_in b) steps
  unfolding check_reply
  bytes-checked = ap (λ (w : Bool). if w (checking f q (step_lists_in b) steps) (not_whole f 0)) (steps-whole b L z)

  pub checked : (t : StepLists) → Holds n t.credential b.credential → Holds n t.first b.first → Holds n t.second b.second → Holds n t.sets b.sets
      → {o : Outcome ℕ} → o ≡ checking f q (step_lists (take L t.credential) (take L t.first) (take L t.second) (take L t.sets)) steps
      → word (λ k. k) o ≡ word (λ k. k) (check_reply f q b steps)
  checked t c x y v {o} h =
      let u = step_lists (take L t.credential) (take L t.first) (take L t.second) (take L t.sets) in
      let same : AgreeBelow steps u (step_lists_in b) =
      record {
        credential = read-agrees L steps n z.few least t.credential b.credential z.credential c;
        first = read-agrees L steps n z.few least t.first b.first z.first x;
        second = read-agrees L steps n z.few least t.second b.second z.second y;
        sets = read-agrees L steps n z.few least t.sets b.sets z.sets v;
      } in
      ap (word (λ (k : ℕ). k)) (h ∙ part-before-count f q u steps same ∙ sym bytes-checked)

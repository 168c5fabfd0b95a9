-- Forward and back gives the same bytes, and so does back and forward.
use mathlib.Core.Path.{◌≡◌, refl, sym, ap, ap₂, ◌∙◌}
use mathlib.Core.Logic.{◌⊎◌, inl, inr}
use mathlib.Core.Bool.{true, ◌&&◌, not}
use mathlib.Core.List.{List, [], ◌∷◌, ◌++◌}
use Prim.Native.Nat.{ℕ, ◌+◌, ◌*◌, ◌≤◌, ◌<◌}
use native.Mathlib.Numerals.{add-one}
use native.Mathlib.Omega.{arith}
use lib.Dec.{T, eqb, leb, ltb, leb→le, eqb→eq}
use lib.ListN.{length, take, drop, take-append-drop, length-drop}
use lib.Seq.{ext_get_or, take-add, take_all, drop-drop}
use Rattle.meaning.specs.Lists.{each, below}
use Rattle.meaning.specs.Table.{ends}
use Rattle.meaning.proofs.Tests.{and_left, and_right}
use Rattle.meaning.proofs.ListLaws.{each_same, below_out}
use Rattle.file.specs.Refusals.{RefusalRow, Outcome, done, refused, first, ◌when◌}
use Rattle.file.specs.Format.{byte, E, R, N, length_for, statement_at, period_at, serial_of, to_of, credentials}
use Rattle.file.specs.Reading.{between, reading}
use Rattle.file.specs.Conditions.{Accepted}
use Rattle.file.proofs.First.{after, first-append, first_any, first_holds, not-not}
use Rattle.file.proofs.Refusals.{less, accepted-read, accepted-exact}
use Rattle.file.proofs.Sizes.{fit}
use Rattle.codec.specs.Bytes.{bytes}
use Rattle.codec.specs.ByteLists.{Bytes}
use Rattle.blocks.proofs.Numbers.{bytes-four}
use Rattle.old_file.specs.OldFormat.{old_length, old_statement_at, old_period_at, old_to, old_credentials}
use Rattle.old_file.specs.OldReading.{old_head_rows, old_credential_rows, old_reading, OldPasses}
use Rattle.carrying.specs.Carrying.{lowered, new_statement, new_period, forward_of, old_statement, raised_period, back_of}
use Rattle.carrying.proofs.Laid.{cut-blocks}
use Rattle.carrying.proofs.Forwarded.{part_length, part-byte, four_low, lowered-raised, forward-length, sizes-same, head-part, field-same, from_byte, to_is}
use Rattle.carrying.proofs.SameReading.{same-reading, credentials-same, to_some}
use Rattle.carrying.proofs.Backed.{length_back, sizes-back, head-back, small-back, statement-back, from_back, to_back}

-- ---- lists

-- two parts of one length are equal by their bytes
part_same : (f g : List ℕ) (p q k : ℕ) → p + k ≤ length f → q + k ≤ length g → ((j : ℕ) → j < k → byte f (p + j) ≡ byte g (q + j))
    → take k (drop p f) ≡ take k (drop q g)
part_same f g p q k h l e =
    let a = part_length f p k h in
    let b = part_length g q k l in
    ext_get_or 0 (take k (drop p f)) (take k (drop q g)) (a ∙ sym b)
    (λ j i. let s : j < k = omega arith in part-byte f p k j s ∙ e j s ∙ sym (part-byte g q k j s))

-- neighbouring parts
parts_join : (f : List ℕ) (p j k : ℕ) → take j (drop p f) ++ take k (drop (p + j) f) ≡ take (j + k) (drop p f)
parts_join f p j k = ap (λ (l : List ℕ). take j (drop p f) ++ take k l) (sym (drop-drop j p f)) ∙ sym (take-add j k (drop p f))

-- three parts are the whole
whole : (f : List ℕ) (a b : ℕ) → length f ≡ 6 + a + b → take 6 f ++ (take a (drop 6 f) ++ take b (drop (6 + a) f)) ≡ f
whole f a b e =
    let rest : take b (drop (6 + a) f) ≡ drop a (drop 6 f) = take_all b (drop (6 + a) f) (omega (arith, length-drop (6 + a) f)) ∙ sym (drop-drop a 6 f) in
    ap (λ (l : List ℕ). take 6 f ++ (take a (drop 6 f) ++ l)) rest ∙ ap (λ (l : List ℕ). take 6 f ++ l) (take-append-drop a (drop 6 f)) ∙ take-append-drop 6 f

-- ---- an accepted old file

-- nothing is refused by two lists of rows exactly if nothing is by each
none_left : (xs ys : List RefusalRow) → ◌≡◌ {A = Outcome ℕ} (first (xs ++ ys) 0) (done 0) → ◌≡◌ {A = Outcome ℕ} (first xs 0) (done 0)
none_left xs ys e = go (first xs 0) refl (sym (first-append {A = ℕ} {B = ℕ} xs ys 0 0) ∙ e)
  where
    go : (o : Outcome ℕ) → first xs 0 ≡ o → after {A = ℕ} {B = ℕ} o (first ys 0) ≡ done 0 → ◌≡◌ {A = Outcome ℕ} (first xs 0) (done 0)
    go (done m) q z = first_any {A = ℕ} {B = ℕ} xs 0 0 ∙ ap (λ (o : Outcome ℕ). after {A = ℕ} {B = ℕ} o (done 0)) q
    go (refused n p) q z = let y : ◌≡◌ {A = ℕ} 0 1 = cc in absurd (omega arith)

none_right : (xs ys : List RefusalRow) → ◌≡◌ {A = Outcome ℕ} (first (xs ++ ys) 0) (done 0) → ◌≡◌ {A = Outcome ℕ} (first ys 0) (done 0)
none_right xs ys e = go (first xs 0) (sym (first-append {A = ℕ} {B = ℕ} xs ys 0 0) ∙ e)
  where
    go : (o : Outcome ℕ) → after {A = ℕ} {B = ℕ} o (first ys 0) ≡ done 0 → ◌≡◌ {A = Outcome ℕ} (first ys 0) (done 0)
    go (done m) z = z
    go (refused n p) z = let y : ◌≡◌ {A = ℕ} 0 1 = cc in absurd (omega arith)

module _ (f : List ℕ) (a : OldPasses f) where
  abbrev eight : List RefusalRow
  eight = 8 when (ltb 64 (length (ends (old_credentials f)))) ∷ []

  head-none : ◌≡◌ {A = Outcome ℕ} (first (old_head_rows f) 0) (done 0)
  unfolding old_reading
  head-none = none_left (old_head_rows f) (each (old_credential_rows f) (below (N f)) ++ eight) a

  pub rows_none : ◌≡◌ {A = Outcome ℕ} (first (each (old_credential_rows f) (below (N f))) 0) (done 0)
  unfolding old_reading
  rows_none = none_left (each (old_credential_rows f) (below (N f))) eight (none_right (old_head_rows f) (each (old_credential_rows f) (below (N f)) ++ eight) a)

  tests : T (fit f) × T (eqb (length f) (old_length (N f)))
  tests =
      let t : T (not (ltb (length f) 6) && (not (not (fit f)) && (not (not (eqb (length f) (old_length (N f)))) && true))) = first_holds (old_head_rows f) 0 0 head-none in
      let u = and_right (not (ltb (length f) 6)) (not (not (fit f)) && (not (not (eqb (length f) (old_length (N f)))) && true)) t in (
        not-not (fit f) (and_left (not (not (fit f))) (not (not (eqb (length f) (old_length (N f)))) && true) u),
        not-not (eqb (length f) (old_length (N f))) (and_left (not (not (eqb (length f) (old_length (N f))))) true (and_right (not (not (fit f))) (not (not (eqb (length f) (old_length (N f)))) && true) u)),
      )

  pub old-few : N f ≤ 256
  old-few = leb→le (N f) 256 (and_right (leb 0 (N f)) (leb (N f) 256) (and_right (between 1 32 (E f) && between 1 32 (R f)) (between 0 256 (N f)) tests.0))

  pub old-long : length f ≡ old_length (N f)
  old-long = eqb→eq (length f) (old_length (N f)) tests.1

  module _ (small : Bytes f) where
    abbrev g : List ℕ
    g = forward_of f

    pub forward-accepted : Accepted g
    forward-accepted = (accepted-exact {A = ℕ} 0 g).0 (same-reading f old-few old-long small 0 ∙ a)

    pub forward-credentials : old_credentials f ≡ credentials g
    forward-credentials = sym (credentials-same f old-few old-long small (to_some f old-few old-long small rows_none))

    statement-kept : (i : ℕ) → i < N f → old_statement g i ≡ take 8 (drop (6 + 8 * i) f)
    statement-kept i l =
        let n = forward-length f old-few old-long in
        let m = old-long in
        part_same g f (statement_at i) (old_statement_at i) 8 (omega arith) (omega arith) (field-same f old-few old-long i l)

    period-kept : (i : ℕ) → i < N f → raised_period g i ≡ take 8 (drop (6 + 8 * N f + 8 * i) f)
    period-kept i l =
        let n = forward-length f old-few old-long in
        let m = old-long in
        let s = (sizes-same f old-few old-long).2 in
        let t = to_some f old-few old-long small rows_none i l in
        let e = to_is f old-few old-long i l small in
        let q : to_of g i + 1 ≡ old_to f i = ap (λ (x : ℕ). x + 1) e ∙ lowered-raised (old_to f i) (omega arith) in
        ap₂ (λ (x y : List ℕ). x ++ y)
        (part_same g f (period_at g i) (old_period_at f i) 4 (omega arith) (omega arith) (λ j h. from_byte f old-few old-long i l j h _ _ refl refl))
        (ap (bytes 4) q ∙ bytes-four f (old_period_at f i + 4) (omega arith) small)
        ∙ parts_join f (old_period_at f i) 4 4

    pub back-of-forward : back_of g ≡ f
    unfolding back_of
    back-of-forward =
        let s = (sizes-same f old-few old-long).2 in
        let m = old-long in
        ap (λ (n : ℕ). take 6 g ++ (each (old_statement g) (below n) ++ each (raised_period g) (below n))) s
        ∙ ap (λ (h : List ℕ). h ++ (each (old_statement g) (below (N f)) ++ each (raised_period g) (below (N f)))) (head-part f old-few old-long)
        ∙ ap₂ (λ (x y : List ℕ). take 6 f ++ (x ++ y))
        (each_same (below (N f)) (λ i h. statement-kept i (below_out (N f) h)) ∙ cut-blocks f 6 8 (N f))
        (each_same (below (N f)) (λ i h. period-kept i (below_out (N f) h)) ∙ cut-blocks f (6 + 8 * N f) 8 (N f))
        ∙ whole f (8 * N f) (8 * N f) (omega arith)

-- ---- a new file whose serials are position plus one

module _ (f : List ℕ) (a : Accepted f) (small : Bytes f) (placed : (i : ℕ) → i < N f → serial_of f i ≡ i + 1) where
  abbrev b : List ℕ
  b = back_of f

  new-few : N f ≤ 256
  new-few = a.head.limits.credentials

  new-long : length f ≡ length_for (N f)
  new-long = a.head.whole

  statement-back-kept : (i : ℕ) → i < N f → new_statement b i ≡ take 12 (drop (6 + 12 * i) f)
  statement-back-kept i l =
      let n = length_back f new-few new-long in
      let m = new-long in
      ap₂ (λ (x y : List ℕ). x ++ y)
      (part_same b f (old_statement_at i) (statement_at i) 8 (omega arith) (omega arith) (statement-back f new-few new-long i l))
      (ap (bytes 4) (sym (placed i l)) ∙ bytes-four f (statement_at i + 8) (omega arith) small)
      ∙ parts_join f (statement_at i) 8 4

  period-back-kept : (i : ℕ) → i < N f → new_period b i ≡ take 8 (drop (6 + 12 * N f + 8 * i) f)
  period-back-kept i l =
      let n = length_back f new-few new-long in
      let m = new-long in
      let s = (sizes-back f new-few new-long).2 in
      let c = four_low f small (period_at f i + 4) in
      let h : to_of f i + 1 < 4294967296 = below_top (to_of f i) c (a.good i l).period.minute in
      let q : lowered (old_to b i) ≡ to_of f i = ap lowered (to_back f new-few new-long i l h ∙ add-one (to_of f i)) in
      ap₂ (λ (x y : List ℕ). x ++ y)
      (part_same b f (old_period_at b i) (period_at f i) 4 (omega arith) (omega arith) (from_back f new-few new-long i l))
      (ap (bytes 4) q ∙ bytes-four f (period_at f i + 4) (omega arith) small)
      ∙ parts_join f (period_at f i) 4 4
    where
      below_top : (t : ℕ) → t < 4294967296 → ¬ (t ≡ 4294967295) → t + 1 < 4294967296
      below_top t h e = go (less t 4294967295)
        where
          go : (t < 4294967295) ⊎ (4294967295 ≤ t) → t + 1 < 4294967296
          go (inl l) = omega arith
          go (inr l) = absurd (e (omega arith))

  pub forward-of-back : forward_of b ≡ f
  unfolding forward_of
  forward-of-back =
      let s = (sizes-back f new-few new-long).2 in
      let m = new-long in
      ap (λ (n : ℕ). take 6 b ++ (each (new_statement b) (below n) ++ each (new_period b) (below n))) s
      ∙ ap (λ (h : List ℕ). h ++ (each (new_statement b) (below (N f)) ++ each (new_period b) (below (N f)))) (head-back f new-few new-long)
      ∙ ap₂ (λ (x y : List ℕ). take 6 f ++ (x ++ y))
      (each_same (below (N f)) (λ i h. statement-back-kept i (below_out (N f) h)) ∙ cut-blocks f 6 12 (N f))
      (each_same (below (N f)) (λ i h. period-back-kept i (below_out (N f) h)) ∙ cut-blocks f (6 + 12 * N f) 8 (N f))
      ∙ whole f (12 * N f) (8 * N f) (omega arith)

  pub back-accepted : OldPasses b
  back-accepted =
      let s = (sizes-back f new-few new-long).2 in
      let n = length_back f new-few new-long in
      let k = new-few in
      sym (same-reading b (omega arith) (n ∙ ap old_length (sym s)) (small-back f new-few new-long small) 0)
      ∙ ap (λ (x : List ℕ). first (reading x) 0) forward-of-back ∙ accepted-read 0 f a

  pub back-credentials : old_credentials b ≡ credentials f
  back-credentials = forward-credentials b back-accepted (small-back f new-few new-long small) ∙ ap credentials forward-of-back

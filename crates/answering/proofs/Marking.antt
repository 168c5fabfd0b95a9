-- Marking backward: at the start entry x is marked, and after the turn of entry i so is all that the marked ones from i on cite.
use mathlib.Core.Path.{◌≡◌, refl, sym, ap, ◌∙◌, subst, subst⁻¹}
use mathlib.Core.Bool.{Bool, true, false}
use mathlib.Core.Logic.{◌⊎◌, inl, inr}
use mathlib.Core.List.{List, [], ◌∷◌}
use Prim.Native.Nat.{ℕ, zero, suc, ◌+◌, ◌-◌, ◌≤◌, ◌<◌}
use native.Mathlib.Numerals.{add-one}
use native.Mathlib.Omega.{arith}
use borrow.Author.Tests.{lt-ltb, le-ltb, ltb-true, ltb-false}
use lib.Dec.{ltb}
use lib.ListN.{length, get_or, set, drop, replicate, length-set, length-replicate}
use lib.Seq.{get_or-set_same, get_or-set_other}
use Rattle.meaning.specs.Lists.{if}
use Rattle.meaning.proofs.ListLaws.{zeros-at}
use Rattle.store.proofs.Chains.{equal_or_not}
use Rattle.store.specs.Notes.{word}
use Rattle.answering.specs.Answering.{Citing}
use Rattle.answering.specs.Marks.{Cites, Rests, itself, by_cited, marked_by, spread_by, Marked}

rests-cited : {notes : List ℕ} {i j f : ℕ} → Rests notes i j → Cites notes j f → Rests notes i f
rests-cited itself c = by_cited c itself
rests-cited (by_cited d r) c = by_cited d (rests-cited r c)

-- ---- the mark of a cited entry

module _ (marks : List ℕ) where
  mark_set : (f : ℕ) → marked_by (suc f) marks ≡ set marks f 1
  mark_set f = let e : suc f - 1 ≡ f = omega arith in rw (lt-ltb 0 (suc f) (omega arith), e) refl

  mark-length : (w : ℕ) → length (marked_by w marks) ≡ length marks
  mark-length zero = refl
  mark-length (suc f) = ap length (mark_set f) ∙ length-set marks f 1

  mark-new : (w f : ℕ) → w ≤ length marks → w ≡ suc f → 0 < get_or (marked_by w marks) f 0
  mark-new w f h e = rw (e, mark_set f, get_or-set_same marks f 1 0 (omega arith)) (omega arith)

  mark-grows : (w j : ℕ) → w ≤ length marks → 0 < get_or marks j 0 → 0 < get_or (marked_by w marks) j 0
  mark-grows zero j h m = m
  mark-grows (suc f) j h m = go (equal_or_not j f)
    where
      go : (j ≡ f) ⊎ (j ≡ f → ⊥) → 0 < get_or (marked_by (suc f) marks) j 0
      go (inl e) = mark-new (suc f) j h (ap suc (sym e))
      go (inr ne) = rw (mark_set f, get_or-set_other marks f j 1 0 ne) m

  mark-old : (w j : ℕ) → 0 < get_or (marked_by w marks) j 0 → (0 < get_or marks j 0) ⊎ (w ≡ suc j)
  mark-old zero j m = inl m
  mark-old (suc f) j m = go (equal_or_not j f)
    where
      go : (j ≡ f) ⊎ (j ≡ f → ⊥) → (0 < get_or marks j 0) ⊎ (suc f ≡ suc j)
      go (inl e) = inr (ap suc (sym e))
      go (inr ne) = inl (rw (mark_set f, get_or-set_other marks f j 1 0 ne) at m)

-- ---- the turn of entry i

module _ (notes : List ℕ) (x i : ℕ) (marks : List ℕ) (g : Marked notes x (suc i) marks) (small : i < 1024) (a : word notes i 1 ≤ i) (b : word notes i 2 ≤ i) where
  abbrev once : List ℕ
  once = marked_by (word notes i 1) marks

  abbrev twice : List ℕ
  twice = marked_by (word notes i 2) once

  once-length : length once ≡ length marks
  once-length = mark-length marks (word notes i 1)

  room : word notes i 2 ≤ length once
  room = omega (arith, once-length, g.room)

  grows : (j : ℕ) → 0 < get_or marks j 0 → 0 < get_or twice j 0
  grows j m = mark-grows once (word notes i 2) j room (mark-grows marks (word notes i 1) j (omega (arith, g.room)) m)

  cited-marked : (f : ℕ) → Cites notes i f → 0 < get_or twice f 0
  cited-marked f (inl e) = mark-grows once (word notes i 2) f room (mark-new marks (word notes i 1) f (omega (arith, g.room)) e)
  cited-marked f (inr e) = mark-new once (word notes i 2) f room e

  old : (j : ℕ) → 0 < get_or twice j 0 → (0 < get_or marks j 0) ⊎ Cites notes i j
  old j m = go (mark-old once (word notes i 2) j m)
    where
      first : (0 < get_or marks j 0) ⊎ (word notes i 1 ≡ suc j) → (0 < get_or marks j 0) ⊎ Cites notes i j
      first (inl m) = inl m
      first (inr e) = inr (inl e)

      go : (0 < get_or once j 0) ⊎ (word notes i 2 ≡ suc j) → (0 < get_or marks j 0) ⊎ Cites notes i j
      go (inl m) = first (mark-old marks (word notes i 1) j m)
      go (inr e) = inr (inr e)

  cites-below : (j : ℕ) → Cites notes i j → j < i
  cites-below j (inl e) = omega arith
  cites-below j (inr e) = omega arith

  kept-mark : (j : ℕ) → i ≤ j → (0 < get_or marks j 0) ⊎ Cites notes i j → 0 < get_or marks j 0
  kept-mark j h (inl m) = m
  kept-mark j h (inr c) = absurd (omega (arith, cites-below j c))

  taken : 0 < get_or marks i 0 → Marked notes x i twice
  taken here =
      record {
        room = mark-length once (word notes i 2) ∙ once-length ∙ g.room;
        start = grows x g.start;
        rests = λ j m. rests j (old j m);
        cited = λ j f h m c. cited j f h (kept-mark j h (old j m)) c (equal_or_not j i);
      }
    where
      rests : (j : ℕ) → (0 < get_or marks j 0) ⊎ Cites notes i j → Rests notes x j
      rests j (inl m) = g.rests j m
      rests j (inr c) = rests-cited (g.rests i here) c

      cited : (j f : ℕ) → i ≤ j → 0 < get_or marks j 0 → Cites notes j f → (j ≡ i) ⊎ (j ≡ i → ⊥) → 0 < get_or twice f 0
      cited j f h m c (inl e) = cited-marked f (subst (λ (y : ℕ). Cites notes y f) e c)
      cited j f h m c (inr ne) = grows f (g.cited j f (omega arith) m c)

  left : get_or marks i 0 ≤ 0 → Marked notes x i marks
  left none = record { room = g.room; start = g.start; rests = g.rests; cited = λ j f h m c. cited j f h m c (equal_or_not j i) }
    where
      cited : (j f : ℕ) → i ≤ j → 0 < get_or marks j 0 → Cites notes j f → (j ≡ i) ⊎ (j ≡ i → ⊥) → 0 < get_or marks f 0
      cited j f h m c (inl e) = absurd (omega (arith, ap (λ (y : ℕ). get_or marks y 0) e))
      cited j f h m c (inr ne) = g.cited j f (omega arith) m c

  pub spread-marked : Marked notes x i (spread_by notes i marks)
  unfolding spread_by
  spread-marked = go (ltb 0 (get_or marks i 0)) refl
    where
      go : (t : Bool) → ltb 0 (get_or marks i 0) ≡ t → Marked notes x i (if t twice marks)
      go true e = taken (ltb-true 0 (get_or marks i 0) e)
      go false e = left (ltb-false 0 (get_or marks i 0) e)

-- as the code has it: the turn before i; one word after the other
pub marked_turn : (notes : List ℕ) (x i : ℕ) (marks marks' : List ℕ) → Citing notes (suc x) → x < 1024 → 0 < i → i ≤ x + 1 → Marked notes x i marks → marks' ≡ spread_by notes (i - 1) marks → Marked notes x (i - 1) marks'
marked_turn notes x i marks marks' before small some h g e =
    let back : suc (i - 1) ≡ i = omega arith in
    let cites = before (i - 1) (omega arith) in
    subst⁻¹ (Marked notes x (i - 1)) e
    (spread-marked notes x (i - 1) marks (subst⁻¹ (λ (j : ℕ). Marked notes x j marks) back g) (omega arith) cites.0 cites.1)

pub marked_all : {notes : List ℕ} {x i : ℕ} {marks : List ℕ} → i ≤ 0 → Marked notes x i marks → Marked notes x 0 marks
marked_all {notes} {x} {i} {marks} h g = let e : i ≡ 0 = omega arith in subst (λ (j : ℕ). Marked notes x j marks) e g

-- ---- marks in a list whose place 0 is for words that cite nothing

pub shifted : (l : List ℕ) (j : ℕ) → get_or (drop 1 l) j 0 ≡ get_or l (suc j) 0
shifted [] j = refl
shifted (y ∷ l) j = refl

-- what stands at place 0 is no mark
pub shifted-first : (l : List ℕ) (v : ℕ) → drop 1 (set l 0 v) ≡ drop 1 l
shifted-first [] v = refl
shifted-first (y ∷ l) v = refl

pub shifted-length : (l : List ℕ) (n : ℕ) → length (drop 1 l) ≡ suc n → length l ≡ suc (suc n)
shifted-length [] n e = absurd (omega arith)
shifted-length (y ∷ l) n e = ap suc e

-- a mark at a word
pub shifted-mark : (l : List ℕ) (w : ℕ) → drop 1 (set l w 1) ≡ marked_by w (drop 1 l)
shifted-mark [] zero = refl
shifted-mark (y ∷ l) zero = refl
shifted-mark [] (suc f) = sym (mark_set [] f)
shifted-mark (y ∷ l) (suc f) = sym (mark_set l f)

pub spread-taken : (notes : List ℕ) (i : ℕ) (l l' l'' : List ℕ) (w v : ℕ) → (get_or l (i + 1) 0 ≡ 0 → ⊥) → w ≡ word notes i 1 → l' ≡ set l w 1 → v ≡ word notes i 2 → l'' ≡ set l' v 1 → drop 1 l'' ≡ spread_by notes i (drop 1 l)
unfolding spread_by
spread-taken notes i l l' l'' w v h a p b q =
    let e : get_or (drop 1 l) i 0 ≡ get_or l (i + 1) 0 = shifted l i ∙ ap (λ (j : ℕ). get_or l j 0) (sym (add-one i)) in
    let once : drop 1 l' ≡ marked_by (word notes i 1) (drop 1 l) = ap (drop 1) p ∙ shifted-mark l w ∙ ap (λ (x : ℕ). marked_by x (drop 1 l)) a in
    let twice : drop 1 l'' ≡ marked_by (word notes i 2) (drop 1 l') = ap (drop 1) q ∙ shifted-mark l' v ∙ ap (λ (x : ℕ). marked_by x (drop 1 l')) b in
    let t = lt-ltb 0 (get_or (drop 1 l) i 0) (omega arith) in
    twice ∙ ap (marked_by (word notes i 2)) once ∙ sym (ap (λ (c : Bool). if c (marked_by (word notes i 2) (marked_by (word notes i 1) (drop 1 l))) (drop 1 l)) t)

pub spread-left : (notes : List ℕ) (i : ℕ) (l : List ℕ) → get_or l (i + 1) 0 ≡ 0 → drop 1 l ≡ spread_by notes i (drop 1 l)
unfolding spread_by
spread-left notes i l h =
    let e : get_or (drop 1 l) i 0 ≡ get_or l (i + 1) 0 = shifted l i ∙ ap (λ (j : ℕ). get_or l j 0) (sym (add-one i)) in
    let t = le-ltb 0 (get_or (drop 1 l) i 0) (omega arith) in
    sym (ap (λ (c : Bool). if c (marked_by (word notes i 2) (marked_by (word notes i 1) (drop 1 l))) (drop 1 l)) t)

-- ---- at the start only entry x is marked

-- for a list of any length, so that none is written out
first-mark : (n : ℕ) (notes : List ℕ) (x : ℕ) → n ≡ 1024 → x < n → Marked notes x (suc x) (set (replicate n 0) x 1)
first-mark n notes x e h =
    record {
      room = length-set (replicate n 0) x 1 ∙ length-replicate {A = ℕ} n 0 ∙ e;
      start = rw (get_or-set_same {A = ℕ} (replicate n 0) x 1 0 (omega (arith, length-replicate {A = ℕ} n 0))) (omega arith);
      rests = λ j m. subst (Rests notes x) (sym (sole j m)) itself;
      cited = λ j f l m c. absurd (omega (arith, sole j m));
    }
  where
    sole : (j : ℕ) → 0 < get_or (set (replicate n 0) x 1) j 0 → j ≡ x
    sole j m = go (equal_or_not j x)
      where
        go : (j ≡ x) ⊎ (j ≡ x → ⊥) → j ≡ x
        go (inl e) = e
        go (inr ne) = absurd (let z : 0 < 0 = subst (λ (y : ℕ). 0 < y) (get_or-set_other {A = ℕ} (replicate n 0) x j 1 0 ne ∙ zeros-at n j) m in omega arith)

pub one-marked : (n : ℕ) (notes : List ℕ) (x : ℕ) → n ≡ 1024 → x < n → Marked notes x (x + 1) (drop 1 (set (replicate (suc n) 0) (x + 1) 1))
one-marked n notes x e h =
    subst⁻¹ (λ (w : ℕ). Marked notes x w (drop 1 (set (replicate (suc n) 0) w 1))) (add-one x)
    (subst⁻¹ (Marked notes x (suc x)) (shifted-mark (replicate (suc n) 0) (suc x) ∙ mark_set (replicate n 0) x) (first-mark n notes x e h))

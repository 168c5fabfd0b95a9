-- Keeping the marked entries as steps, in the places of the entries: what these hold before the turn of entry i, and after it.
use mathlib.Core.Path.{◌≡◌, refl, sym, ap, ◌∙◌, subst⁻¹}
use mathlib.Core.Logic.{◌⊎◌, inl, inr}
use mathlib.Core.List.{List, [], ◌∷◌, ◌++◌, map}
use Prim.Native.Nat.{ℕ, zero, suc, ◌+◌, ◌-◌, ◌*◌, ◌≤◌, ◌<◌}
use native.Mathlib.Numerals.{add-one}
use native.Mathlib.Nat.{le_refl}
use native.Mathlib.Omega.{arith}
use borrow.Author.Tests.{lt-ltb}
use lib.ListN.{length, get_or, set, drop, length-set}
use lib.Seq.{get_or-set_same, get_or-set_other}
use Rattle.meaning.specs.Lists.{below}
use Rattle.meaning.specs.Proofs.{Step}
use Rattle.store.proofs.Chains.{last-or-below}
use Rattle.store.specs.Entries.{role_in, set_in}
use Rattle.store.specs.Notes.{word, level_of, noted, SameWords}
use Rattle.store.proofs.Notes.{noted-old, noted-at, noted-first, noted-second, noted-length}
use Rattle.derivation.specs.HandedOut.{HandedOut}
use Rattle.derivation.proofs.Positions.{map-below-next}
use Rattle.answering.specs.Answering.{Citing, Keeps}
use Rattle.answering.specs.Marks.{Marked}
use Rattle.answering.specs.Steps.{kept, number, cited_step, step_from, steps_below, step_at, steps_in}
use Rattle.answering.proofs.Numbering.{kept_more, kept_same, number_more, number_fits}
use Rattle.answering.proofs.Marking.{shifted}
use Rattle.answering.proofs.Handing.{handed_out}

-- ---- the steps of marked entries, and of places

module _ (keys notes marks : List ℕ) where
  steps-map-more : (l : List ℕ) (i : ℕ) → map (step_from keys notes marks) (l ++ i ∷ []) ≡ map (step_from keys notes marks) l ++ step_from keys notes marks i ∷ []
  steps-map-more [] i = refl
  steps-map-more (j ∷ l) i = ap (λ (r : List Step). step_from keys notes marks j ∷ r) (steps-map-more l i)

  steps-more : (i : ℕ) → 0 < get_or marks i 0 → steps_below keys notes marks (suc i) ≡ steps_below keys notes marks i ++ step_from keys notes marks i ∷ []
  unfolding steps_below
  steps-more i h = ap (map (step_from keys notes marks)) (kept_more marks i h) ∙ steps-map-more (kept marks i) i

  steps-same : (i : ℕ) → get_or marks i 0 ≤ 0 → steps_below keys notes marks (suc i) ≡ steps_below keys notes marks i
  unfolding steps_below
  steps-same i h = ap (map (step_from keys notes marks)) (kept_same marks i h)

map_same : {A : Type 0} (f g : ℕ → A) (n : ℕ) → ((i : ℕ) → i < n → f i ≡ g i) → map f (below n) ≡ map g (below n)
map_same f g zero h = refl
map_same {A} f g (suc n) h =
    map-below-next f n ∙ (λ u. map_same f g n (λ i l. h i (omega arith)) u ++ h n (omega arith) u ∷ []) ∙ sym (map-below-next g n)

-- one place more
places-more : (keys notes keys' notes' : List ℕ) (k : ℕ) (s : Step) → ((i : ℕ) → i < k → step_at keys' notes' i ≡ step_at keys notes i) → step_at keys' notes' k ≡ s → steps_in keys' notes' (suc k) ≡ steps_in keys notes k ++ s ∷ []
unfolding steps_in
places-more keys notes keys' notes' k s same e =
    map-below-next (step_at keys' notes') k ∙ (λ u. map_same (step_at keys' notes') (step_at keys notes) k same u ++ e u ∷ [])

-- ---- before the turn of entry i

-- The first k places are the steps of the marked entries below i, which have their numbers; from i on there are still the entries and the marks.
pub record Progress (keys₀ notes₀ marks : List ℕ) (i : ℕ) (numbers keys notes : List ℕ) (k : ℕ) : Type 0 where
  pub room : (length numbers ≡ 1025) × (length keys ≡ 1024) × (length notes ≡ 3072)
  pub none : get_or numbers 0 0 ≡ 0
  pub size : k ≡ number marks i
  pub steps : steps_in keys notes k ≡ steps_below keys₀ notes₀ marks i
  pub keys_left : (j : ℕ) → i ≤ j → get_or keys j 0 ≡ get_or keys₀ j 0
  pub notes_left : (j c : ℕ) → i ≤ j → j < 1024 → c < 3 → word notes j c ≡ word notes₀ j c
  pub numbered : (j : ℕ) → j < i → 0 < get_or marks j 0 → get_or numbers (suc j) 0 ≡ number marks j
  pub onward : (j : ℕ) → i ≤ j → get_or numbers (suc j) 0 ≡ get_or marks j 0

pub progress-none : (keys notes numbers : List ℕ) → length numbers ≡ 1025 → length keys ≡ 1024 → length notes ≡ 3072 → get_or numbers 0 0 ≡ 0 → Progress keys notes (drop 1 numbers) 0 numbers keys notes 0
unfolding steps_in steps_below
progress-none keys notes numbers r s t z =
    record {
      room = (r, s, t);
      none = z;
      size = refl;
      steps = refl;
      keys_left = λ j l. refl;
      notes_left = λ j c l m o. refl;
      numbered = λ j l. absurd (omega arith);
      onward = λ j l. sym (shifted numbers j);
    }

module _ {keys₀ notes₀ marks : List ℕ} {i : ℕ} {numbers keys notes : List ℕ} {k : ℕ} (g : Progress keys₀ notes₀ marks i numbers keys notes k) where
  pub place-low : k ≤ i
  place-low = omega (arith, g.size, number_fits marks i)

  cited-number : (w : ℕ) → w ≤ i → ((f : ℕ) → w ≡ suc f → 0 < get_or marks f 0) → get_or numbers w 0 ≡ cited_step marks w
  cited-number zero h c = g.none
  cited-number (suc f) h c =
      let e : suc f - 1 ≡ f = omega arith in
      rw (lt-ltb 0 (suc f) (omega arith), e) (g.numbered f (omega arith) (c f refl))

  module _ (x : ℕ) (before : Citing notes₀ (suc x)) (m : Marked notes₀ x 0 marks) (small : x < 1024) (h : i ≤ x) where
    -- what the words of entry i cite has places
    pub words-low : (word notes i 1 ≤ 1024) × (word notes i 2 ≤ 1024)
    words-low = let w = before i (omega arith) in (omega (arith, w.0, g.notes_left i 1 (le_refl i) (omega arith) (omega arith)), omega (arith, w.1, g.notes_left i 2 (le_refl i) (omega arith) (omega arith)))

    -- the turn of entry i, which is marked: it becomes step k
    module _ (ne : get_or numbers (i + 1) 0 ≡ 0 → ⊥) {keys' notes' : List ℕ} (e : keys' ≡ set keys k (get_or keys i 0))
        (f : notes' ≡ noted notes k (word notes i 0) (get_or numbers (word notes i 1) 0) (get_or numbers (word notes i 2) 0)) where
      here : 0 < get_or marks i 0
      here = omega (arith, g.onward i (le_refl i), ap (λ (j : ℕ). get_or numbers j 0) (add-one i))

      w : (word notes₀ i 1 ≤ i) × (word notes₀ i 2 ≤ i)
      w = before i (omega arith)

      same : (c : ℕ) → c < 3 → word notes i c ≡ word notes₀ i c
      same c l = g.notes_left i c (le_refl i) (omega arith) l

      first-is : get_or numbers (word notes i 1) 0 ≡ cited_step marks (word notes₀ i 1)
      first-is = ap (λ (y : ℕ). get_or numbers y 0) (same 1 (omega arith)) ∙ cited-number (word notes₀ i 1) w.0 (λ f q. m.cited i f (omega arith) here (inl q))

      second_is : get_or numbers (word notes i 2) 0 ≡ cited_step marks (word notes₀ i 2)
      second_is = ap (λ (y : ℕ). get_or numbers y 0) (same 2 (omega arith)) ∙ cited-number (word notes₀ i 2) w.1 (λ f q. m.cited i f (omega arith) here (inr q))

      abbrev new : List ℕ
      new = noted notes k (word notes i 0) (get_or numbers (word notes i 1) 0) (get_or numbers (word notes i 2) 0)

      low : k < 1024
      low = omega (arith, place-low)

      new-step : step_at (set keys k (get_or keys i 0)) new k ≡ step_from keys₀ notes₀ marks i
      new-step u = record {
        credential = (noted-at notes k (word notes i 0) (get_or numbers (word notes i 1) 0) (get_or numbers (word notes i 2) 0) g.room.2 low ∙ same 0 (omega arith)) u;
        first = (noted-first notes k (word notes i 0) (get_or numbers (word notes i 1) 0) (get_or numbers (word notes i 2) 0) g.room.2 low ∙ first-is) u;
        second = (noted-second notes k (word notes i 0) (get_or numbers (word notes i 1) 0) (get_or numbers (word notes i 2) 0) g.room.2 low ∙ second_is) u;
        set = set_in ((get_or-set_same keys k (get_or keys i 0) 0 (omega (arith, g.room.1, low)) ∙ g.keys_left i (le_refl i)) u);
      }

      old-words : SameWords notes k new
      old-words = noted-old notes k (word notes i 0) (get_or numbers (word notes i 1) 0) (get_or numbers (word notes i 2) 0) g.room.2 low

      old-step : (j : ℕ) → j < k → step_at (set keys k (get_or keys i 0)) new j ≡ step_at keys notes j
      old-step j l u = record {
        credential = old-words j 0 l (omega arith) u;
        first = old-words j 1 l (omega arith) u;
        second = old-words j 2 l (omega arith) u;
        set = set_in (get_or-set_other keys k j (get_or keys i 0) 0 (λ z. omega arith) u);
      }

      -- entries after i are left
      later-words : (j c : ℕ) → i < j → j < 1024 → c < 3 → word new j c ≡ word notes j c
      later-words j c l o q =
          get_or-set_other (set (set notes k (word notes i 0)) (1024 + k) (get_or numbers (word notes i 1) 0)) (2048 + k) (1024 * c + j) (get_or numbers (word notes i 2) 0) 0 (λ z. omega (arith, place-low))
          ∙ get_or-set_other (set notes k (word notes i 0)) (1024 + k) (1024 * c + j) (get_or numbers (word notes i 1) 0) 0 (λ z. omega (arith, place-low))
          ∙ get_or-set_other notes k (1024 * c + j) (word notes i 0) 0 (λ z. omega (arith, place-low))

      pub progress-taken : Progress keys₀ notes₀ marks (i + 1) (set numbers (i + 1) k) keys' notes' (k + 1)
      progress-taken =
          subst⁻¹ (λ (l : List ℕ). Progress keys₀ notes₀ marks (i + 1) (set numbers (i + 1) k) l notes' (k + 1)) e
          (subst⁻¹ (λ (l : List ℕ). Progress keys₀ notes₀ marks (i + 1) (set numbers (i + 1) k) (set keys k (get_or keys i 0)) l (k + 1)) f
          (subst⁻¹ (λ (p : ℕ). Progress keys₀ notes₀ marks p (set numbers p k) (set keys k (get_or keys i 0)) new (k + 1)) (add-one i)
          (subst⁻¹ (λ (p : ℕ). Progress keys₀ notes₀ marks (suc i) (set numbers (suc i) k) (set keys k (get_or keys i 0)) new p) (add-one k)
          record {
            room = (length-set numbers (suc i) k ∙ g.room.0, length-set keys k (get_or keys i 0) ∙ g.room.1, noted-length notes k (word notes i 0) (get_or numbers (word notes i 1) 0) (get_or numbers (word notes i 2) 0) g.room.2 low);
            none = get_or-set_other numbers (suc i) 0 k 0 (λ z. omega arith) ∙ g.none;
            size = ap suc g.size ∙ sym (number_more marks i here);
            steps = places-more keys notes (set keys k (get_or keys i 0)) new k (step_from keys₀ notes₀ marks i) old-step new-step ∙ ap (λ (l : List Step). l ++ step_from keys₀ notes₀ marks i ∷ []) g.steps ∙ sym (steps-more keys₀ notes₀ marks i here);
            keys_left = λ j l. get_or-set_other keys k j (get_or keys i 0) 0 (λ z. omega (arith, place-low)) ∙ g.keys_left j (omega arith);
            notes_left = λ j c l o q. later-words j c l o q ∙ g.notes_left j c (omega arith) o q;
            numbered = λ j l u. at j u (last-or-below l);
            onward = λ j l. get_or-set_other numbers (suc i) (suc j) k 0 (λ z. omega arith) ∙ g.onward j (omega arith);
          })))
        where
          at : (j : ℕ) → 0 < get_or marks j 0 → (j ≡ i) ⊎ (j < i) → get_or (set numbers (suc i) k) (suc j) 0 ≡ number marks j
          at j u (inl z) =
              ap (λ (n : ℕ). get_or (set numbers (suc i) k) (suc n) 0) z ∙ get_or-set_same numbers (suc i) k 0 (omega (arith, g.room.0)) ∙ g.size ∙ ap (number marks) (sym z)
          at j u (inr l) = get_or-set_other numbers (suc i) (suc j) k 0 (λ z. omega arith) ∙ g.numbered j l u

  -- and of one that is not: all is as before
  pub progress-left : get_or numbers (i + 1) 0 ≡ 0 → Progress keys₀ notes₀ marks (i + 1) numbers keys notes k
  progress-left idle =
      subst⁻¹ (λ (n : ℕ). Progress keys₀ notes₀ marks n numbers keys notes k) (add-one i)
      (record {
        room = g.room;
        none = g.none;
        size = g.size ∙ sym (ap length (kept_same marks i not-marked));
        steps = g.steps ∙ sym (steps-same keys₀ notes₀ marks i not-marked);
        keys_left = λ j l. g.keys_left j (omega arith);
        notes_left = λ j c l o q. g.notes_left j c (omega arith) o q;
        numbered = λ j l u. at j u (last-or-below l);
        onward = λ j l. g.onward j (omega arith);
      })
    where
      not-marked : get_or marks i 0 ≤ 0
      not-marked = omega (arith, g.onward i (le_refl i), ap (λ (j : ℕ). get_or numbers j 0) (add-one i))

      at : (j : ℕ) → 0 < get_or marks j 0 → (j ≡ i) ⊎ (j < i) → get_or numbers (suc j) 0 ≡ number marks j
      at j u (inl e) = absurd (omega (arith, not-marked, ap (λ (n : ℕ). get_or marks n 0) e))
      at j u (inr l) = g.numbered j l u

-- after the turn of entry x
pub all-kept : {keys₀ notes₀ marks : List ℕ} {i x : ℕ} {numbers keys notes : List ℕ} {k : ℕ} → x < i → i ≤ suc x → Citing notes₀ (suc x) → Marked notes₀ x 0 marks → Progress keys₀ notes₀ marks i numbers keys notes k → Keeps keys₀ notes₀ x keys notes k
all-kept {keys₀} {notes₀} {marks} {i} {x} {keys = keys} {notes = notes} {k = k} h l cites m g =
    let e : i ≡ suc x = omega arith in
    record {
      few = omega (arith, place-low g);
      handed = λ cs n D. subst⁻¹ (HandedOut cs n (role_in (get_or keys₀ x 0)) (set_in (get_or keys₀ x 0)) (level_of notes₀ x)) (g.steps ∙ ap (steps_below keys₀ notes₀ marks) e) (handed_out cs n keys₀ notes₀ (suc x) x marks D m (le_refl (suc x)) cites);
    }

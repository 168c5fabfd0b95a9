-- Over any derivation of the entries, the steps of the marked ones are a proof in the form that querying hands out.
use mathlib.Core.Path.{◌≡◌, refl, sym, ap, ap₂, ◌∙◌, subst, subst⁻¹}
use mathlib.Core.Bool.{Bool, true}
use mathlib.Core.Logic.{inl, inr}
use mathlib.Core.List.{List, [], map}
use Prim.Native.Nat.{ℕ, zero, suc, ◌-◌, ◌≤◌, ◌<◌, max}
use native.Mathlib.Omega.{arith}
use borrow.Author.Tests.{lt-ltb}
use lib.Dec.{T, ltb}
use lib.ListN.{length, get_or, length-map}
use lib.Seq.{ext_get_or}
use Rattle.meaning.specs.Lists.{if, below}
use Rattle.meaning.specs.Credentials.{Body, Credential, credential_at}
use Rattle.meaning.specs.Members.{Membership}
use Rattle.meaning.specs.Proofs.{Step, Shown, nothing, cites_first, cites_second, follows, shown_by, Proof, step_at, body_at, RestsOn, itself as step-itself, by_first, by_second}
use Rattle.store.specs.Entries.{key_of, role_in, set_in}
use Rattle.store.proofs.Keys.{key-of-parts}
use Rattle.file.proofs.Credentials.{get_d-map-lt}
use Rattle.derivation.specs.HandedOut.{membership_at, HandedOut}
use Rattle.derivation.specs.Derivation.{Citable, first_by, second_by, StepHolds, step_of, shown_of, Derived, Derivation}
use Rattle.store.specs.Notes.{word, level_of}
use Rattle.derivation.proofs.Positions.{map-below-length, map-below-at, steps-keep, proof-to}
use Rattle.answering.specs.Answering.{Citing}
use Rattle.answering.specs.Marks.{Cites, Rests, itself, by_cited, Marked}
use Rattle.answering.specs.Steps.{kept, number, cited_step, step_from, steps_below}
use Rattle.answering.proofs.Numbering.{number_more, number-below, entry-at-number, At, at_place}

steps-length : (keys notes marks : List ℕ) (i : ℕ) → length (steps_below keys notes marks i) ≡ number marks i
unfolding steps_below
steps-length keys notes marks i = length-map (kept marks i) (step_from keys notes marks)

map-by-place : (f : ℕ → Step) (d : Step) (l : List ℕ) → map f l ≡ map (λ (p : ℕ). f (get_or l p 0)) (below (length l))
map-by-place f d l =
    let g : ℕ → Step = λ p. f (get_or l p 0) in
    let n = length-map l f in
    ext_get_or d (map f l) (map g (below (length l))) (n ∙ sym (map-below-length g (length l)))
    (λ i h. get_d-map-lt f l i 0 d (omega arith) ∙ sym (map-below-at g (length l) i d (omega arith)))

module _ (cs : List Credential) (m : ℕ) (keys notes : List ℕ) (n x : ℕ) (marks : List ℕ) (D : Derivation cs m keys notes n) (g : Marked notes x 0 marks) (small : x < n) (cites : Citing notes n) where
  -- the entry of a step; the step and what it shows
  abbrev entry : ℕ → ℕ
  entry p = get_or (kept marks (suc x)) p 0

  abbrev step : ℕ → Step
  step p = step_from keys notes marks (entry p)

  abbrev shown : ℕ → Shown
  shown p = shown_of keys notes (entry p)

  abbrev count : ℕ
  count = number marks (suc x)

  abbrev steps : List Step
  steps = steps_below keys notes marks (suc x)

  -- a word of step p's entry cites the same in both numberings, where `b` says whether it cites
  record Same (b : Bool) (p w : ℕ) : Type 0 where
    citable : Citable b p (cited_step marks w)
    shows : if b (shown (cited_step marks w)) nothing ≡ if b (shown_of keys notes (w - 1)) nothing

  cited-same : (i w : ℕ) → w ≤ i → i ≤ x → ((f : ℕ) → w ≡ suc f → 0 < get_or marks f 0) → Same (ltb 0 w) (number marks i) w
  cited-same i zero h l c = record { citable = refl; shows = refl }
  cited-same i (suc f) h l c =
      let e : suc f - 1 ≡ f = omega arith in
      let t : ltb 0 (suc f) ≡ true = lt-ltb 0 (suc f) (omega arith) in
      let here = c f refl in
      record { citable = rw (t, e) (number-below marks f here i (omega arith)); shows = rw (t, e) (ap (shown_of keys notes) (entry-at-number marks f here (suc x) (omega arith))) }

  module _ (p : ℕ) (l : p < count) where
    at : At marks (suc x) p (entry p)
    at = at_place marks (suc x) p l

    derived : Derived cs m keys notes (entry p)
    derived = D.derived (entry p) (omega (arith, at.below))

    abbrev body : Body
    body = (credential_at cs (word notes (entry p) 0)).statement.body

    word_same : (b : Bool) (w : ℕ) → b ≡ ltb 0 w → w ≤ entry p → ((f : ℕ) → w ≡ suc f → Cites notes (entry p) f) → Same b p w
    word_same b w e h c =
        subst⁻¹ (λ (b : Bool). Same b p w) e
        (subst (λ (q : ℕ). Same (ltb 0 w) q w) at.numbered (cited-same (entry p) w h (omega (arith, at.below)) (λ f q. g.cited (entry p) f (omega arith) at.marked (c f q))))

    holds_at : StepHolds cs m step shown p
    holds_at =
        let h = derived.holds in
        let cited = cites (entry p) (omega (arith, at.below)) in
        let a : Same (cites_first body) p (word notes (entry p) 1) = word_same (cites_first body) (word notes (entry p) 1) derived.firsts cited.0 (λ f e. inl e) in
        let b : Same (cites_second body) p (word notes (entry p) 2) = word_same (cites_second body) (word notes (entry p) 2) derived.seconds cited.1 (λ f e. inr e) in
        record {
          known = h.known;
          valid = h.valid;
          first = a.citable;
          second = b.citable;
          follows =
              subst⁻¹ (λ (s : Shown). T (follows body s (second_by cs m step shown p) (step p).set)) a.shows
              (subst⁻¹ (λ (s : Shown). T (follows body (first_by cs m (step_of keys notes) (shown_of keys notes) (entry p)) s (step p).set)) b.shows h.follows);
          shows =
              h.shows
              ∙ sym (λ i. record { role = (credential_at cs (word notes (entry p) 0)).statement.head; set = (step p).set; level = suc (max (a.shows i).level (b.shows i).level) });
        }

  -- ---- the steps by position

  steps-are : steps ≡ map step (below count)
  unfolding steps_below
  steps-are = map-by-place (step_from keys notes marks) (record { credential = 0; first = 0; second = 0; set = 0 }) (kept marks (suc x))

  shown-are : shown_by cs [] steps ≡ map shown (below count)
  shown-are = ap (shown_by cs []) steps-are ∙ (steps-keep cs m step shown count holds_at).1

  size : length steps ≡ count
  size = steps-length keys notes marks (suc x)

  last-number : count ≡ suc (number marks x)
  last-number = number_more marks x g.start

  last_entry : entry (number marks x) ≡ x
  last_entry = entry-at-number marks x g.start (suc x) (omega arith)

  proof : Proof cs m (role_in (get_or keys x 0)) (set_in (get_or keys x 0)) (level_of notes x) steps
  proof =
      subst⁻¹ (Proof cs m (role_in (get_or keys x 0)) (set_in (get_or keys x 0)) (level_of notes x)) (steps-are ∙ ap (λ (k : ℕ). map step (below k)) last-number)
      (subst (λ (i : ℕ). Proof cs m (role_in (get_or keys i 0)) (set_in (get_or keys i 0)) (level_of notes i) (map step (below (suc (number marks x))))) last_entry
      (proof-to cs m step shown (number marks x) (λ i l. holds_at i (subst⁻¹ (λ (k : ℕ). i < k) last-number l))))

  once : (i j : ℕ) → i < length steps → j < length steps → membership_at cs steps i ≡ membership_at cs steps j → i ≡ j
  once i j a b e =
      let k : i < count = subst (λ (s : ℕ). i < s) size a in
      let l : j < count = subst (λ (s : ℕ). j < s) size b in
      let p : role_in (get_or keys (entry i) 0) ≡ role_in (get_or keys (entry j) 0) = sym (ap (λ (s : Shown). s.role) (at_position i k)) ∙ ap (λ (y : Membership). y.role) e ∙ ap (λ (s : Shown). s.role) (at_position j l) in
      let q : set_in (get_or keys (entry i) 0) ≡ set_in (get_or keys (entry j) 0) = sym (ap (λ (s : Shown). s.set) (at_position i k)) ∙ ap (λ (y : Membership). y.set) e ∙ ap (λ (s : Shown). s.set) (at_position j l) in
      let same = D.distinct (entry i) (entry j) (omega (arith, (at i k).below)) (omega (arith, (at j l).below)) (sym (key-of-parts (get_or keys (entry i) 0)) ∙ ap₂ key_of p q ∙ key-of-parts (get_or keys (entry j) 0)) in
      sym (at i k).numbered ∙ ap (number marks) same ∙ (at j l).numbered
    where
      at_position : (i : ℕ) → i < count → get_or (shown_by cs [] steps) i nothing ≡ shown i
      at_position i l = ap (λ (s : List Shown). get_or s i nothing) shown-are ∙ map-below-at shown count i nothing l

  -- ---- what the last step rests on

  module _ (i : ℕ) (l : i ≤ x) (here : 0 < get_or marks i 0) where
    inside : number marks i < length steps
    inside = omega (arith, size, number-below marks i here (suc x) (omega arith))

    step_is : step_at steps (number marks i) ≡ step_from keys notes marks i
    unfolding steps_below
    step_is =
        get_d-map-lt (step_from keys notes marks) (kept marks (suc x)) (number marks i) 0 _ (number-below marks i here (suc x) (omega arith))
        ∙ ap (step_from keys notes marks) (entry-at-number marks i here (suc x) (omega arith))

    body_is : body_at cs steps (number marks i) ≡ (credential_at cs (word notes i 0)).statement.body
    body_is = ap (λ (s : Step). (credential_at cs s.credential).statement.body) step_is

  cited-number : (w f : ℕ) → w ≡ suc f → (ltb 0 w ≡ true) × (cited_step marks w ≡ number marks f)
  cited-number w f e = let d : w - 1 ≡ f = omega arith in let t = lt-ltb 0 w (omega arith) in (t, rw (t, d) refl)

  rests-on : {i j : ℕ} → Rests notes i j → i ≤ x → 0 < get_or marks i 0 → RestsOn cs steps (number marks i) (number marks j)
  rests-on {i} itself l here = step-itself (inside i l here) refl
  rests-on {i} {j} (by_cited {f = f} (inl e) r) l here =
      let c = cited-number (word notes i 1) f e in
      by_first (inside i l here) (subst⁻¹ T (ap cites_first (body_is i l here) ∙ (D.derived i (omega arith)).firsts ∙ c.0) tt)
      (subst⁻¹ (λ (k : ℕ). RestsOn cs steps k (number marks j)) (ap (λ (s : Step). s.first) (step_is i l here) ∙ c.1)
      (rests-on r (omega (arith, cites i (omega arith))) (g.cited i f (omega arith) here (inl e))))
  rests-on {i} {j} (by_cited {f = f} (inr e) r) l here =
      let c = cited-number (word notes i 2) f e in
      by_second (inside i l here) (subst⁻¹ T (ap cites_second (body_is i l here) ∙ (D.derived i (omega arith)).seconds ∙ c.0) tt)
      (subst⁻¹ (λ (k : ℕ). RestsOn cs steps k (number marks j)) (ap (λ (s : Step). s.second) (step_is i l here) ∙ c.1)
      (rests-on r (omega (arith, cites i (omega arith))) (g.cited i f (omega arith) here (inr e))))

  needed : (j : ℕ) → j < length steps → RestsOn cs steps (length steps - 1) j
  needed j l =
      let k : j < count = subst (λ (s : ℕ). j < s) size l in
      let e : length steps - 1 ≡ number marks x = omega (arith, size, last-number) in
      subst⁻¹ (λ (k : ℕ). RestsOn cs steps k j) e
      (subst (RestsOn cs steps (number marks x)) (at j k).numbered (rests-on (g.rests (entry j) (at j k).marked) (omega arith) g.start))

  pub handed_out : HandedOut cs m (role_in (get_or keys x 0)) (set_in (get_or keys x 0)) (level_of notes x) steps
  handed_out = record { proof = proof; once = once; needed = needed }

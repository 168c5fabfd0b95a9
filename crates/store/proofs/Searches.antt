-- Searches for a key: where two of one key end, what a new entry changes, and what `find` makes of the place where it ends.
use mathlib.Core.Path.{◌≡◌, refl, sym, ap, ◌∙◌, subst, subst⁻¹}
use mathlib.Core.Logic.{◌⊎◌, inl, inr}
use mathlib.Core.List.{List}
use Prim.Native.Nat.{ℕ, zero, suc, ◌+◌, ◌-◌, ◌*◌, ◌/◌, ◌%◌, ◌≤◌, ◌<◌}
use native.Mathlib.Nat.{suc_inj}
use native.Mathlib.Omega.{arith}
use lib.ListN.{length, get_or, set}
use lib.Seq.{get_or-set_same, get_or-set_other}
use Rattle.store.specs.Entries.{Leads, here, next, Comes, Searchable, Leading, At, EntryOf, LookedUp}
use Rattle.store.proofs.Chains.{last-or-below, equal_or_not}

-- at most an entry of the key stands at the place
abbrev pub Stops : List ℕ → List ℕ → ℕ → ℕ → Type 0
Stops keys slots key q = (i : ℕ) → get_or slots q 0 ≡ suc i → get_or keys i 0 ≡ key

module _ (keys slots : List ℕ) (key : ℕ) where
  -- two searches of one key that stop, stop at the same
  pub meet : {p x q r : ℕ} → Leads keys slots key p x q → Leads keys slots key p x r → Stops keys slots key q → Stops keys slots key r → get_or slots q 0 ≡ get_or slots r 0
  meet here here s t = refl
  meet here (next i e ne h) s t = absurd (ne (s i e))
  meet (next i e ne h) here s t = absurd (ne (t i e))
  meet {x = x} {r = r} (next i e ne h) (next j f nf k) s t =
      meet h (subst (λ (j : ℕ). Leads keys slots key (1024 + 2 * j + x % 2) (x / 2) r) (suc_inj (sym f ∙ e)) k) s t

  -- the step from an entry as the code has it, which has read the slot's number w
  pub onward : (p x q w : ℕ) → w ≡ get_or slots p 0 → (w ≡ 0 → ⊥) → (get_or keys (w - 1) 0 ≡ key → ⊥) → Leads keys slots key (1022 + 2 * w + x % 2) (x / 2) q → Leads keys slots key p x q
  onward p x q w e nz ne h =
      let f : 1022 + 2 * w + x % 2 ≡ 1024 + 2 * (w - 1) + x % 2 = omega arith in
      next {p = p} (w - 1) (omega arith) ne (subst (λ (y : ℕ). Leads keys slots key y (x / 2) q) f h)

  -- a search keeps to the slots of entries
  pub below : (n : ℕ) {p x q : ℕ} → Searchable keys slots n → Leads keys slots key p x q → p < 1024 + 2 * n → q < 1024 + 2 * n
  below n s here b = b
  below n {x = x} s (next i e ne h) b = below n s h (omega (arith, s.within _ i e))

  -- what leaves the slots in use and their keys as they are leaves a search as it is
  pub carry : (keys' slots' : List ℕ) {p x q : ℕ} → ((p i : ℕ) → get_or slots p 0 ≡ suc i → (get_or slots' p 0 ≡ suc i) × (get_or keys' i 0 ≡ get_or keys i 0)) → Leads keys slots key p x q → Leads keys' slots' key p x q
  carry keys' slots' k here = here
  carry keys' slots' {p} k (next i e ne h) = next i (k p i e).0 (λ f. ne (sym (k p i e).1 ∙ f)) (carry keys' slots' k h)

module _ (keys slots : List ℕ) (n : ℕ) (s : Searchable keys slots n) where
  -- an entry of the key is what a search for it stops at
  pub stops_at : (key p i : ℕ) → Comes keys slots key p → Stops keys slots key p → i < n → get_or keys i 0 ≡ key → get_or slots p 0 ≡ suc i
  stops_at key p i h t l e =
      let r = s.reached i l in
      let g : Comes keys slots key r.0 = subst (λ (k : ℕ). Comes keys slots k r.0) e r.1 in
      meet keys slots key h g t (λ j f. let q : i ≡ j = suc_inj (sym r.2 ∙ f) in subst (λ (j : ℕ). get_or keys j 0 ≡ key) q e) ∙ r.2

  pub distinct : (i j : ℕ) → i < n → j < n → get_or keys i 0 ≡ get_or keys j 0 → i ≡ j
  distinct i j l m e =
      let r = s.reached i l in
      suc_inj
      (sym r.2
      ∙ stops_at (get_or keys i 0) r.0 j r.1 (λ k f. let q : i ≡ k = suc_inj (sym r.2 ∙ f) in ap (λ (x : ℕ). get_or keys x 0) (sym q)) m (sym e))

  pub leading : n ≤ 1024 → Leading slots
  leading few p i e = (let h = s.within p i e in omega arith, s.later p i e)

  -- where a search ends stands the entry with the key, or none has it
  pub entry_at : {key p : ℕ} → At keys slots key p → EntryOf keys n key (get_or slots p 0)
  entry_at {key} {p} a =
      record {
        absent = λ z i l f. let r = stops_at key p i a.comes a.stops l f in omega arith;
        present = λ i f. (s.within p i f, a.stops i f);
      }

-- a slot with the number w
module _ (keys slots : List ℕ) (o : Leading slots) (p w : ℕ) (e : w ≡ get_or slots p 0) where
  pub slot-low : w ≤ 1024
  slot-low = go w refl
    where
      go : (x : ℕ) → w ≡ x → w ≤ 1024
      go zero f = omega arith
      go (suc i) f = let h = (o p i (sym e ∙ f)).0 in omega arith

  pub slot-used : (w ≡ 0 → ⊥) → (w ≤ 1024) × (p < 1022 + 2 * w)
  slot-used nz =
      let f : get_or slots p 0 ≡ suc (w - 1) = omega arith in
      let h = o p (w - 1) f in
      (omega arith, omega arith)

  -- the slot where the search for a key ended
  pub looked_up : (key : ℕ) → At keys slots key p → LookedUp keys slots key w
  looked_up key a = record { within = slot-low; entry = λ n s. subst⁻¹ (EntryOf keys n key) e (entry_at keys slots n s a) }

  module _ (key : ℕ) (low : p < 3072) (h : Comes keys slots key p) where
    pub at-empty : w ≡ 0 → At keys slots key p
    at-empty z = record { comes = h; within = low; stops = λ i f. absurd (omega arith) }

    pub at_entry : get_or keys (w - 1) 0 ≡ key → At keys slots key p
    at_entry k = record { comes = h; within = low; stops = λ i f. let q : w - 1 ≡ i = omega arith in subst (λ (x : ℕ). get_or keys x 0 ≡ key) q k }

-- entry n is made, in the empty slot where the search for its key ended
module _ (keys slots : List ℕ) (n key p : ℕ) (s : Searchable keys slots n) (kroom : n < length keys) (proom : p < length slots) (a : At keys slots key p) (z : get_or slots p 0 ≡ 0) where
  new-slot : get_or (set slots p (n + 1)) p 0 ≡ suc n
  new-slot = let e = get_or-set_same slots p (n + 1) 0 proom in omega arith

  old-slot : (q i : ℕ) → get_or slots q 0 ≡ suc i → get_or (set slots p (n + 1)) q 0 ≡ suc i
  old-slot q i e = get_or-set_other slots p q (n + 1) 0 (λ f. let g = ap (λ (x : ℕ). get_or slots x 0) f in omega arith) ∙ e

  new-key : get_or (set keys n key) n 0 ≡ key
  new-key = get_or-set_same keys n key 0 kroom

  old-key : (i : ℕ) → i < n → get_or (set keys n key) i 0 ≡ get_or keys i 0
  old-key i l = get_or-set_other keys n i key 0 (λ f. omega arith)

  still : (k q : ℕ) → Comes keys slots k q → Comes (set keys n key) (set slots p (n + 1)) k q
  still k q h = carry keys slots k (set keys n key) (set slots p (n + 1)) (λ r i e. (old-slot r i e, old-key i (s.within r i e))) h

  -- a slot in use is one from before, or the new one
  slot_cases : (q i : ℕ) → get_or (set slots p (n + 1)) q 0 ≡ suc i → ((q ≡ p) × (i ≡ n)) ⊎ (get_or slots q 0 ≡ suc i)
  slot_cases q i e = go (equal_or_not q p)
    where
      go : (q ≡ p) ⊎ (q ≡ p → ⊥) → ((q ≡ p) × (i ≡ n)) ⊎ (get_or slots q 0 ≡ suc i)
      go (inl f) = inl (f, suc_inj (sym e ∙ ap (λ (x : ℕ). get_or (set slots p (n + 1)) x 0) f ∙ new-slot))
      go (inr nf) = inr (sym (get_or-set_other slots p q (n + 1) 0 nf) ∙ e)

  pub searchable-append : Searchable (set keys n key) (set slots p (n + 1)) (n + 1)
  searchable-append = record { reached = λ i l. reach i (last-or-below (omega arith)); within = λ q i e. inside q i (slot_cases q i e); later = λ q i e. after q i (slot_cases q i e) }
    where
      reach : (i : ℕ) → (i ≡ n) ⊎ (i < n) → (q : ℕ) × Comes (set keys n key) (set slots p (n + 1)) (get_or (set keys n key) i 0) q × (get_or (set slots p (n + 1)) q 0 ≡ suc i)
      reach i (inl e) = rw e (p, subst (λ (k : ℕ). Comes (set keys n key) (set slots p (n + 1)) k p) (sym new-key) (still key p a.comes), new-slot)
      reach i (inr l) =
          let r = s.reached i l in
          (r.0, subst (λ (k : ℕ). Comes (set keys n key) (set slots p (n + 1)) k r.0) (sym (old-key i l)) (still (get_or keys i 0) r.0 r.1), old-slot r.0 i r.2)

      inside : (q i : ℕ) → ((q ≡ p) × (i ≡ n)) ⊎ (get_or slots q 0 ≡ suc i) → i < n + 1
      inside q i (inl (e, f)) = omega arith
      inside q i (inr e) = let h = s.within q i e in omega arith

      after : (q i : ℕ) → ((q ≡ p) × (i ≡ n)) ⊎ (get_or slots q 0 ≡ suc i) → q < 1024 + 2 * i
      after q i (inl (e, f)) = let b = below keys slots key n s a.comes (omega arith) in omega arith
      after q i (inr e) = s.later q i e

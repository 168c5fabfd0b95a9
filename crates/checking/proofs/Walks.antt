-- The steps of a proof, one after another.
use mathlib.Core.Path.{◌≡◌, sym, ap, ap₂, ◌∙◌, subst}
use mathlib.Core.Bool.{true, ◌&&◌}
use mathlib.Core.List.{List, [], ◌∷◌, ◌++◌, map}
use Prim.Native.Nat.{ℕ, suc, ◌+◌, ◌-◌, ◌<◌, ◌≤◌}
use native.Mathlib.Nat.{le_refl}
use native.Mathlib.Numerals.{add-one}
use native.Mathlib.Omega.{arith}
use borrow.Author.Count.{below_more}
use lib.Dec.{ltb}
use lib.ListN.{length, get_or, set, length-set}
use lib.Seq.{get_or-set_same, get_or-set_other}
use Rattle.meaning.specs.Lists.{below}
use Rattle.meaning.specs.Credentials.{Credential, credential_at}
use Rattle.meaning.specs.Proofs.{Step, Shown, nothing, keeps, showing, shown_by}
use Rattle.meaning.proofs.Proofs.{shown-append}
use Rattle.asking.specs.Asking.{StepLists, step_in, steps_in}
use Rattle.checking.specs.Checking.{step_holds, last_shown}
use Rattle.steps.specs.Steps.{shown_at, shown_in, Judges}
use Rattle.steps.specs.declared.Judged.{Judged}
use Rattle.checking.specs.Walks.{Walking, Walked}
use Rattle.steps.proofs.Counting.{length-counted, counted-snoc, counted_same, get_d-counted}

module _ (cs : List Credential) (t : StepLists) where
  -- the credential of step i
  abbrev pub credited_at : ℕ → Credential
  credited_at i = credential_at cs (step_in t i).credential

  -- what one more step shows
  pub shown-next : (n : ℕ) → shown_by cs [] (steps_in t (suc n)) ≡ shown_by cs [] (steps_in t n) ++ showing (credited_at n) (shown_by cs [] (steps_in t n)) (step_in t n) ∷ []
  shown-next n = ap (λ (ss : List Step). shown_by cs [] ss) (counted-snoc (step_in t) n) ∙ shown-append cs (steps_in t n) (step_in t n ∷ []) []

-- a store at i leaves what the steps before i show
module _ (roles sets levels : List ℕ) (i r l : ℕ) where
  abbrev stored : ℕ → Shown
  stored = shown_at (set roles i r) sets (set levels i l)

  store-old : map stored (below i) ≡ shown_in roles sets levels i
  store-old =
      counted_same stored (shown_at roles sets levels) i
      (λ j h. ap₂ {C = Shown} (λ (x y : ℕ). record { role = x; set = get_or sets j 0; level = y })
      (get_or-set_other roles i j r 0 (λ e. omega arith)) (get_or-set_other levels i j l 0 (λ e. omega arith)))

  store-last : i < length roles → i < length levels → stored i ≡ record { role = r; set = get_or sets i 0; level = l }
  store-last h k =
      ap₂ {C = Shown} (λ (x y : ℕ). record { role = x; set = get_or sets i 0; level = y }) (get_or-set_same roles i r 0 h) (get_or-set_same levels i l 0 k)

module _ (cs : List Credential) (m : ℕ) (t : StepLists) where
  module _ {roles levels : List ℕ} {i : ℕ} (w : Walking cs m t roles levels i) {s : Step} {x : Judged} (same : s ≡ step_in t i) (judged : Judges cs m (shown_in roles t.sets levels i) s x) where
    j : Judges cs m (shown_in roles t.sets levels i) (step_in t i) x
    j = subst (λ (s : Step). Judges cs m (shown_in roles t.sets levels i) s x) same judged

    tested : step_holds cs m (steps_in t i) (step_in t i) ≡ x.holds
    tested = sym (j.holds ∙ ap (λ (b : List Shown). ltb (step_in t i).credential (length cs) && keeps m (credited_at cs t i) b (step_in t i)) w.shown)

    -- a step that keeps them
    module _ (h : i < 1024) (e : x.holds ≡ true) where
      abbrev new : ℕ → Shown
      new = shown_at (set roles i x.role) t.sets (set levels i x.level)

      shown-more : map new (below (i + 1)) ≡ shown_by cs [] (steps_in t (i + 1))
      shown-more =
          let r = w.rooms in
          ap (λ (n : ℕ). map new (below n)) (add-one i) ∙ counted-snoc new i
          ∙ ap₂ (λ (l : List Shown) (y : Shown). l ++ y ∷ []) (store-old roles t.sets levels i x.role x.level ∙ w.shown)
          (store-last roles t.sets levels i x.role x.level (omega arith) (omega arith) ∙ j.shows e ∙ ap (λ (b : List Shown). showing (credited_at cs t i) b (step_in t i)) w.shown)
          ∙ sym (shown-next cs t i) ∙ ap (λ (n : ℕ). shown_by cs [] (steps_in t n)) (sym (add-one i))

      pub walk-goes-on : Walking cs m t (set roles i x.role) (set levels i x.level) (i + 1)
      walk-goes-on =
          let r = w.rooms in
          let n = length-counted (shown_at roles t.sets levels) i in
          record {
            rooms = (length-set roles i x.role ∙ r.0, length-set levels i x.level ∙ r.1);
            kept = below_more (λ (k : ℕ). step_holds cs m (steps_in t k) (step_in t k) ≡ true) i w.kept (tested ∙ e);
            shown = shown-more;
            low = below_more (λ (k : ℕ). get_or (set levels i x.level) k 0 ≤ i + 1) i
                (λ k l. omega (arith, w.low k l, get_or-set_other levels i k x.level 0 (λ q. omega arith)))
                (omega (arith, j.low, get_or-set_same levels i x.level 0 (omega arith)));
          }

  -- all keep them
  module _ {n : ℕ} (some : 1 ≤ n) {roles levels : List ℕ} (w : Walking cs m t roles levels n) where
    last-shown : shown_at roles t.sets levels (n - 1) ≡ last_shown cs t n
    last-shown =
        sym (get_d-counted (shown_at roles t.sets levels) n (n - 1) nothing (omega arith)) ∙ ap (λ (b : List Shown). get_or b (n - 1) nothing) w.shown

    pub walk_ends : Walked cs m t n (record { count = n; role = get_or roles (n - 1) 0; set = get_or t.sets (n - 1) 0; level = get_or levels (n - 1) 0 })
    walk_ends = record { within = le_refl n; kept = w.kept; stops = λ l. absurd (omega arith); last = λ _. last-shown }

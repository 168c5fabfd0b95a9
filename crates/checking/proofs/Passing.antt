-- Checking against proofs: what a request that can be asked is answered, by the steps.
use mathlib.Core.Path.{◌≡◌, refl, sym, ap, ◌∙◌, subst, subst⁻¹}
use mathlib.Core.Logic.{◌⊎◌, inl, inr, ◌↔◌, dite}
use mathlib.Core.Bool.{Bool, true, false, ◌&&◌, ◌||◌}
use mathlib.Core.List.{List, [], ◌∷◌, ◌++◌, map}
use Prim.Native.Nat.{ℕ, zero, suc, ◌+◌, ◌-◌, ◌<◌, ◌≤◌}
use native.Mathlib.Nat.{not-suc-le-zero}
use native.Mathlib.Decide.{ℕ_discrete}
use native.Mathlib.Omega.{arith}
use borrow.Author.Count.{below_more}
use borrow.Author.Tests.{le-leb, eq-eqb, eqb-true}
use lib.Dec.{T, eqb, leb, ltb, leb→le}
use lib.ListN.{length, get_or, take, drop, length-append}
use lib.Seq.{split_at, drop-length, get_or_at}
use Rattle.meaning.specs.Lists.{all, below}
use Rattle.meaning.specs.Credentials.{Credential, credential_at}
use Rattle.meaning.specs.Proofs.{Step, Shown, nothing, keeps, showing, shown_by, all_keep, Proof}
use Rattle.meaning.proofs.Tests.{and_in, and_left, and_right, or_left, is_true, is_false}
use Rattle.file.specs.Refusals.{RefusalRow, done, refused, first}
use Rattle.file.specs.declared.Refusal.{Refusal}
use Rattle.file.specs.Values.{first_refusal}
use Rattle.file.specs.Reading.{between}
use Rattle.withdrawals.specs.Source.{Source, credentials}
use Rattle.asking.specs.Asking.{Request, StepLists, step_in, steps_in, size, asking, Askable}
use Rattle.asking.specs.Conditions.{of_request}
use Rattle.asking.proofs.Asked.{all_append, first-number, asked-refused, asked-passed, asked-number}
use Rattle.checking.specs.Checking.{step_row, last_shown, last_row, part_before, proof_rows, checking}
use Rattle.checking.specs.Walks.{concluding}
use Rattle.steps.proofs.Counting.{length-counted, counted-snoc}
use Rattle.checking.proofs.Answers.{holds_at, asked, broken-at, other_last, level-last, level, after-request}
use Rattle.checking.proofs.Parts.{part-concludes}

-- ---- steps that keep the rules

and-true : (b : Bool) → (b && true) ≡ b
and-true true = refl
and-true false = refl

and_assoc : (a b c : Bool) → (a && (b && c)) ≡ (a && b && c)
and_assoc true b c = refl
and_assoc false b c = refl

module _ (cs : List Credential) (m : ℕ) where
  -- a step by itself
  abbrev keeps_one : List Shown → Step → Bool
  keeps_one before s = ltb s.credential (length cs) && keeps m (credential_at cs s.credential) before s

  keep_snoc : (ss : List Step) (s : Step) (before : List Shown) → all_keep cs m before (ss ++ s ∷ []) ≡ (all_keep cs m before ss && keeps_one (shown_by cs before ss) s)
  keep_snoc [] s before = and-true (keeps_one before s)
  keep_snoc (x ∷ ss) s before =
      let next = before ++ showing (credential_at cs x.credential) before x ∷ [] in
      ap (λ (b : Bool). keeps_one before x && b) (keep_snoc ss s next) ∙ and_assoc (keeps_one before x) (all_keep cs m next ss) (keeps_one (shown_by cs next ss) s)

  shown-length : (ss : List Step) (before : List Shown) → length (shown_by cs before ss) ≡ length before + length ss
  shown-length [] before = omega arith
  shown-length (s ∷ ss) before =
      let x = showing (credential_at cs s.credential) before s in
      shown-length ss (before ++ x ∷ []) ∙ (let n = length-append before (x ∷ []) in omega arith)

module _ (cs : List Credential) (q : Request) (t : StepLists) where
  abbrev pub Kept : ℕ → Type 0
  Kept n = (j : ℕ) → j < n → holds_at cs q.minute t j ≡ true

  keep-next : (n : ℕ) → all_keep cs q.minute [] (steps_in t (suc n)) ≡ (all_keep cs q.minute [] (steps_in t n) && holds_at cs q.minute t n)
  keep-next n = ap (λ (ss : List Step). all_keep cs q.minute [] ss) (counted-snoc (step_in t) n) ∙ keep_snoc cs q.minute (steps_in t n) (step_in t n) []

  -- all n steps keep the rules exactly when each holds after those before it
  pub kept_out : (n : ℕ) → T (all_keep cs q.minute [] (steps_in t n)) → Kept n
  kept_out zero k = λ j h. absurd (not-suc-le-zero h)
  kept_out (suc n) k =
      let a = all_keep cs q.minute [] (steps_in t n) in
      let u : T (a && holds_at cs q.minute t n) = subst T (keep-next n) k in
      let w = below_more (λ (j : ℕ). holds_at cs q.minute t j ≡ true) n (kept_out n (and_left a (holds_at cs q.minute t n) u)) (is_true _ (and_right a (holds_at cs q.minute t n) u)) in
      λ j h. w j (omega arith)

  pub kept_in : (n : ℕ) → Kept n → T (all_keep cs q.minute [] (steps_in t n))
  kept_in zero k = tt
  kept_in (suc n) k =
      subst⁻¹ T (keep-next n)
      (and_in (all_keep cs q.minute [] (steps_in t n)) (holds_at cs q.minute t n) (kept_in n (λ j h. k j (omega arith))) (subst⁻¹ T (k n (omega arith)) tt))

  -- all hold, or there is a first that does not
  abbrev Broken : ℕ → Type 0
  Broken n = (p : ℕ) × (p < n) × Kept p × (holds_at cs q.minute t p ≡ false)

  first_of : (n : ℕ) → Kept n ⊎ Broken n
  first_of zero = inl (λ j h. absurd (not-suc-le-zero h))
  first_of (suc n) = go (first_of n) (holds_at cs q.minute t n) refl
    where
      go : Kept n ⊎ Broken n → (b : Bool) → holds_at cs q.minute t n ≡ b → Kept (suc n) ⊎ Broken (suc n)
      go (inr (p, h, k, e)) b i = inr (p, omega arith, k, e)
      go (inl k) true i = inl (let w = below_more (λ (j : ℕ). holds_at cs q.minute t j ≡ true) n k i in λ j h. w j (omega arith))
      go (inl k) false i = inr (n, omega arith, k, i)

  module _ (n : ℕ) where
    abbrev shown : List Shown
    shown = shown_by cs [] (steps_in t n)

    shown-many : length shown ≡ n
    shown-many = let l = length-counted (step_in t) n in shown-length cs q.minute (steps_in t n) [] ∙ omega arith

    last-split : 1 ≤ n → shown ≡ take (n - 1) shown ++ last_shown cs t n ∷ []
    last-split h =
        let l = shown-many in
        let e : suc (n - 1) ≡ length shown = omega arith in
        split_at shown (n - 1) nothing (omega arith)
        ∙ ap (λ (k : ℕ). take (n - 1) shown ++ last_shown cs t n ∷ drop k shown) e ∙ ap (λ (l : List Shown). take (n - 1) shown ++ last_shown cs t n ∷ l) (drop-length shown)

    last-is : (before : List Shown) (x : Shown) → shown ≡ before ++ x ∷ [] → last_shown cs t n ≡ x
    last-is before x e =
        let l = shown-many in
        let k = length-append before (x ∷ []) in
        let i : length before ≡ n - 1 = omega (arith, ap length e) in
        ap (λ (l : List Shown). get_or l (n - 1) nothing) e ∙ get_or_at before x [] nothing (n - 1) i

    -- the last step shows the membership
    abbrev pub ShowsAsked : Type 0
    ShowsAsked = ((last_shown cs t n).role ≡ q.role) × ((last_shown cs t n).set ≡ q.set)

    asked-out : asked q (last_shown cs t n) ≡ true → ShowsAsked
    asked-out e =
        let x = last_shown cs t n in
        let u : T (asked q x) = subst⁻¹ T e tt in
        let a = eqb x.role q.role in
        let b = eqb x.set q.set in
        (eqb-true x.role q.role (is_true a (and_left a b u)), eqb-true x.set q.set (is_true b (and_right a b u)))

    asked_in : ShowsAsked → asked q (last_shown cs t n) ≡ true
    asked_in (h, k) = let x = last_shown cs t n in rw (eq-eqb x.role q.role h, eq-eqb x.set q.set k) refl

-- ---- the answer to a request that can be asked, with a count of 1 to L

module _ (f : Source) (q : Request) (t : StepLists) (n : ℕ) (a : Askable f q t) (some : 1 ≤ n) (few : n ≤ size t) where
  abbrev cs : List Credential
  cs = credentials f

  abbrev holds : ℕ → Bool
  holds = holds_at cs q.minute t

  concludes : checking f q t n ≡ concluding cs q t n
  unfolding concluding
  concludes =
      let e : first (proof_rows cs q t n) (level f q t n) ≡ concluding cs q (part_before n t) n = rw (le-leb 1 n some, le-leb n (size t) few) refl in
      after-request f q t n a ∙ e ∙ part-concludes n t cs q

  -- what checking answers in each case
  pub data Verdict : Type 0 where
    broken : (p : ℕ) → p < n → Kept cs q t p → holds p ≡ false → checking f q t n ≡ refused 15 p → Verdict
    other : Kept cs q t n → ¬ ShowsAsked cs q t n → checking f q t n ≡ refused 16 0 → Verdict
    passed : Kept cs q t n → ShowsAsked cs q t n → checking f q t n ≡ done (last_shown cs t n).level → Verdict

  pub breaks : (p : ℕ) → p < n → Kept cs q t p → holds p ≡ false → checking f q t n ≡ refused 15 p
  breaks p h k e = concludes ∙ broken-at cs q t n p h k e

  pub differs : Kept cs q t n → ¬ ShowsAsked cs q t n → checking f q t n ≡ refused 16 0
  differs k s = concludes ∙ other_last cs q t n k (is_false _ (λ u. s (asked-out cs q t n (is_true _ u))))

  pub passes : Kept cs q t n → ShowsAsked cs q t n → checking f q t n ≡ done (last_shown cs t n).level
  passes k s = concludes ∙ level-last cs q t n k (asked_in cs q t n s)

  pub verdict : Verdict
  verdict = go (first_of cs q t n)
    where
      by_last : Kept cs q t n → (b : Bool) → asked q (last_shown cs t n) ≡ b → Verdict
      by_last k true e = let s = asked-out cs q t n e in passed k s (passes k s)
      by_last k false e =
          let s : ¬ ShowsAsked cs q t n = λ u. (let z : ◌≡◌ {A = Bool} false true = sym e ∙ asked_in cs q t n u in let y : ◌≡◌ {A = ℕ} 0 1 = cc in absurd (omega arith)) in
          other k s (differs k s)

      go : Kept cs q t n ⊎ Broken cs q t n → Verdict
      go (inl k) = by_last k (asked q (last_shown cs t n)) refl
      go (inr (p, h, k, e)) = broken p h k e (breaks p h k e)

  -- ---- the claims

  pub passes-exactly : (k : ℕ) → checking f q t n ≡ done k ↔ Proof cs q.minute q.role q.set k (steps_in t n)
  passes-exactly k = (λ e. out e verdict, into)
    where
      out : checking f q t n ≡ done k → Verdict → Proof cs q.minute q.role q.set k (steps_in t n)
      out e (broken p h o b c) = let z : ◌≡◌ {A = ℕ} 0 1 = cc in absurd (omega arith)
      out e (other o s c) = let z : ◌≡◌ {A = ℕ} 0 1 = cc in absurd (omega arith)
      out e (passed o s c) =
          let l : (last_shown cs t n).level ≡ k = cc in
          let before = take (n - 1) (shown cs q t n) in
          record { keeping = kept_in cs q t n o; last = (before, last-split cs q t n some ∙ (λ i. before ++ record { role = s.0 i; set = s.1 i; level = l i } ∷ [])) }

      into : Proof cs q.minute q.role q.set k (steps_in t n) → checking f q t n ≡ done k
      into p =
          let e = last-is cs q t n p.last.0 (record { role = q.role; set = q.set; level = k }) p.last.1 in
          passes (kept_out cs q t n p.keeping) (ap (λ (x : Shown). x.role) e, ap (λ (x : Shown). x.set) e) ∙ ap (λ (x : Shown). done x.level) e

  pub first-broken : (p : ℕ) → checking f q t n ≡ refused 15 p ↔ ((p < n) × T (all_keep cs q.minute [] (steps_in t p)) × (holds p ≡ false))
  first-broken p = (λ e. out e verdict, λ w. breaks p w.0 (kept_out cs q t p w.1) w.2)
    where
      out : checking f q t n ≡ refused 15 p → Verdict → (p < n) × T (all_keep cs q.minute [] (steps_in t p)) × (holds p ≡ false)
      out e (broken r h o b c) =
          let z : r ≡ p = cc in
          subst (λ (x : ℕ). (x < n) × T (all_keep cs q.minute [] (steps_in t x)) × (holds x ≡ false)) z (h, kept_in cs q t r o, b)
      out e (other o s c) = let z : ◌≡◌ {A = ℕ} 15 16 = cc in absurd (omega arith)
      out e (passed o s c) = let z : ◌≡◌ {A = ℕ} 0 1 = cc in absurd (omega arith)

  pub other-membership : checking f q t n ≡ refused 16 0 ↔ (T (all_keep cs q.minute [] (steps_in t n)) × ¬ ShowsAsked cs q t n)
  other-membership = (λ e. out e verdict, λ w. differs (kept_out cs q t n w.0) w.1)
    where
      out : checking f q t n ≡ refused 16 0 → Verdict → T (all_keep cs q.minute [] (steps_in t n)) × ¬ ShowsAsked cs q t n
      out e (broken r h o b c) = let z : ◌≡◌ {A = ℕ} 15 16 = cc in absurd (omega arith)
      out e (other o s c) = (kept_in cs q t n o, s)
      out e (passed o s c) = let z : ◌≡◌ {A = ℕ} 0 1 = cc in absurd (omega arith)

  not-fourteen : checking f q t n ≡ refused 14 0 → ⊥
  not-fourteen e = out verdict
    where
      out : Verdict → ⊥
      out (broken r h o b c) = let z : ◌≡◌ {A = ℕ} 14 15 = cc in omega arith
      out (other o s c) = let z : ◌≡◌ {A = ℕ} 14 16 = cc in omega arith
      out (passed o s c) = let z : ◌≡◌ {A = ℕ} 0 1 = cc in omega arith

module _ (f : Source) (q : Request) (t : StepLists) (n : ℕ) where
  pub count-outside : Askable f q t → checking f q t n ≡ refused 14 0 ↔ ¬ ((1 ≤ n) × (n ≤ size t))
  count-outside a = (λ e w. not-fourteen f q t n a w.0 w.1 e, λ h. after-request f q t n a ∙ rw (outside h) refl)
    where
      outside : ¬ ((1 ≤ n) × (n ≤ size t)) → between 1 (size t) n ≡ false
      outside h = is_false (between 1 (size t) n) (λ u. h (leb→le 1 n (and_left (leb 1 n) (leb n (size t)) u), leb→le n (size t) (and_right (leb 1 n) (leb n (size t)) u)))

  -- ---- the numbers of the refusals

  abbrev number : ℕ → Bool
  number k = of_request k || between 14 16 k

  rows-number : (l : List ℕ) → T (all (λ (r : RefusalRow). number r.number) (map (step_row (credentials f) q.minute (part_before n t)) l))
  rows-number [] = tt
  rows-number (i ∷ l) = rows-number l

  proof-numbers : T (all (λ (r : RefusalRow). number r.number) (proof_rows (credentials f) q t n))
  proof-numbers = all_append (λ (r : RefusalRow). number r.number) (map (step_row (credentials f) q.minute (part_before n t)) (below n)) (last_row (credentials f) q (part_before n t) n ∷ []) (rows-number (below n)) tt

  pub refusal-numbers : (k p : ℕ) → checking f q t n ≡ refused k p → T (number k)
  unfolding checking
  refusal-numbers k p e =
      dite (ℕ_discrete r.number 0)
      (λ z. first-number number (proof_rows (credentials f) q t n) (level f q t n) proof-numbers (sym (asked-passed f q t r refl z (proof_rows (credentials f) q t n) (level f q t n)) ∙ e))
      (λ h. let c = asked-refused f q t r refl h (proof_rows (credentials f) q t n) (level f q t n) in
      let i : r.number ≡ k = cc in
      or_left (of_request k) (between 14 16 k) (subst (λ (m : ℕ). T (of_request m)) i (asked-number f q t r refl h)))
    where
      r : Refusal
      r = first_refusal (asking f q t)

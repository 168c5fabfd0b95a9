-- Steps that keep the rules at every position all keep the rules, and show what they show by position.
use mathlib.Core.Path.{◌≡◌, refl, sym, ap, ◌∙◌, subst, subst⁻¹}
use mathlib.Core.Bool.{Bool, true, false}
use mathlib.Core.List.{List, [], ◌∷◌, ◌++◌, map}
use Prim.Native.Nat.{ℕ, zero, suc, ◌+◌, ◌<◌, max}
use native.Mathlib.Nat.{not-suc-le-zero}
use native.Mathlib.Omega.{arith}
use lib.Dec.{T, ltb, lt→ltb}
use lib.ListN.{length, get_or, length-map}
use Rattle.meaning.specs.Lists.{if, up_from, below}
use Rattle.meaning.specs.Credentials.{Body, Credential, covers, valid_at}
use Rattle.meaning.specs.Sequence.{S}
use Rattle.meaning.specs.Proofs.{Step, Shown, nothing, cites_first, cites_second, follows, citable, cited, showing, keeps, shown_by, all_keep, Proof}
use Rattle.meaning.proofs.Tests.{and_in, eq-in}
use Rattle.meaning.proofs.Proofs.{shown-append, keep_append}
use Rattle.meaning.proofs.Steps.{steps-sound}
use Rattle.file.proofs.Credentials.{get_d-map-lt, length-below, get_d-below}
use Rattle.derivation.specs.Derivation.{Citable, credential_of, body_of, first_by, second_by, StepHolds}

up_next : (i n : ℕ) → up_from i (suc n) ≡ up_from i n ++ (i + n) ∷ []
up_next i zero = ap (λ (x : ℕ). x ∷ []) (omega arith)
up_next i (suc n) = ap (λ (l : List ℕ). i ∷ l) (up_next (suc i) n ∙ ap (λ (x : ℕ). up_from (suc i) n ++ x ∷ []) (omega arith))

module _ {A : Type 0} (f : ℕ → A) where
  map_snoc : (l : List ℕ) (x : ℕ) → map f (l ++ x ∷ []) ≡ map f l ++ f x ∷ []
  map_snoc [] x = refl
  map_snoc (y ∷ l) x = ap (λ (r : List A). f y ∷ r) (map_snoc l x)

  -- the positions below n, and n
  pub map-below-next : (n : ℕ) → map f (below (suc n)) ≡ map f (below n) ++ f n ∷ []
  map-below-next n = let e : 0 + n ≡ n = omega arith in ap (map f) (up_next 0 n ∙ ap (λ (x : ℕ). below n ++ x ∷ []) e) ∙ map_snoc (below n) n

  pub map-below-length : (n : ℕ) → length (map f (below n)) ≡ n
  map-below-length n = length-map (below n) f ∙ length-below n

  pub map-below-at : (n i : ℕ) (d : A) → i < n → get_or (map f (below n)) i d ≡ f i
  map-below-at n i d h = get_d-map-lt f (below n) i 0 d (omega (arith, length-below n)) ∙ ap f (get_d-below n i 0 h)

module _ (cs : List Credential) (m : ℕ) (step : ℕ → Step) (shown : ℕ → Shown) where
  abbrev shown_to : ℕ → List Shown
  shown_to n = map shown (below n)

  abbrev steps_to : ℕ → List Step
  steps_to n = map step (below n)

  citable-at : (b : Bool) (n j : ℕ) → Citable b n j → T (citable b (shown_to n) j)
  citable-at true n j h = lt→ltb j (length (shown_to n)) (omega (arith, map-below-length shown n))
  citable-at false n j h = eq-in j 0 h

  cited_at : (b : Bool) (n j : ℕ) → Citable b n j → cited b (shown_to n) j ≡ if b (shown j) nothing
  cited_at true n j h = map-below-at shown n j nothing h
  cited_at false n j h = refl

  module _ (n : ℕ) (h : StepHolds cs m step shown n) where
    abbrev e : Body
    e = body_of cs m step shown n

    first-at : cited (cites_first e) (shown_to n) (step n).first ≡ first_by cs m step shown n
    first-at = cited_at (cites_first e) n (step n).first h.first

    second_at : cited (cites_second e) (shown_to n) (step n).second ≡ second_by cs m step shown n
    second_at = cited_at (cites_second e) n (step n).second h.second

    keeps-at : T (keeps m (credential_of cs m step shown n) (shown_to n) (step n))
    keeps-at =
        let v : T (covers (credential_of cs m step shown n).period m) = h.valid in
        let a : T (citable (cites_first e) (shown_to n) (step n).first) = citable-at (cites_first e) n (step n).first h.first in
        let b : T (citable (cites_second e) (shown_to n) (step n).second) = citable-at (cites_second e) n (step n).second h.second in
        let f : T (follows e (cited (cites_first e) (shown_to n) (step n).first) (cited (cites_second e) (shown_to n) (step n).second) (step n).set) =
        subst⁻¹ (λ (p : Shown). T (follows e p (cited (cites_second e) (shown_to n) (step n).second) (step n).set)) first-at
        (subst⁻¹ (λ (q : Shown). T (follows e (first_by cs m step shown n) q (step n).set)) second_at h.follows) in
        search and_in

    shown-at : showing (credential_of cs m step shown n) (shown_to n) (step n) ≡ shown n
    shown-at =
        (λ i. record { role = (credential_of cs m step shown n).statement.head; set = (step n).set; level = suc (max (first-at i).level (second_at i).level) })
        ∙ sym h.shows

  pub steps-keep : (n : ℕ) → ((i : ℕ) → i < n → StepHolds cs m step shown i) → T (all_keep cs m [] (steps_to n)) × (shown_by cs [] (steps_to n) ≡ shown_to n)
  steps-keep zero h = (tt, refl)
  steps-keep (suc n) h =
      let r = steps-keep n (λ i l. h i (omega arith)) in
      let c = credential_of cs m step shown n in
      let k : T (ltb (step n).credential (length cs)) = lt→ltb _ _ (h n (omega arith)).known in
      let s : T (keeps m c (shown_to n) (step n)) = keeps-at n (h n (omega arith)) in
      let u : T true = tt in
      let one : T (all_keep cs m (shown_to n) (step n ∷ [])) = search and_in in
      let e : steps_to (suc n) ≡ steps_to n ++ step n ∷ [] = map-below-next step n in (
        subst⁻¹ (λ (l : List Step). T (all_keep cs m [] l)) e (keep_append cs m (steps_to n) (step n ∷ []) [] r.0 (subst⁻¹ (λ (b : List Shown). T (all_keep cs m b (step n ∷ []))) r.1 one)),
        ap (shown_by cs []) e ∙ shown-append cs (steps_to n) (step n ∷ []) [] ∙ ap (λ (b : List Shown). shown_by cs b (step n ∷ [])) r.1
            ∙ ap (λ (x : Shown). shown_to n ++ x ∷ []) (shown-at n (h n (omega arith))) ∙ sym (map-below-next shown n),
      )

  -- each shows a membership of its level
  pub shown-sound : (n : ℕ) → ((i : ℕ) → i < n → StepHolds cs m step shown i) → (i : ℕ) → i < n → S (valid_at cs m) (shown i).level (shown i).role (shown i).set
  shown-sound n h i l =
      let r = steps-keep n h in
      let s = steps-sound cs m (steps_to n) [] (λ j z. absurd (not-suc-le-zero z)) r.0 i (omega (arith, ap length r.1, map-below-length shown n)) in
      subst (λ (x : Shown). S (valid_at cs m) x.level x.role x.set) (ap (λ (l : List Shown). get_or l i nothing) r.1 ∙ map-below-at shown n i nothing l) s

  -- the steps up to n are a proof of what step n shows
  pub proof-to : (n : ℕ) → ((i : ℕ) → i < suc n → StepHolds cs m step shown i) → Proof cs m (shown n).role (shown n).set (shown n).level (steps_to (suc n))
  proof-to n h = let r = steps-keep (suc n) h in record { keeping = r.0; last = (shown_to n, r.1 ∙ map-below-next shown n) }

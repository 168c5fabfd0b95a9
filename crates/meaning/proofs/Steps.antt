-- A proof of level k shows a membership of S_k.
use mathlib.Core.Path.{◌≡◌, refl, sym, ap, ap₂, ◌∙◌, subst, subst⁻¹}
use mathlib.Core.Bool.{Bool, true, false}
use mathlib.Core.List.{List, [], ◌∷◌, ◌++◌}
use Prim.Native.Nat.{ℕ, zero, suc, ◌^◌, ◌<◌, ◌≤◌, zero-le, suc-le-suc}
use native.Mathlib.Nat.{le-max_left, le-max_right, le_of_suc-le-suc, not-suc-le-zero}
use native.Mathlib.Omega.{arith}
use lib.Bits.{bit_and, bit_or}
use lib.Dec.{T, eqb→eq, ltb→lt}
use lib.ListN.{length, get_or, length-append}
use lib.Seq.{get_or-append_seam}
use Rattle.meaning.specs.Credentials.{◌·◌, Body, set, role, link, ◌∩◌, ◌⊙◌, ◌⊗◌, Credential, valid_at, no_credential, credential_at}
use Rattle.meaning.specs.Sequence.{Relation, Gives, S}
use Rattle.meaning.specs.Members.{entity}
use Rattle.meaning.specs.Proofs.{Step, Shown, nothing, cites_first, cites_second, follows, citable, cited, first_of, second_of, showing, keeps, shown_by, all_keep, Proof}
use Rattle.meaning.proofs.Tests.{and_in, and_left, and_right, eq-in}
use Rattle.meaning.proofs.ListLaws.{place-in}
use Rattle.meaning.proofs.Levels.{entity-power}
use Rattle.meaning.proofs.Derivations.{S-up, valid-in}

ruleset tests = (and_left, and_right, eqb→eq)

ruleset makes = (and_in, eq-in)

-- the one membership that a step shows, as a relation
abbrev pub Shows : Shown → Relation
Shows p Ar X = (p.role ≡ Ar) × (X ≡ p.set)

-- ---- the test of a kind's row is what the body gives

pub follows-out : (e : Body) (p q : Shown) (X : ℕ) → T (follows e p q X) → Gives (Shows p) (Shows q) e X
follows-out (set Y) p q X u = search tests
follows-out (role Bs) p q X u = search tests
follows-out (link Bs t) p q X u =
    let e : p.set ≡ 2 ^ entity p.set = search tests in
    (entity p.set, (search tests, sym e), search tests)
follows-out (Bs ∩ Ct) p q X u =
    let e : X ≡ p.set = search tests in
    let f : p.set ≡ q.set = search tests in
    ((search tests, e), (search tests, e ∙ f))
follows-out (Bs ⊙ Ct) p q X u = (p.set, q.set, (search tests, refl), (search tests, refl), search tests)
follows-out (Bs ⊗ Ct) p q X u = (p.set, q.set, (search tests, refl), (search tests, refl), search tests, search tests)

pub follows-in : (e : Body) (p q : Shown) (X : ℕ) → Gives (Shows p) (Shows q) e X → T (follows e p q X)
follows-in (set Y) p q X h = search makes
follows-in (role Bs) p q X (h, k) = search makes
follows-in (link Bs t) p q X (C, (a, b), (c, d)) =
    let f : C ≡ entity p.set = sym (entity-power C) ∙ ap entity b in
    let g : p.set ≡ 2 ^ entity p.set = sym b ∙ ap (λ (x : ℕ). 2 ^ x) f in
    let h : q.role ≡ entity p.set · t = c ∙ ap (λ (x : ℕ). x · t) f in
    search makes
follows-in (Bs ∩ Ct) p q X ((a, b), (c, d)) = let e : p.set ≡ q.set = sym b ∙ d in search makes
follows-in (Bs ⊙ Ct) p q X (Y, Z, (a, b), (c, d), e) = let f : X ≡ bit_or p.set q.set = e ∙ ap₂ bit_or b d in search makes
follows-in (Bs ⊗ Ct) p q X (Y, Z, (a, b), (c, d), o, e) =
    let f : X ≡ bit_or p.set q.set = e ∙ ap₂ bit_or b d in
    let g : bit_and p.set q.set ≡ 0 = sym (ap₂ bit_and b d) ∙ o in
    search makes

-- a body gives more from more; only the steps that it cites count
gives-cited : {P P' Q Q' : Relation} (e : Body) (f : T (cites_first e) → (Ar X : ℕ) → P Ar X → P' Ar X) (g : T (cites_second e) → (Ar X : ℕ) → Q Ar X → Q' Ar X) (X : ℕ)
    → Gives P Q e X → Gives P' Q' e X
gives-cited (set Y) f g X h = h
gives-cited (role Bs) f g X h = f tt Bs X h
gives-cited (link Bs t) f g X (C, h, k) = (C, f tt Bs _ h, g tt (C · t) X k)
gives-cited (Bs ∩ Ct) f g X (h, k) = (f tt Bs X h, g tt Ct X k)
gives-cited (Bs ⊙ Ct) f g X (Y, Z, h, k, e) = (Y, Z, f tt Bs Y h, g tt Ct Z k, e)
gives-cited (Bs ⊗ Ct) f g X (Y, Z, h, k, d, e) = (Y, Z, f tt Bs Y h, g tt Ct Z k, d, e)

-- ---- each step shows a membership at its level

module _ (cs : List Credential) (m : ℕ) where
  abbrev Holds : Shown → Type 0
  Holds x = S (valid_at cs m) x.level x.role x.set

  abbrev pub Sound : List Shown → Type 0
  Sound before = (i : ℕ) → i < length before → Holds (get_or before i nothing)

  cited-holds : (b : Bool) (before : List Shown) (i : ℕ) → Sound before → T (citable b before i) → T b → Holds (cited b before i)
  cited-holds true before i s t u = s i (ltb→lt _ _ t)
  cited-holds false before i s t u = absurd u

  lifted : (p : Shown) {k : ℕ} → p.level ≤ k → Holds p → (Ar X : ℕ) → Shows p Ar X → S (valid_at cs m) k Ar X
  lifted p {k} h s Ar X (e, f) =
      subst (λ r. S (valid_at cs m) k r X) e (subst⁻¹ (S (valid_at cs m) k p.role) f (S-up (valid_at cs m) h p.role p.set s))

  step-holds : (i : ℕ) (before : List Shown) (s : Step) → i < length cs → Sound before → T (keeps m (credential_at cs i) before s) → Holds (showing (credential_at cs i) before s)
  step-holds i before s l h t =
      let c = credential_at cs i in
      let e = c.statement.body in
      let p = first_of e before s in
      let q = second_of e before s in (
        c.statement,
        valid-in m (place-in no_credential cs i l) (search tests),
        refl,
        gives-cited e
            (λ o. lifted p (le-max_left p.level q.level) (cited-holds (cites_first e) before s.first h (search tests) o))
            (λ o. lifted q (le-max_right p.level q.level) (cited-holds (cites_second e) before s.second h (search tests) o))
            s.set (follows-out e p q s.set (search tests)),
      )

  sound-snoc : (before : List Shown) (x : Shown) → Sound before → Holds x → Sound (before ++ x ∷ [])
  sound-snoc [] x s h zero l = h
  sound-snoc [] x s h (suc i) l = absurd (omega arith)
  sound-snoc (y ∷ before) x s h zero l = s zero (suc-le-suc zero-le)
  sound-snoc (y ∷ before) x s h (suc i) l = sound-snoc before x (λ j k. s (suc j) (suc-le-suc k)) h i (le_of_suc-le-suc l)

  pub steps-sound : (ss : List Step) (before : List Shown) → Sound before → T (all_keep cs m before ss) → Sound (shown_by cs before ss)
  steps-sound [] before h t = h
  steps-sound (s ∷ ss) before h t =
      let c = credential_at cs s.credential in
      let l : s.credential < length cs = search (tests, ltb→lt) in
      steps-sound ss (before ++ showing c before s ∷ []) (sound-snoc before (showing c before s) h (step-holds s.credential before s l h (search tests))) (search tests)

  pub proof-sound : {Ar X k : ℕ} {ss : List Step} → Proof cs m Ar X k ss → S (valid_at cs m) k Ar X
  proof-sound {Ar} {X} {k} {ss} p =
      let l = p.last.0 in
      let x : Shown = record { role = Ar; set = X; level = k } in
      let s : Sound (l ++ x ∷ []) = subst Sound p.last.1 (steps-sound ss [] (λ i h. absurd (not-suc-le-zero h)) p.keeping) in
      subst Holds (get_or-append_seam l x [] nothing) (s (length l) (omega (arith, length-append l (x ∷ []))))

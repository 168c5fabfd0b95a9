-- Each membership of S_k has a proof of level at most k: any steps can be continued to show it.
use mathlib.Core.Path.{◌≡◌, refl, sym, ap, ◌∙◌, subst, subst⁻¹}
use mathlib.Core.Bool.{Bool, true}
use mathlib.Core.List.{List, [], ◌∷◌, ◌++◌}
use Prim.Native.Nat.{ℕ, zero, suc, ◌<◌, ◌≤◌, max, zero-le, suc-le-suc}
use native.Mathlib.Nat.{max-le}
use native.Mathlib.Omega.{arith}
use lib.Dec.{T, ltb, lt→ltb}
use lib.ListN.{length, get_or, length-append, get_or-append}
use lib.Seq.{get_or-append_seam}
use Rattle.meaning.specs.Credentials.{Body, set, role, link, ◌∩◌, ◌⊙◌, ◌⊗◌, Statement, covers, Credential, ◌during◌, valid_at, no_credential, credential_at}
use Rattle.meaning.specs.Sequence.{Gives, S}
use Rattle.meaning.specs.Proofs.{Step, Shown, nothing, cites_first, cites_second, follows, citable, cited, showing, shown_by, all_keep, Proof}
use Rattle.meaning.proofs.Tests.{and_in, and_left, and_right}
use Rattle.meaning.proofs.ListLaws.{place_out}
use Rattle.meaning.proofs.Derivations.{valid-out}
use Rattle.meaning.proofs.Steps.{Shows, follows-in}

ruleset tests = (and_left, and_right, and_in)

module _ (cs : List Credential) where
  abbrev pub shown-more : List Shown → Step → List Shown
  shown-more before s = before ++ showing (credential_at cs s.credential) before s ∷ []

  pub shown-append : (ss us : List Step) (before : List Shown) → shown_by cs before (ss ++ us) ≡ shown_by cs (shown_by cs before ss) us
  shown-append [] us before = refl
  shown-append (s ∷ ss) us before = shown-append ss us (shown-more before s)

  pub keep_append : (m : ℕ) (ss us : List Step) (before : List Shown) → T (all_keep cs m before ss) → T (all_keep cs m (shown_by cs before ss) us) → T (all_keep cs m before (ss ++ us))
  keep_append m [] us before t u = u
  keep_append m (s ∷ ss) us before t u =
      let b = shown-more before s in
      let r : T (all_keep cs m b (ss ++ us)) = keep_append m ss us b (search tests) u in
      search tests

  -- what is shown stays shown
  pub shown-old : (ss : List Step) (before : List Shown) (i : ℕ) → i < length before → (i < length (shown_by cs before ss)) × (get_or (shown_by cs before ss) i nothing ≡ get_or before i nothing)
  shown-old [] before i h = (h, refl)
  shown-old (s ∷ ss) before i h =
      let x = showing (credential_at cs s.credential) before s in
      let r = shown-old ss (before ++ x ∷ []) i (omega (arith, length-append before (x ∷ []))) in
      (r.0, r.1 ∙ get_or-append before (x ∷ []) nothing i h)

module _ (cs : List Credential) (m : ℕ) where
  abbrev ss : List Statement
  ss = valid_at cs m

  -- further steps, the last of which shows the membership
  record Continued (before : List Shown) (k Ar X : ℕ) : Type 0 where
    steps : List Step
    keeping : T (all_keep cs m before steps)
    shown : List Shown
    level : ℕ
    last : shown_by cs before steps ≡ shown ++ record { role = Ar; set = X; level = level } ∷ []
    low : level ≤ k

  -- place i shows the membership, at a level of at most k
  record At (before : List Shown) (k Ar X i : ℕ) : Type 0 where
    there : i < length before
    shows : Shows (get_or before i nothing) Ar X
    low : (get_or before i nothing).level ≤ k

  -- further steps, and two places from which the body gives X
  record Cites (before : List Shown) (k : ℕ) (a b : Bool) (e : Body) (X : ℕ) : Type 0 where
    steps : List Step
    keeping : T (all_keep cs m before steps)
    i : ℕ
    j : ℕ
    citable-i : T (citable a (shown_by cs before steps) i)
    citable-j : T (citable b (shown_by cs before steps) j)
    gives : Gives (Shows (cited a (shown_by cs before steps) i)) (Shows (cited b (shown_by cs before steps) j)) e X
    low-i : (cited a (shown_by cs before steps) i).level ≤ k
    low-j : (cited b (shown_by cs before steps) j).level ≤ k

  at_last : {before : List Shown} {k Ar X : ℕ} (r : Continued before k Ar X) → At (shown_by cs before r.steps) k Ar X (length r.shown)
  at_last {before} {k} {Ar} {X} r = subst⁻¹ (λ a. At a k Ar X (length r.shown)) r.last here
    where
      x : Shown
      x = record { role = Ar; set = X; level = r.level }

      e : get_or (r.shown ++ x ∷ []) (length r.shown) nothing ≡ x
      e = get_or-append_seam r.shown x [] nothing

      here : At (r.shown ++ x ∷ []) k Ar X (length r.shown)
      here = record {
        there = omega (arith, length-append r.shown (x ∷ []));
        shows = (ap (λ (y : Shown). y.role) e, sym (ap (λ (y : Shown). y.set) e));
        low = subst⁻¹ (λ (y : Shown). y.level ≤ k) e r.low;
      }

  at-still : {before : List Shown} {k Ar X i : ℕ} (us : List Step) → At before k Ar X i → At (shown_by cs before us) k Ar X i
  at-still {before} {k} {Ar} {X} {i} us s =
      let o = shown-old cs us before i s.there in
      record { there = o.0; shows = subst⁻¹ (λ (y : Shown). Shows y Ar X) o.1 s.shows; low = subst⁻¹ (λ (y : Shown). y.level ≤ k) o.1 s.low }

  module _ (k : ℕ) (rec : (before : List Shown) (Ar X : ℕ) → S ss k Ar X → Continued before k Ar X) where
    -- both premises, one after the other
    both : (before : List Shown) (e : Body) (X : ℕ) {Ar Y Br Z : ℕ} → S ss k Ar Y → S ss k Br Z
        → ((p q : Shown) → Shows p Ar Y → Shows q Br Z → Gives (Shows p) (Shows q) e X) → Cites before k true true e X
    both before e X {Ar} {Y} {Br} {Z} h g f =
        let a = rec before Ar Y h in
        let b = rec (shown_by cs before a.steps) Br Z g in
        let us = a.steps ++ b.steps in
        let u = sym (shown-append cs a.steps b.steps before) in
        let s = subst (λ x. At x k Ar Y (length a.shown)) u (at-still b.steps (at_last a)) in
        let t = subst (λ x. At x k Br Z (length b.shown)) u (at_last b) in
        record {
          steps = us;
          keeping = keep_append cs m a.steps b.steps before a.keeping b.keeping;
          i = length a.shown;
          j = length b.shown;
          citable-i = lt→ltb _ _ s.there;
          citable-j = lt→ltb _ _ t.there;
          gives = f (get_or (shown_by cs before us) (length a.shown) nothing) (get_or (shown_by cs before us) (length b.shown) nothing) s.shows t.shows;
          low-i = s.low;
          low-j = t.low;
        }

    cites : (before : List Shown) (e : Body) (X : ℕ) → Gives (S ss k) (S ss k) e X → Cites before k (cites_first e) (cites_second e) e X
    cites before (set Y) X h = record { steps = []; keeping = tt; i = 0; j = 0; citable-i = tt; citable-j = tt; gives = h; low-i = zero-le; low-j = zero-le }
    cites before (role Bs) X h =
        let a = rec before Bs X h in
        let s = at_last a in
        record { steps = a.steps; keeping = a.keeping; i = length a.shown; j = 0; citable-i = lt→ltb _ _ s.there; citable-j = tt; gives = s.shows; low-i = s.low; low-j = zero-le }
    cites before (link Bs t) X (C, h, g) = both before (link Bs t) X h g (λ p q a b. (C, a, b))
    cites before (Bs ∩ Ct) X (h, g) = both before (Bs ∩ Ct) X h g (λ p q a b. (a, b))
    cites before (Bs ⊙ Ct) X (Y, Z, h, g, e) = both before (Bs ⊙ Ct) X h g (λ p q a b. (Y, Z, a, b, e))
    cites before (Bs ⊗ Ct) X (Y, Z, h, g, o, e) = both before (Bs ⊗ Ct) X h g (λ p q a b. (Y, Z, a, b, o, e))

    -- the cited steps, and then the step itself
    conclude : (before : List Shown) (c : Credential) (n X : ℕ) → n < length cs → credential_at cs n ≡ c → T (covers c.period m)
        → Cites before k (cites_first c.statement.body) (cites_second c.statement.body) c.statement.body X → Continued before (suc k) c.statement.head X
    conclude before c n X h at v r =
        let e = c.statement.body in
        let s : Step = record { credential = n; first = r.i; second = r.j; set = X } in
        let shown = shown_by cs before r.steps in
        let p = cited (cites_first e) shown r.i in
        let q = cited (cites_second e) shown r.j in
        let l : T (ltb n (length cs)) = lt→ltb _ _ h in
        let f : T (follows e p q X) = follows-in e p q X r.gives in
        let i : T (citable (cites_first e) shown r.i) = r.citable-i in
        let j : T (citable (cites_second e) shown r.j) = r.citable-j in
        let o : T (covers c.period m) = v in
        let u : T true = tt in
        record {
          steps = r.steps ++ s ∷ [];
          keeping = keep_append cs m r.steps (s ∷ []) before r.keeping (rw at (search and_in));
          shown = shown;
          level = suc (max p.level q.level);
          last = shown-append cs r.steps (s ∷ []) before ∙ rw at refl;
          low = suc-le-suc (max-le r.low-i r.low-j);
        }

  continue : (k : ℕ) (before : List Shown) (Ar X : ℕ) → S ss k Ar X → Continued before k Ar X
  continue zero before Ar X h = absurd h
  continue (suc k) before Ar X (s, i, e, g) =
      let v = valid-out cs m i in
      let n = place_out no_credential v.1 in
      subst⁻¹ (λ (r : ℕ). Continued before (suc k) r X) e
      (conclude k (continue k) before (s during v.0) n.0 X n.1 n.2 v.2 (cites k (continue k) before s.body X g))

  pub proof-exists : (k Ar X : ℕ) → S ss k Ar X → (us : List Step) × (l : ℕ) × Proof cs m Ar X l us × (l ≤ k)
  proof-exists k Ar X h =
      let r = continue k [] Ar X h in
      (r.steps, r.level, record { keeping = r.keeping; last = (r.shown, r.last) }, r.low)

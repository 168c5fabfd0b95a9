-- What the code's tests of a statement say.
use mathlib.Core.Path.{◌≡◌, refl, sym, ap, ◌∙◌}
use mathlib.Core.Bool.{Bool, true, false, ◌&&◌}
use mathlib.Core.List.{List, [], ◌∷◌}
use Prim.Native.Nat.{ℕ, zero, suc, max, ◌+◌, ◌<◌, ◌≤◌}
use native.Mathlib.Numerals.{one-add}
use native.Mathlib.Omega.{arith}
use borrow.Author.Tests.{lt-ltb, le-ltb}
use lib.Dec.{eqb}
use lib.ListN.{length, get_or-eq_default}
use Rattle.meaning.specs.Credentials.{◌·◌, Body, set, role, link, ◌∩◌, ◌⊙◌, ◌⊗◌}
use Rattle.meaning.specs.Members.{entity, single}
use Rattle.meaning.specs.Proofs as M
use Rattle.meaning.specs.Proofs.{Shown, nothing, cites_first, cites_second, citable, cited, first_of, second_of, follows}
use Rattle.policy.specs.declared.Statement.{Statement}
use Rattle.steps.specs.Steps.{unkept, shown_of, shown_at, shown_in, Known, kept_by, Decides}
use Rattle.steps.specs.declared.Cited.{Cited}
use Rattle.steps.specs.declared.Judged.{Judged}
use Rattle.steps.proofs.Counting.{length-counted, get_d-counted}
use Rattle.policy.specs.Policy.{body_by, body_of}

-- ---- the body by its kind

of-kind : (b : Statement) {k : ℕ} → b.kind ≡ k → body_by k b.set b.first b.second ≡ body_of b
of-kind b e = ap (λ (k : ℕ). body_by k b.set b.first b.second) (sym e)

cite-two : (k X Bs Ct : ℕ) → 1 < k → (cites_first (body_by k X Bs Ct) ≡ true) × (cites_second (body_by k X Bs Ct) ≡ true)
cite-two zero X Bs Ct h = absurd (omega arith)
cite-two (suc zero) X Bs Ct h = absurd (omega arith)
cite-two (suc (suc zero)) X Bs Ct h = (refl, refl)
cite-two (suc (suc (suc zero))) X Bs Ct h = (refl, refl)
cite-two (suc (suc (suc (suc zero)))) X Bs Ct h = (refl, refl)
cite-two (suc (suc (suc (suc (suc k))))) X Bs Ct h = (refl, refl)

-- ---- what a body gives

and-four : (a b c d : Bool) → (a && (b && c) && d) ≡ (a && b && c && d)
and-four true b c d = refl
and-four false b c d = refl

module _ (b : Statement) (p q : Shown) (X : ℕ) where
  pub kind-follows : {k : ℕ} → b.kind ≡ k → follows (body_by k b.set b.first b.second) p q X ≡ follows (body_of b) p q X
  kind-follows e = ap (λ (e : Body). follows e p q X) (of-kind b e)

  -- kind 2, where one test says that the first step shows {C} and the second is one of C.t
  pub link-follows : {l : Bool} → b.kind ≡ 2 → l ≡ (single p.set && eqb q.role (entity p.set · b.second))
      → (eqb p.role b.first && l && eqb X q.set) ≡ follows (body_of b) p q X
  link-follows e f =
      ap (λ (l : Bool). eqb p.role b.first && l && eqb X q.set) f
      ∙ and-four (eqb p.role b.first) (single p.set) (eqb q.role (entity p.set · b.second)) (eqb X q.set) ∙ kind-follows e

  -- every kind above 4
  pub last-follows : 5 ≤ b.kind → follows (b.first ⊗ b.second) p q X ≡ follows (body_of b) p q X
  last-follows h =
      let list = set b.set ∷ role b.first ∷ link b.first b.second ∷ (b.first ∩ b.second) ∷ (b.first ⊙ b.second) ∷ [] in
      ap (λ (e : Body). follows e p q X) (sym (get_or-eq_default list (b.first ⊗ b.second) h))

-- ---- the answer for a statement

pub unheld : {A : Type 0} {x : Bool} → x ≡ false → x ≡ true → A
unheld e t = let z : ◌≡◌ {A = ℕ} 0 1 = cc in absurd (omega arith)

and-false : (a : Bool) → (a && false) ≡ false
and-false true = refl
and-false false = refl

max-zero : (k : ℕ) → 1 + k ≡ suc (max k 0)
max-zero k = omega arith

-- a step that breaks the rules
breaks : (b : Statement) (before : List Shown) (s : M.Step) (r : Judged) → kept_by (body_of b) before s ≡ false → r ≡ unkept → Decides b before s r
breaks b before s r e u =
    let h : r.holds ≡ false = ap (λ (x : Judged). x.holds) u in
    let v : r.level ≡ 0 = ap (λ (x : Judged). x.level) u in
    record { holds = h ∙ sym e; role = λ t. unheld h t; level = λ t. unheld h t; low = omega arith }

-- a step that cites nothing
pub none-cited : (b : Statement) (before : List Shown) (s : M.Step) (r : Judged) → b.kind ≡ 0
    → r ≡ record { holds = eqb s.first 0 && eqb s.second 0 && eqb s.set b.set; role = b.head; level = 1 } → Decides b before s r
none-cited b before s r k u =
    let v : r.level ≡ 1 = ap (λ (x : Judged). x.level) u in
    record {
      holds = ap (λ (x : Judged). x.holds) u ∙ ap (λ (e : Body). kept_by e before s) (of-kind b k);
      role = λ _. ap (λ (x : Judged). x.role) u;
      level = λ _. v ∙ ap (λ (e : Body). suc (max (first_of e before s).level (second_of e before s).level)) (of-kind b k);
      low = omega arith;
    }

module _ (roles sets levels : List ℕ) (i : ℕ) (b : Statement) (s : M.Step) where
  abbrev before : List Shown
  before = shown_in roles sets levels i

  abbrev shown : ℕ → Shown
  shown = shown_at roles sets levels

  shown-length : length before ≡ i
  shown-length = length-counted shown i

  earlier : (w : ℕ) → w < i → citable true before w ≡ true
  earlier w h = let l = shown-length in lt-ltb w (length before) (omega arith)

  late : (w : ℕ) → i ≤ w → citable true before w ≡ false
  late w h = let l = shown-length in le-ltb w (length before) (omega arith)

  cited-is : (w : ℕ) → w < i → {p : Cited} → shown_of p ≡ shown w → cited true before w ≡ shown_of p
  cited-is w h u = get_d-counted shown i w nothing h ∙ sym u

  level-low : {w : ℕ} {p : Cited} → Known sets levels i → w < i → shown_of p ≡ shown w → p.level ≤ i
  level-low {w} known h u = omega (arith, known.low w h, ap (λ (x : Shown). x.level) u)

  abbrev e : Body
  e = body_of b

  first-late : cites_first e ≡ true → (r : Judged) → i ≤ s.first → r ≡ unkept → Decides b before s r
  first-late t r h =
      let a = ap (λ (c : Bool). citable c before s.first) t ∙ late s.first h in
      breaks b before s r (λ j. a j && citable (cites_second e) before s.second && follows e (first_of e before s) (second_of e before s) s.set)

  module _ (k : b.kind ≡ 1) where
    pub one-late : (r : Judged) → i ≤ s.first → r ≡ unkept → Decides b before s r
    one-late = first-late (ap (λ (e : Body). cites_first e) (sym (of-kind b k)))

    pub one-cited : {p : Cited} → Known sets levels i → s.first < i → shown_of p ≡ shown s.first
        → Decides b before s (record { holds = eqb s.second 0 && (eqb p.role b.first && eqb s.set p.set); role = b.head; level = 1 + p.level })
    one-cited {p} known h u =
        let low = level-low known h u in
        let P = sym (cited-is s.first h u) in
        let l = shown-length in
        record {
          holds = (λ j. sym (earlier s.first h) j && eqb s.second 0 && (eqb (P j).role b.first && eqb s.set (P j).set)) ∙ ap (λ (e : Body). kept_by e before s) (of-kind b k);
          role = λ _. refl;
          level = λ _. max-zero p.level ∙ ap (λ (x : Shown). suc (max x.level 0)) P ∙ ap (λ (e : Body). suc (max (first_of e before s).level (second_of e before s).level)) (of-kind b k);
          low = omega arith;
        }

  module _ (k : 1 < b.kind) where
    first-true : cites_first e ≡ true
    first-true = (cite-two b.kind b.set b.first b.second k).0

    second-true : cites_second e ≡ true
    second-true = (cite-two b.kind b.set b.first b.second k).1

    pub two-late : (r : Judged) → i ≤ s.first → r ≡ unkept → Decides b before s r
    two-late = first-late first-true

    pub second-late : (r : Judged) → i ≤ s.second → r ≡ unkept → Decides b before s r
    second-late r h =
        let a = ap (λ (c : Bool). citable c before s.second) second-true ∙ late s.second h in
        let c = citable (cites_first e) before s.first in
        let f = follows e (first_of e before s) (second_of e before s) s.set in
        breaks b before s r (ap (λ (x : Bool). c && x && f) a ∙ ap (λ (x : Bool). x && f) (and-false c))

    pub two-cited : {p q : Cited} {x : Bool} {n : ℕ} → Known sets levels i → s.first < i → s.second < i → shown_of p ≡ shown s.first → shown_of q ≡ shown s.second
        → x ≡ follows e (shown_of p) (shown_of q) s.set → n ≡ max p.level q.level → Decides b before s (record { holds = x; role = b.head; level = 1 + n })
    two-cited {p} {q} known h g u v f m =
        let low = level-low known h u in
        let low' = level-low known g v in
        let P : first_of e before s ≡ shown_of p = ap (λ (c : Bool). cited c before s.first) first-true ∙ cited-is s.first h u in
        let Q : second_of e before s ≡ shown_of q = ap (λ (c : Bool). cited c before s.second) second-true ∙ cited-is s.second g v in
        let A = ap (λ (c : Bool). citable c before s.first) first-true ∙ earlier s.first h in
        let B = ap (λ (c : Bool). citable c before s.second) second-true ∙ earlier s.second g in
        let l = shown-length in
        record {
          holds = f ∙ sym (λ j. A j && B j && follows e (P j) (Q j) s.set);
          role = λ _. refl;
          level = λ _. one-add _ ∙ ap suc (m ∙ sym (λ j. max (P j).level (Q j).level));
          low = omega arith;
        }

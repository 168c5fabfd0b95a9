-- Periods within others take minutes and give none: every proof over them is one over the others, with the same level.
use mathlib.Core.Path.{◌≡◌, refl, sym, ap, ◌∙◌, subst}
use mathlib.Core.Bool.{Bool, ◌&&◌}
use mathlib.Core.List.{List, [], ◌∷◌, ◌++◌}
use Prim.Native.Nat.{ℕ, suc, max}
use lib.Dec.{T, ltb}
use lib.ListN.{length}
use Rattle.meaning.specs.Credentials.{Body, Statement, covers, Credential, credential_at}
use Rattle.meaning.specs.Proofs.{Step, Shown, cites_first, cites_second, citable, first_of, second_of, follows, showing, keeps, shown_by, all_keep, Proof, Provable}
use Rattle.meaning.specs.Within.{Within}
use Rattle.meaning.proofs.Tests.{and_in, and_left, and_right}

first-test : (a b c d e : Bool) → (T a → T b) → T (a && c && d && e) → T (b && c && d && e)
first-test a b c d e h t =
    let u = and_left (a && c && d) e t in
    let v = and_left (a && c) d u in
    and_in (b && c && d) e (and_in (b && c) d (and_in b c (h (and_left a c v)) (and_right a c v)) (and_right (a && c) d u)) (and_right (a && c && d) e t)

module _ (cs ds : List Credential) (w : Within cs ds) where
  shows : (i : ℕ) (before : List Shown) (s : Step) → showing (credential_at cs i) before s ≡ showing (credential_at ds i) before s
  shows i before s =
      ap (λ (x : Statement). record { role = x.head; set = s.set; level = suc (max (first_of x.body before s).level (second_of x.body before s).level) })
      (w.same i)

  shown-same : (before : List Shown) (ss : List Step) → shown_by cs before ss ≡ shown_by ds before ss
  shown-same before [] = refl
  shown-same before (s ∷ ss) =
      ap (λ (x : Shown). shown_by cs (before ++ x ∷ []) ss) (shows s.credential before s)
      ∙ shown-same (before ++ showing (credential_at ds s.credential) before s ∷ []) ss

  keeps-still : (m i : ℕ) (before : List Shown) (s : Step) → T (keeps m (credential_at cs i) before s) → T (keeps m (credential_at ds i) before s)
  keeps-still m i before s t =
      first-test (covers (credential_at cs i).period m) (covers (credential_at ds i).period m) _ _ _ (w.minutes i m)
      (subst (λ (x : Statement). T (kept (covers (credential_at cs i).period m) x.body)) (w.same i) t)
    where
      kept : Bool → Body → Bool
      kept b e = b && citable (cites_first e) before s.first && citable (cites_second e) before s.second && follows e (first_of e before s) (second_of e before s) s.set

  all_keep_lem : (m : ℕ) (before : List Shown) (ss : List Step) → T (all_keep cs m before ss) → T (all_keep ds m before ss)
  all_keep_lem m before [] t = tt
  all_keep_lem m before (s ∷ ss) t =
      let c : Bool = ltb s.credential (length cs) in
      let k : Bool = keeps m (credential_at cs s.credential) before s in
      let rest : Bool = all_keep cs m (before ++ showing (credential_at cs s.credential) before s ∷ []) ss in
      let l = and_left (c && k) rest t in
      and_in (ltb s.credential (length ds) && keeps m (credential_at ds s.credential) before s) _
      (and_in (ltb s.credential (length ds)) _ (subst (λ (n : ℕ). T (ltb s.credential n)) w.count (and_left c k l))
      (keeps-still m s.credential before s (and_right c k l)))
      (all_keep_lem m (before ++ showing (credential_at ds s.credential) before s ∷ []) ss (subst (λ (x : Shown). T (all_keep cs m (before ++ x ∷ []) ss)) (shows s.credential before s) (and_right (c && k) rest t)))

  -- the same steps prove the same membership, with the same level
  pub proof-kept : {m Ar X k : ℕ} {ss : List Step} → Proof cs m Ar X k ss → Proof ds m Ar X k ss
  proof-kept {m} {ss = ss} p = record { keeping = all_keep_lem m [] ss p.keeping; last = (p.last.0, sym (shown-same [] ss) ∙ p.last.1) }

  pub provable-kept : {m Ar X : ℕ} → Provable cs m Ar X → Provable ds m Ar X
  provable-kept (k, ss, p) = (k, ss, proof-kept p)

-- The entries of a table and the words of a proof's steps fit their bytes.
use mathlib.Core.Path.{subst, subst⁻¹}
use mathlib.Core.Logic.{◌⊎◌, inl, inr}
use mathlib.Core.Bool.{Bool, true, false, ◌&&◌}
use mathlib.Core.List.Memᴰ.{append_cases}
use mathlib.Core.List.Memᴰ.{head}
use mathlib.Core.List.Memᴰ.{tail}
use mathlib.Core.List.{List, [], ◌∷◌, ◌++◌, map, Memᴰ as Mem}
use Prim.Native.Nat.{ℕ, zero, suc, ◌+◌, ◌^◌, ◌≤◌, ◌<◌}
use native.Mathlib.Nat.{pow-le-pow_right}
use native.Mathlib.Omega.{arith}
use lib.Dec.{T, ltb, eqb→eq, ltb→lt}
use lib.ListN.{length, get_or, replicate, length-append}
use lib.Seq.{get_or-append_seam}
use Rattle.meaning.specs.Credentials.{Body, Credential, FitsAll, covers, credential_at, valid_at}
use Rattle.meaning.specs.Table.{Row, ends, span_count, table}
use Rattle.meaning.specs.Sequence.{S}
use Rattle.meaning.specs.Proofs.{Step, Shown, nothing, cites_first, cites_second, follows, citable, first_of, second_of, showing, keeps, all_keep}
use Rattle.meaning.proofs.Tests.{and_in, and_left, and_right}
use Rattle.meaning.proofs.ListLaws.{map-out}
use Rattle.meaning.proofs.Steps.{Sound, steps-sound}
use Rattle.meaning.proofs.Derivations.{derivable}
use Rattle.meaning.proofs.Fixpoint.{S-fits}
use Rattle.meaning.proofs.Rows.{valid-fits, members-derivable, table-bit, table-some, table_below}

-- a field of some elements and zeros after them
pub column-low : {A : Type 0} (limit : ℕ) → 0 < limit → (field : A → ℕ) (k : ℕ) (xs : List A) → ((y : A) → Mem y xs → field y < limit)
    → (x : ℕ) → Mem x (map field xs ++ replicate k 0) → x < limit
column-low limit some field k xs h x m = go (append_cases (map field xs) m)
  where
    zeros : (n : ℕ) → Mem x (replicate n 0) → x < limit
    zeros zero m = elim m [ ]
    zeros (suc n) (head e) = omega arith
    zeros (suc n) (tail m) = zeros n m

    go : Mem x (map field xs) ⊎ Mem x (replicate k 0) → x < limit
    go (inl m) = let r = map-out field xs m in subst⁻¹ (λ (y : ℕ). y < limit) r.2 (h r.0 r.1)
    go (inr m) = zeros k m

-- ---- rows

module _ (cs : List Credential) (w : FitsAll cs) (x : Row) (h : Mem x (table cs)) where
  pub row_low : (x.role < 1024) × (x.set < 2 ^ 32)
  row_low =
      let s = table-some cs h in
      let m = get_or (ends cs) s.0 0 in
      let k = (derivable cs m).0 ((members-derivable cs w m).0 ((table-bit cs h s.0).0 s.2).1) in
      S-fits (valid_at cs m) (valid-fits cs w m) k.0 x.role x.set k.1

  pub spans-low : length (ends cs) ≤ 64 → x.spans < 2 ^ 64
  spans-low l =
      let few : span_count (ends cs) ≤ 64 = omega arith in
      omega (arith, table_below cs h, pow-le-pow_right {n = 2} (omega arith) few)

-- ---- steps

citable-low : (b : Bool) (before : List Shown) (i : ℕ) → T (citable b before i) → i ≤ length before
citable-low true before i t = let l = ltb→lt i (length before) t in omega arith
citable-low false before i t = let e = eqb→eq i 0 t in omega arith

-- the credential is one of the file's, cited steps are counted below n, and the set is a membership's
pub record Low (count n : ℕ) (s : Step) : Type 0 where
  pub credential : s.credential < count
  pub first : s.first ≤ n
  pub second : s.second ≤ n
  pub set : s.set < 2 ^ 32

module _ (cs : List Credential) (w : FitsAll cs) (m n : ℕ) where
  -- one step after those before it
  module _ (before : List Shown) (u : Step) (h : Sound cs m before) where
    abbrev c : Credential
    c = credential_at cs u.credential

    abbrev e : Body
    e = c.statement.body

    abbrev shown : Shown
    shown = showing c before u

    abbrev known : Bool
    known = ltb u.credential (length cs)

    abbrev valid : Bool
    valid = covers c.period m

    abbrev first : Bool
    first = citable (cites_first e) before u.first

    abbrev second : Bool
    second = citable (cites_second e) before u.second

    abbrev gives : Bool
    gives = follows e (first_of e before u) (second_of e before u) u.set

    module _ (k : T known) (p : T (valid && first && second && gives)) where
      sound : Sound cs m (before ++ shown ∷ [])
      sound = steps-sound cs m (u ∷ []) before h (and_in (known && (valid && first && second && gives)) true (and_in known (valid && first && second && gives) k p) tt)

      holds : S (valid_at cs m) shown.level shown.role u.set
      holds =
          subst (λ (x : Shown). S (valid_at cs m) x.level x.role x.set) (get_or-append_seam before shown [] nothing)
          (sound (length before) (omega (arith, length-append before (shown ∷ []))))

      step-low : length before ≤ n → Low (length cs) n u
      step-low l =
          let vab = and_left (valid && first && second) gives p in
          let i = citable-low (cites_first e) before u.first (and_right valid first (and_left (valid && first) second vab)) in
          let j = citable-low (cites_second e) before u.second (and_right (valid && first) second vab) in
          record {
            credential = ltb→lt u.credential (length cs) k;
            first = omega arith;
            second = omega arith;
            set = (S-fits (valid_at cs m) (valid-fits cs w m) shown.level shown.role u.set holds).1;
          }

  pub steps_low : (ss : List Step) (before : List Shown) → length before + length ss ≤ n → Sound cs m before → T (all_keep cs m before ss) → (s : Step) → Mem s ss → Low (length cs) n s
  steps_low [] before l h t s i = elim i [ ]
  steps_low (u ∷ ss) before l h t s i =
      let a = known before u h in
      let b = keeps m (c before u h) before u in
      let d = all_keep cs m (before ++ shown before u h ∷ []) ss in
      let k = and_left a b (and_left (a && b) d t) in
      let p = and_right a b (and_left (a && b) d t) in
      go (step-low before u h k p (omega arith))
      (steps_low ss (before ++ shown before u h ∷ []) (omega (arith, length-append before (shown before u h ∷ []))) (sound before u h k p) (and_right (a && b) d t) s) i
    where
      go : Low (length cs) n u → (Mem s ss → Low (length cs) n s) → Mem s (u ∷ ss) → Low (length cs) n s
      go x f (head e) = subst⁻¹ (Low (length cs) n) e x
      go x f (tail i) = f i

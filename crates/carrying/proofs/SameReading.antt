-- An old file whose head passes is refused exactly as its new bytes are, and where its credentials pass, they are the credentials of these.
use mathlib.Core.Path.{◌≡◌, refl, sym, ap, ap₂, ◌∙◌}
use mathlib.Core.Logic.{◌⊎◌, inl, inr}
use mathlib.Core.Bool.{Bool, false, ◌&&◌, ◌||◌, not}
use mathlib.Core.List.Memᴰ.{head}
use mathlib.Core.List.Memᴰ.{tail}
use mathlib.Core.List.{List, [], ◌∷◌, ◌++◌, map, Memᴰ as Mem}
use Prim.Native.Nat.{ℕ, zero, suc, ◌+◌, ◌≤◌, ◌<◌}
use native.Mathlib.Omega.{arith}
use lib.Dec.{T, eqb, leb, ltb, eqb→eq, leb→le, le→leb, ltb→lt, lt→ltb, nleb→lt}
use lib.ListN.{length}
use borrow.Author.Tests.{le-ltb, eq-eqb}
use Rattle.meaning.specs.Lists.{all, each, below}
use Rattle.meaning.specs.Credentials.{◌·◌, Credential}
use Rattle.meaning.specs.Table.{ends}
use Rattle.meaning.proofs.Tests.{or_left, or_right, or_cases, eq-in, same_test, all-out}
use Rattle.meaning.proofs.ListLaws.{each_in, below_in, below_out}
use Rattle.file.specs.Refusals.{RefusalRow, Outcome, done, refused, first, ◌when◌, ◌at◌when◌}
use Rattle.file.specs.Format.{E, R, N, length_for, field, to_of, with_body, body_of, credential_in, credentials}
use Rattle.file.specs.Reading.{between, uses, in_range, zeros, undated, taken, head_rows, check_rows, ends_row, reading}
use Rattle.file.specs.Conditions.{Fresh}
use Rattle.file.proofs.First.{after, first-append, first_any, first_holds}
use Rattle.file.proofs.Serials.{taken_false}
use Rattle.codec.specs.ByteLists.{Bytes}
use Rattle.old_file.specs.OldFormat.{old_length, old_field, old_from, old_to, old_credential_in, old_credentials}
use Rattle.old_file.specs.OldReading.{old_head_rows, old_in_range, old_zeros, old_credential_rows, old_reading}
use Rattle.carrying.specs.Carrying.{lowered, forward_of}
use Rattle.carrying.proofs.OldKinds.{body_same, entities-low, names-low, unused-low}
use Rattle.carrying.proofs.Forwarded.{four_low, lowered-raised, forward-length, sizes-same, field-same, serial-is, from-same, to_is}

all_same : {p q : ℕ → Bool} (l : List ℕ) → ((j : ℕ) → Mem j l → p j ≡ q j) → all p l ≡ all q l
all_same [] h = refl
all_same (j ∷ l) h = ap₂ (λ (a b : Bool). a && b) (h j (head refl)) (all_same l (λ i m. h i (tail m)))

map_same : {B : Type 0} {p q : ℕ → B} (l : List ℕ) → ((j : ℕ) → Mem j l → p j ≡ q j) → map p l ≡ map q l
map_same [] h = refl
map_same (j ∷ l) h = ap₂ (λ (a : _) (b : List _). a ∷ b) (h j (head refl)) (map_same l (λ i m. h i (tail m)))

-- 7 of the lowered `to` is 7 of the old one
pub seven-same : (to from : ℕ) → to < 4294967296 → ltb (lowered to) from || eqb (lowered to) 4294967295 ≡ leb to from
seven-same zero from h =
    same_test (ltb 4294967295 from || eqb 4294967295 4294967295) (leb 0 from) (λ t. le→leb 0 from (omega arith))
    (λ t. or_right (ltb 4294967295 from) (eqb 4294967295 4294967295) (eq-in 4294967295 4294967295 refl))
seven-same (suc to) from h =
    same_test (ltb to from || eqb to 4294967295) (leb (suc to) from) (λ t. go (or_cases (ltb to from) (eqb to 4294967295) t))
    (λ t. or_left (ltb to from) (eqb to 4294967295) (lt→ltb to from (let l = leb→le (suc to) from t in omega arith)))
  where
    go : T (ltb to from) ⊎ T (eqb to 4294967295) → T (leb (suc to) from)
    go (inl t) = le→leb (suc to) from (let l = ltb→lt to from t in omega arith)
    go (inr t) = let e = eqb→eq to 4294967295 t in absurd (omega arith)

-- rows that end with one that does not hold
idle : {A : Type 0} (xs rest : List RefusalRow) (n p : ℕ) (a : A) → first (xs ++ (n at p when false ∷ []) ++ rest) a ≡ first (xs ++ rest) a
idle {A} xs rest n p a =
    first-append {A = ℕ} {B = A} (xs ++ (n at p when false ∷ [])) rest 0 a
    ∙ ap (λ (o : Outcome ℕ). after {A = ℕ} {B = A} o (first rest a)) (first-append {A = ℕ} {B = ℕ} xs (n at p when false ∷ []) 0 0 ∙ sym (first_any {A = ℕ} {B = ℕ} xs 0 0))
    ∙ sym (first-append {A = ℕ} {B = A} xs rest 0 a)

module _ (f : List ℕ) (few : N f ≤ 256) (long : length f ≡ old_length (N f)) (small : Bytes f) where
  abbrev g : List ℕ
  g = forward_of f

  -- ---- the head

  pub head-same : head_rows g ≡ old_head_rows f
  head-same =
      let s = sizes-same f few long in
      let l = forward-length f few long in
      let a : ltb (length g) 6 ≡ ltb (length f) 6 = le-ltb (length g) 6 (omega arith) ∙ sym (le-ltb (length f) 6 (omega arith)) in
      let b : between 1 32 (E g) && between 1 32 (R g) && between 0 256 (N g) ≡ between 1 32 (E f) && between 1 32 (R f) && between 0 256 (N f) =
      λ x. between 1 32 (s.0 x) && between 1 32 (s.1 x) && between 0 256 (s.2 x) in
      let c : eqb (length g) (length_for (N g)) ≡ eqb (length f) (old_length (N f)) =
      eq-eqb _ _ (l ∙ ap length_for (sym s.2)) ∙ sym (eq-eqb _ _ long) in
      λ x. 1 when (a x) ∷ 2 when (not (b x)) ∷ 3 when (not (c x)) ∷ []

  -- ---- a credential

  module _ (i : ℕ) (low : i < N f) where
    fields : (j : ℕ) → j < 8 → field g i j ≡ old_field f i j
    fields = field-same f few long i low

    abbrev kind : ℕ
    kind = old_field f i 0

    range_same : in_range g i ≡ old_in_range f i
    range_same =
        let s = sizes-same f few long in
        let k = fields 0 (omega arith) in
        (λ x. all (λ j. ltb (field g i j) (s.0 x)) (uses (k x)).entities && all (λ j. ltb (field g i j) (s.1 x)) (uses (k x)).names)
        ∙ ap₂ (λ (a b : Bool). a && b)
        (all_same (uses kind).entities (λ j m. ap (λ (v : ℕ). ltb v (E f)) (fields j (entities-low kind j m))))
        (all_same (uses kind).names (λ j m. ap (λ (v : ℕ). ltb v (R f)) (fields j (names-low kind j m))))

    zeros-same : zeros g i ≡ old_zeros f i
    zeros-same =
        let k = fields 0 (omega arith) in
        (λ x. all (λ j. eqb (field g i j) 0) (uses (k x)).unused)
        ∙ all_same (uses kind).unused (λ j m. ap (λ (v : ℕ). eqb v 0) (fields j (unused-low kind j m)))

    pub dated-same : undated g i ≡ leb (old_to f i) (old_from f i)
    dated-same =
        let t = to_is f few long i low small in
        let s = from-same f few long i low in
        (λ x. ltb (t x) (s x) || eqb (t x) 4294967295) ∙ seven-same (old_to f i) (old_from f i) (four_low f small _)

    pub fresh : Fresh g i
    fresh = record {
      some = λ e. let s = serial-is f few long i low in absurd (omega arith);
      new = λ j l e. let s = serial-is f few long i low in let t = serial-is f few long j (omega arith) in absurd (omega arith);
    }

    untaken : taken g i ≡ false
    untaken = taken_false g i fresh

    rows_same : check_rows g i ≡ old_credential_rows f i ++ (17 at i when false ∷ [])
    rows_same =
        let k = fields 0 (omega arith) in
        λ x. 4 at i when (ltb 5 (k x)) ∷ 5 at i when (not (range_same x)) ∷ 6 at i when (not (zeros-same x)) ∷ 7 at i when (dated-same x) ∷ 17 at i when (untaken x) ∷ []

    -- the credential, where `to` is not 0
    credential-same : 1 ≤ old_to f i → credential_in g i ≡ old_credential_in f i
    credential-same some =
        let f0 = fields 0 (omega arith) in
        let f1 = fields 1 (omega arith) in
        let f2 = fields 2 (omega arith) in
        let f3 = fields 3 (omega arith) in
        let f4 = fields 4 (omega arith) in
        let f5 = fields 5 (omega arith) in
        let f6 = fields 6 (omega arith) in
        let s = from-same f few long i low in
        let u : to_of g i + 1 ≡ old_to f i = ap (λ (t : ℕ). t + 1) (to_is f few long i low small) ∙ lowered-raised (old_to f i) some in
        (λ x. with_body (f1 x · f2 x) (record { from = s x; until = u x }) (body_of (f0 x) (f3 x) (f4 x) (f5 x) (f6 x)))
        ∙ body_same _ _ (old_field f i 0) _ _ _ _

  -- ---- all credentials

  each-idle : {A : Type 0} (l : List ℕ) (rest : List RefusalRow) (a : A) → ((i : ℕ) → Mem i l → i < N f)
      → first (each (check_rows g) l ++ rest) a ≡ first (each (old_credential_rows f) l ++ rest) a
  each-idle [] rest a h = refl
  each-idle {A} (i ∷ l) rest a h =
      let q : each (check_rows g) (i ∷ l) ++ rest ≡ old_credential_rows f i ++ (17 at i when false ∷ []) ++ (each (check_rows g) l ++ rest) =
      ap (λ (r : List RefusalRow). r ++ each (check_rows g) l ++ rest) (rows_same i (h i (head refl))) in
      ap (λ (r : List RefusalRow). first r a) q
      ∙ idle (old_credential_rows f i) (each (check_rows g) l ++ rest) 17 i a
      ∙ first-append {A = ℕ} {B = A} (old_credential_rows f i) (each (check_rows g) l ++ rest) 0 a
      ∙ ap (λ (o : Outcome A). after {A = ℕ} {B = A} (first (old_credential_rows f i) 0) o) (each-idle l rest a (λ j m. h j (tail m)))
      ∙ sym (first-append {A = ℕ} {B = A} (old_credential_rows f i) (each (old_credential_rows f) l ++ rest) 0 a)

  abbrev old_rows : List RefusalRow
  old_rows = each (old_credential_rows f) (below (N f))

  pub to_some : ◌≡◌ {A = Outcome ℕ} (first old_rows 0) (done 0) → (i : ℕ) → i < N f → old_from f i < old_to f i
  to_some e i l =
      let m : Mem (7 at i when (leb (old_to f i) (old_from f i))) old_rows = each_in (old_credential_rows f) (below_in (N f) i l) (tail (tail (tail (head refl)))) in
      nleb→lt (old_to f i) (old_from f i) (all-out (λ r. not r.holds) old_rows (first_holds old_rows 0 0 e) m)

  pub credentials-same : ((i : ℕ) → i < N f → old_from f i < old_to f i) → credentials g ≡ old_credentials f
  unfolding credentials old_credentials
  credentials-same dated =
      ap (λ (n : ℕ). map (credential_in g) (below n)) (sizes-same f few long).2
      ∙ map_same (below (N f)) (λ i m. let l = below_out (N f) m in credential-same i l (let h = dated i l in omega arith))

  -- ---- the whole reading

  pub same-reading : {A : Type 0} (a : A) → first (reading g) a ≡ first (old_reading f) a
  unfolding reading old_reading
  same-reading {A} a =
      let s = sizes-same f few long in
      let last : List RefusalRow = ends_row g ∷ [] in
      let old_last : List RefusalRow = 8 when (ltb 64 (length (ends (old_credentials f)))) ∷ [] in
      ap₂ (λ (h : List RefusalRow) (n : ℕ). first (h ++ (each (check_rows g) (below n) ++ last)) a) head-same s.2
      ∙ first-append {A = ℕ} {B = A} (old_head_rows f) (each (check_rows g) (below (N f)) ++ last) 0 a
      ∙ ap (λ (o : Outcome A). after {A = ℕ} {B = A} (first (old_head_rows f) 0) o)
      (each-idle (below (N f)) last a (λ i m. below_out (N f) m) ∙ first-append {A = ℕ} {B = A} old_rows last 0 a
      ∙ go (first old_rows 0) refl ∙ sym (first-append {A = ℕ} {B = A} old_rows old_last 0 a))
      ∙ sym (first-append {A = ℕ} {B = A} (old_head_rows f) (old_rows ++ old_last) 0 a)
    where
      go : (o : Outcome ℕ) → first old_rows 0 ≡ o
          → after {A = ℕ} {B = A} o (first (ends_row g ∷ []) a) ≡ after {A = ℕ} {B = A} o (first (8 when (ltb 64 (length (ends (old_credentials f)))) ∷ []) a)
      go (refused n p) e = refl
      go (done m) e =
          let z : ◌≡◌ {A = Outcome ℕ} (first old_rows 0) (done 0) = first_any {A = ℕ} {B = ℕ} old_rows 0 0 ∙ ap (λ (o : Outcome ℕ). after {A = ℕ} {B = ℕ} o (done 0)) e in
          ap (λ (cs : List Credential). first (8 when (ltb 64 (length (ends cs))) ∷ []) a) (credentials-same (to_some z))

  -- with further rows behind
  pub same_first : {A : Type 0} (more : List RefusalRow) (a : A) → first (old_reading f ++ more) a ≡ first (reading g ++ more) a
  same_first {A} more a =
      first-append {A = ℕ} {B = A} (old_reading f) more 0 a
      ∙ ap (λ (o : Outcome ℕ). after {A = ℕ} {B = A} o (first more a)) (sym (same-reading 0))
      ∙ sym (first-append {A = ℕ} {B = A} (reading g) more 0 a)

-- The completed table: rows that ascend and that are sound and closed in every span are `table cs`, and what the table writes is what is derivable.
use mathlib.Core.Path.{◌≡◌, refl, sym, ap, ap₂, ◌∙◌, subst, subst⁻¹}
use mathlib.Core.Logic.{◌⊎◌, inl, inr, ◌↔◌}
use mathlib.Core.Bool.{Bool, true, false, ◌&&◌}
use mathlib.Core.List.Memᴰ.{cases_cons}
use mathlib.Core.List.Memᴰ.{head}
use mathlib.Core.List.Memᴰ.{tail}
use mathlib.Core.List.{List, [], ◌∷◌, map, Memᴰ as Mem}
use Prim.Native.Nat.{ℕ, zero, suc, ◌^◌, ◌<◌, zero-le, suc-le-suc}
use native.Mathlib.Nat.{le_of_suc-le-suc, not-suc-le-zero}
use native.Mathlib.Omega.{arith}
use lib.Dec.{T, eqb, eqb→eq}
use lib.ListN.{length, get_or, length-map}
use Rattle.meaning.specs.Lists.{each, sort, Ascending}
use Rattle.meaning.specs.Credentials.{Credential, ◌during◌, valid_at, Fits, FitsAll}
use Rattle.meaning.specs.Rules.{Derivable}
use Rattle.meaning.specs.Sequence.{Relation, S}
use Rattle.meaning.specs.Members.{Membership, member, order, has, members, Before, In}
use Rattle.meaning.specs.Table.{bit, ends, span_count, in_span, starts, in_spans, by_span, digit, spans_of, Row, row_of, rows_of, table, written, RowsAscending}
use Rattle.meaning.proofs.Tests.{and_in, and_left, and_right, eq-in, any-in, any_out}
use Rattle.meaning.proofs.ListLaws.{each_in, each-out, map-in, map-out, cast, place-in, place_out}
use Rattle.meaning.proofs.SortLaws.{Within, sort-in, sort-out, sort-ascending, same-members}
use Rattle.meaning.proofs.OrderLaws.{same-membership, memberships, has_in, has-out}
use Rattle.meaning.proofs.Levels.{Next, next_more}
use Rattle.meaning.proofs.Derivations.{valid-out, derivable}
use Rattle.meaning.proofs.Fixpoint.{closure-all}
use Rattle.meaning.proofs.Bits.{bit-below-two, bit-digit-zero, bit-digit-suc, bit-of-zero, bit-ext, bits_below}
use Rattle.meaning.proofs.Spans.{span-out, in-spans, starts-length, starts-at, span-derivable, span_of}

-- ---- the members at a minute

module _ (cs : List Credential) (w : FitsAll cs) (m : ℕ) where
  pub valid-fits : Fits (valid_at cs m)
  valid-fits s h = let v = valid-out cs m h in w (s during v.0) v.1

  pub members-ascending : Ascending Before (members cs m)
  members-ascending = (closure-all (valid_at cs m) valid-fits).ascending

  pub members-derivable : {Ar X : ℕ} → In (members cs m) Ar X ↔ Derivable cs m Ar X
  members-derivable {Ar} {X} =
      let e = (closure-all (valid_at cs m) valid-fits).exact Ar X in
      ((λ h. (derivable cs m).1 (e.0 h)), λ h. e.1 ((derivable cs m).0 h))

-- ---- rows

abbrev pub key : Row → Membership
key x = member x.role x.set

-- some row has the role and the set, and its bit i is set
abbrev pub RowAt : List Row → ℕ → Relation
RowAt R i Ar X = (x : Row) × Mem x R × (x.role ≡ Ar) × (x.set ≡ X) × (bit x.spans i ≡ 1)

-- what the rows write of a minute
pub written_at : (es : List ℕ) (R : List Row) (Ar X m : ℕ) → T (written es R Ar X m) ↔ ((i : ℕ) × RowAt R i Ar X × T (in_span es i m))
written_at es R Ar X m = (to, back)
  where
    says : Row → Bool
    says x = eqb x.role Ar && eqb x.set X && in_spans es x.spans m

    to : T (written es R Ar X m) → (i : ℕ) × RowAt R i Ar X × T (in_span es i m)
    to t =
        let r = any_out says R t in
        let x = r.0 in
        let u = and_left (eqb x.role Ar && eqb x.set X) (in_spans es x.spans m) r.2 in
        let s = (in-spans es x.spans m).0 (and_right (eqb x.role Ar && eqb x.set X) (in_spans es x.spans m) r.2) in
        (s.0, (x, r.1, eqb→eq _ _ (and_left (eqb x.role Ar) (eqb x.set X) u), eqb→eq _ _ (and_right (eqb x.role Ar) (eqb x.set X) u), s.1), s.2)

    back : (i : ℕ) × RowAt R i Ar X × T (in_span es i m) → T (written es R Ar X m)
    back (i, (x, h, e, f, b), t) =
        any-in says h (and_in (eqb x.role Ar && eqb x.set X) (in_spans es x.spans m)
        (and_in (eqb x.role Ar) (eqb x.set X) (eq-in _ _ e) (eq-in _ _ f)) ((in-spans es x.spans m).1 (i, b, t)))

-- a role and a set have one row at most
pub one-row : (R : List Row) → RowsAscending R → {x y : Row} → Mem x R → Mem y R → key x ≡ key y → x ≡ y
one-row [] a h k e = elim h [ ]
one-row (z ∷ R) a {x} {y} h k e = go (cases_cons h) (cases_cons k) (λ p q. one-row R a.1 p q e)
  where
    go : (x ≡ z) ⊎ Mem x R → (y ≡ z) ⊎ Mem y R → (Mem x R → Mem y R → x ≡ y) → x ≡ y
    go (inl p) (inl q) rec = p ∙ sym q
    go (inl p) (inr q) rec = absurd (memberships.irrefl (sym (ap key p) ∙ e) (a.0 y q))
    go (inr p) (inl q) rec = absurd (memberships.irrefl (sym (ap key q) ∙ sym e) (a.0 x p))
    go (inr p) (inr q) rec = rec p q

keys-ascending : (R : List Row) → RowsAscending R → Ascending Before (map key R)
keys-ascending [] a = tt
keys-ascending (x ∷ R) a = ((λ q m. let r = map-out key R m in subst⁻¹ (Before (key x)) r.2 (a.0 r.0 r.1)), keys-ascending R a.1)

map-ascending : (f : Membership → Row) → ((p : Membership) → key (f p) ≡ p) → (l : List Membership) → Ascending Before l → RowsAscending (map f l)
map-ascending f e [] a = tt
map-ascending f e (p ∷ l) a = (
  (λ y m. let r = map-out f l m in
      subst⁻¹ (Before (key (f p))) (ap key r.2 ∙ e r.0) (subst⁻¹ (λ q. Before q r.0) (e p) (a.0 r.0 r.1))),
  map-ascending f e l a.1,
)

map_back : (f : Membership → Row) (R : List Row) → ((x : Row) → Mem x R → x ≡ f (key x)) → R ≡ map f (map key R)
map_back f [] h = refl
map_back f (x ∷ R) h = ap₂ {C = List Row} (λ a b. a ∷ b) (h x (head refl)) (map_back f R (λ y i. h y (tail i)))

-- ---- the rows of lists of memberships, one list for each span

pub digit-below-two : (b : Bool) → digit b < 2
digit-below-two true = suc-le-suc (suc-le-suc zero-le)
digit-below-two false = suc-le-suc zero-le

pub digit-out : (b : Bool) → digit b ≡ 1 → T b
digit-out true e = tt
digit-out false e = absurd (omega arith)

pub digit-in : (b : Bool) → T b → digit b ≡ 1
digit-in true t = refl
digit-in false t = absurd t

spans-digit : (p : Membership) (Ms : List (List Membership)) (i : ℕ) → bit (spans_of p Ms) i ≡ digit (has p (get_or Ms i []))
spans-digit p [] i = bit-of-zero i
spans-digit p (M ∷ Ms) zero = bit-digit-zero (spans_of p Ms) (digit (has p M)) (digit-below-two (has p M))
spans-digit p (M ∷ Ms) (suc i) = bit-digit-suc (spans_of p Ms) (digit (has p M)) i (digit-below-two (has p M)) ∙ spans-digit p Ms i

pub spans-bit : (p : Membership) (Ms : List (List Membership)) (i : ℕ) → (bit (spans_of p Ms) i ≡ 1) ↔ Mem p (get_or Ms i [])
spans-bit p Ms i =
    let M = get_or Ms i [] in
    ((λ e. has-out p M (digit-out (has p M) (sym (spans-digit p Ms i) ∙ e))), λ h. spans-digit p Ms i ∙ digit-in (has p M) (has_in p h))

-- a list that has a member is there
there : {p : Membership} (Ms : List (List Membership)) (i : ℕ) → Mem p (get_or Ms i []) → i < length Ms
there [] i h = elim h [ ]
there (M ∷ Ms) zero h = suc-le-suc zero-le
there (M ∷ Ms) (suc i) h = suc-le-suc (there Ms i h)

same-digit : (a b : ℕ) → a < 2 → b < 2 → (a ≡ 1 → b ≡ 1) → (b ≡ 1 → a ≡ 1) → a ≡ b
same-digit zero zero h k f g = refl
same-digit zero (suc b) h k f g = let e = g (omega arith) in absurd (omega arith)
same-digit (suc a) b h k f g = let e = f (omega arith) in omega arith

module _ (Ms : List (List Membership)) where
  abbrev some : List Membership
  some = sort order (each (λ M. M) Ms)

  some_in : {p : Membership} (i : ℕ) → Mem p (get_or Ms i []) → Mem p some
  some_in i h = sort-in memberships (each_in (λ M. M) (place-in [] Ms i (there Ms i h)) h)

  some_out : {p : Membership} → Mem p some → (i : ℕ) × Mem p (get_or Ms i [])
  some_out {p} h =
      let r = each-out (λ M. M) Ms (sort-out memberships (each (λ M. M) Ms) h) in
      let q = place_out [] r.1 in
      (q.0, subst⁻¹ (Mem p) q.2 r.2)

  rows-ascending : RowsAscending (rows_of Ms)
  rows-ascending = map-ascending (row_of Ms) (λ p. refl) some (sort-ascending memberships (each (λ M. M) Ms))

  rows-bit : {x : Row} → Mem x (rows_of Ms) → (i : ℕ) → (bit x.spans i ≡ 1) ↔ Mem (key x) (get_or Ms i [])
  rows-bit {x} h i =
      let r = map-out (row_of Ms) some h in
      subst⁻¹ (λ (y : Row). (bit y.spans i ≡ 1) ↔ Mem (key y) (get_or Ms i [])) r.2 (spans-bit r.0 Ms i)

  rows-some : {x : Row} → Mem x (rows_of Ms) → (i : ℕ) × (bit x.spans i ≡ 1)
  rows-some h =
      let r = map-out (row_of Ms) some h in
      let s = some_out r.1 in
      (s.0, (rows-bit h s.0).1 (cast (ap key r.2) s.1))

  rows_at : (i : ℕ) {Ar X : ℕ} → RowAt (rows_of Ms) i Ar X ↔ In (get_or Ms i []) Ar X
  rows_at i {Ar} {X} = (to, back)
    where
      to : RowAt (rows_of Ms) i Ar X → In (get_or Ms i []) Ar X
      to (x, h, e, f, b) = cast (same-membership (sym e) (sym f)) ((rows-bit h i).0 b)

      back : In (get_or Ms i []) Ar X → RowAt (rows_of Ms) i Ar X
      back h = let r = map-in (row_of Ms) (some_in i h) in (_, r, refl, refl, (rows-bit r i).1 h)

  -- ascending rows without an empty one are determined by what they have at each bit
  rows-exact : (R : List Row) → RowsAscending R → ((x : Row) → Mem x R → (i : ℕ) × (bit x.spans i ≡ 1))
      → ((i Ar X : ℕ) → RowAt R i Ar X ↔ In (get_or Ms i []) Ar X) → R ≡ rows_of Ms
  rows-exact R a n e = map_back (row_of Ms) R same ∙ ap (map (row_of Ms)) keys
    where
      listed : {x : Row} → Mem x R → (i : ℕ) → bit x.spans i ≡ 1 → Mem (key x) (get_or Ms i [])
      listed {x} h i b = (e i x.role x.set).0 (x, h, refl, refl, b)

      set : {x : Row} → Mem x R → (i : ℕ) → Mem (key x) (get_or Ms i []) → bit x.spans i ≡ 1
      set {x} h i m =
          let r = (e i x.role x.set).1 m in
          subst (λ (y : Row). bit y.spans i ≡ 1) (one-row R a r.1 h (same-membership r.2 r.3)) r.4

      spans : {x : Row} → Mem x R → x.spans ≡ spans_of (key x) Ms
      spans {x} h =
          bit-ext _ _ (λ i. same-digit _ _ (bit-below-two _ i) (bit-below-two _ i)
          (λ b. (spans-bit (key x) Ms i).1 (listed h i b)) (λ b. set h i ((spans-bit (key x) Ms i).0 b)))

      same : (x : Row) → Mem x R → x ≡ row_of Ms (key x)
      same x h = λ i. record { role = x.role; set = x.set; spans = spans h i }

      to : Within (map key R) some
      to p m = let r = map-out key R m in let b = n r.0 r.1 in cast r.2 (some_in b.0 (listed r.1 b.0 b.1))

      back : Within some (map key R)
      back p m = let s = some_out m in let r = (e s.0 p.role p.set).1 s.1 in cast (same-membership (sym r.2) (sym r.3)) (map-in key r.1)

      keys : map key R ≡ some
      keys = same-members memberships (map key R) some (keys-ascending R a) (sort-ascending memberships (each (λ M. M) Ms)) to back

-- ---- the table

map_at : {A : Type 0} (f : ℕ → List A) (l : List ℕ) (i : ℕ) → i < length l → get_or (map f l) i [] ≡ f (get_or l i 0)
map_at f [] i h = absurd (not-suc-le-zero h)
map_at f (x ∷ l) zero h = refl
map_at f (x ∷ l) (suc i) h = map_at f l i (le_of_suc-le-suc h)

module _ (cs : List Credential) where
  abbrev at : ℕ → ℕ
  at i = get_or (ends cs) i 0

  count : length (by_span cs) ≡ span_count (ends cs)
  count = length-map (starts (ends cs)) (members cs) ∙ starts-length (ends cs)

  by_span_lem : (i : ℕ) → i < span_count (ends cs) → get_or (by_span cs) i [] ≡ members cs (at i)
  by_span_lem i h = map_at (members cs) (starts (ends cs)) i (rw starts-length h) ∙ ap (members cs) (starts-at (ends cs) i h)

  span-list : (i : ℕ) {p : Membership} → Mem p (get_or (by_span cs) i []) ↔ ((i < span_count (ends cs)) × Mem p (members cs (at i)))
  span-list i {p} =
      ((λ h. let l = subst (λ (n : ℕ). i < n) count (there (by_span cs) i h) in (l, subst (Mem p) (by_span_lem i l) h)), λ h. subst⁻¹ (Mem p) (by_span_lem i h.0) h.1)

  pub table-ascending : RowsAscending (table cs)
  unfolding table
  table-ascending = rows-ascending (by_span cs)

  -- a set bit is a span at whose minutes the membership is there
  pub table-bit : {x : Row} → Mem x (table cs) → (i : ℕ) → (bit x.spans i ≡ 1) ↔ ((i < span_count (ends cs)) × Mem (key x) (members cs (get_or (ends cs) i 0)))
  unfolding table
  table-bit h i =
      let r = rows-bit (by_span cs) h i in
      let s = span-list i in
      ((λ b. s.0 (r.0 b)), λ m. r.1 (s.1 m))

  -- no row without a minute
  pub table-some : {x : Row} → Mem x (table cs) → (i : ℕ) × (i < span_count (ends cs)) × (bit x.spans i ≡ 1)
  unfolding table
  table-some h = let r = rows-some (by_span cs) h in (r.0, ((table-bit h r.0).0 r.1).0, r.1)

  pub table_below : {x : Row} → Mem x (table cs) → x.spans < 2 ^ span_count (ends cs)
  table_below {x} h =
      bits_below (span_count (ends cs)) x.spans
      (λ i l. same-digit (bit x.spans i) 0 (bit-below-two x.spans i) (omega arith) (λ b. absurd (omega (arith, ((table-bit h i).0 b).0))) (λ e. absurd (omega arith)))

  pub table_at : (i : ℕ) {Ar X : ℕ} → RowAt (table cs) i Ar X ↔ ((i < span_count (ends cs)) × In (members cs (get_or (ends cs) i 0)) Ar X)
  unfolding table
  table_at i =
      let r = rows_at (by_span cs) i in
      let s = span-list i in
      ((λ h. s.0 (r.0 h)), λ h. r.1 (s.1 h))

  -- Rows as the completion leaves them. `closed`: what the statements valid in span i give from the rows of span i, span i has.
  pub record Completed (R : List Row) : Type 0 where
    pub ascending : RowsAscending R
    pub nonempty : (x : Row) → Mem x R → (i : ℕ) × (bit x.spans i ≡ 1)
    pub sound : (x : Row) → Mem x R → (i : ℕ) → bit x.spans i ≡ 1 → (i < span_count (ends cs)) × Derivable cs (get_or (ends cs) i 0) x.role x.set
    pub closed : (i : ℕ) → i < span_count (ends cs) → (Ar X : ℕ) → Next (valid_at cs (get_or (ends cs) i 0)) (RowAt R i) Ar X → RowAt R i Ar X

  module _ (w : FitsAll cs) where
    pub completed-table : {R : List Row} → Completed R → R ≡ table cs
    unfolding table
    completed-table {R} c = rows-exact (by_span cs) R c.ascending c.nonempty (λ i Ar X. (to i Ar X, back i Ar X))
      where
        to : (i Ar X : ℕ) → RowAt R i Ar X → In (get_or (by_span cs) i []) Ar X
        to i Ar X (x, h, e, f, b) =
            let d = c.sound x h i b in
            (span-list i).1 (d.0, cast (same-membership (sym e) (sym f)) ((members-derivable cs w (at i)).1 d.1))

        -- by induction on the level
        level : (i : ℕ) → i < span_count (ends cs) → (k Ar X : ℕ) → S (valid_at cs (at i)) k Ar X → RowAt R i Ar X
        level i l zero Ar X h = absurd h
        level i l (suc k) Ar X h = c.closed i l Ar X (next_more (valid_at cs (at i)) (level i l k) Ar X h)

        back : (i Ar X : ℕ) → In (get_or (by_span cs) i []) Ar X → RowAt R i Ar X
        back i Ar X h =
            let s = (span-list i).0 h in
            let k = (derivable cs (at i)).0 ((members-derivable cs w (at i)).0 s.1) in
            level i s.0 k.0 Ar X k.1

    -- written validity is derivability
    pub written-derivable : (m Ar X : ℕ) → T (written (ends cs) (table cs) Ar X m) ↔ Derivable cs m Ar X
    written-derivable m Ar X = (to, back)
      where
        to : T (written (ends cs) (table cs) Ar X m) → Derivable cs m Ar X
        to t =
            let (i, r, u) = (written_at (ends cs) (table cs) Ar X m).0 t in
            (span-derivable cs i m u).1 ((members-derivable cs w (at i)).0 ((table_at i).0 r).1)

        back : Derivable cs m Ar X → T (written (ends cs) (table cs) Ar X m)
        back d =
            let s = span_of cs d in
            let h = (members-derivable cs w (at s.0)).1 ((span-derivable cs s.0 m s.1).0 d) in
            (written_at (ends cs) (table cs) Ar X m).1 (s.0, (table_at s.0).1 ((span-out (ends cs) s.0 m s.1).0, h), s.1)

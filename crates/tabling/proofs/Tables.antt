-- Closed entries with nothing left to do are the completed table; more memberships than the limit are more rows than the limit.
use mathlib.Core.Path.{◌≡◌, refl, sym, ap, ◌∙◌, subst, subst⁻¹}
use mathlib.Core.Logic.{◌↔◌}
use mathlib.Core.Bool.{Bool, true, false}
use mathlib.Core.List.{List, [], map, Memᴰ as Mem}
use Prim.Native.Nat.{ℕ, zero, suc, ◌^◌, ◌≤◌, ◌<◌}
use native.Mathlib.Nat.{le_of_suc-le-suc}
use native.Mathlib.Omega.{arith}
use lib.Dec.{T, ltb, ltb→lt}
use lib.ListN.{length, get_or, length-map}
use borrow.Author.Tests.{lt-ltb}
use Rattle.meaning.specs.Lists.{if, below}
use Rattle.meaning.specs.Credentials.{Statement, Credential, valid_at, FitsAll}
use Rattle.meaning.specs.Rules.{Derivable}
use Rattle.meaning.specs.Sequence.{S}
use Rattle.meaning.specs.Table.{bit, Row, ends, span_count, table, RowsAscending}
use Rattle.meaning.proofs.Levels.{gives_more, Next}
use Rattle.meaning.proofs.Derivations.{complete}
use Rattle.meaning.specs.Members.{Membership, member}
use Rattle.meaning.proofs.ListLaws.{map-in, map-out, cast}
use Rattle.meaning.proofs.SortLaws.{Within, within-length}
use Rattle.meaning.proofs.OrderLaws.{memberships}
use Rattle.file.proofs.Credentials.{get_d-map-lt, length-below, get_d-below}
use Rattle.meaning.proofs.Rows.{key, RowAt, Completed, completed-table, table_at, table-ascending, members-derivable}
use Rattle.store.specs.Entries.{key_of, role_in, set_in, Stored}
use Rattle.store.proofs.Keys.{role-of-key, set-of-key, set_below, key-of-parts}
use Rattle.heads.proofs.Gaining.{some-bit}
use Rattle.closure.specs.Closure.{Found, Closed, Finished, TooMany}
use Rattle.loading.specs.Loading.{by_span}
use Rattle.writing.specs.Rows.{row_at, rows_of}
use Rattle.writing.proofs.Gathering.{Distinct, keys-ascending, rows-gathered, rows-length}

-- without statements nothing is given
none-given : (k Ar X : ℕ) → S [] k Ar X → ⊥
none-given zero Ar X h = h
none-given (suc k) Ar X (s, i, e, g) = elim i [ ]

module _ (cs : List Credential) (w : FitsAll cs) where
  abbrev es : List ℕ
  es = ends cs

  abbrev ss : ℕ → List Statement
  ss = by_span cs

  -- what is given in a span can be derived at its first minute
  pub given-derivable : (s k Ar X : ℕ) → S (ss s) k Ar X → (s < span_count es) × Derivable cs (get_or es s 0) Ar X
  given-derivable s k Ar X h = go (ltb s (span_count es)) refl h
    where
      go : (b : Bool) → ltb s (span_count es) ≡ b → S (if b (valid_at cs (get_or es s 0)) []) k Ar X → (s < span_count es) × Derivable cs (get_or es s 0) Ar X
      go true e g = (ltb→lt s (span_count es) (subst⁻¹ T e tt), complete cs (get_or es s 0) k Ar X g)
      go false e g = absurd (none-given k Ar X g)

  module _ (keys spans slots links done : List ℕ) (n : ℕ) (stored : Stored keys slots links n) (some : (i : ℕ) → i < n → get_or spans i 0 ≡ 0 → ⊥)
      (closed : Closed ss keys spans done n) (finished : Finished spans done n)
      (R : List Row) (ascending : RowsAscending R) (exact : (x : Row) → Mem x R ↔ ((i : ℕ) × (i < n) × (x ≡ row_at keys spans i))) where
    -- a row in span s is an entry with that span
    row-found : (s Ar X : ℕ) → RowAt R s Ar X → Found keys spans n s Ar X
    row-found s Ar X (x, m, a, c, b) =
        let e = (exact x).0 m in
        let i = e.0 in
        let p : role_in (get_or keys i 0) ≡ Ar = sym (ap (λ (y : Row). y.role) e.2) ∙ a in
        let q : set_in (get_or keys i 0) ≡ X = sym (ap (λ (y : Row). y.set) e.2) ∙ c in (
          subst (λ (y : ℕ). y < 1024) p (stored.roles i e.1),
          subst (λ (y : ℕ). y < 2 ^ 32) q (set_below (get_or keys i 0)),
          (i, e.1, sym (key-of-parts (get_or keys i 0)) ∙ (λ t. key_of (p t) (q t)), sym (ap (λ (y : Row). bit y.spans s) e.2) ∙ b),
        )

    found-row : (s Ar X : ℕ) → Found keys spans n s Ar X → RowAt R s Ar X
    found-row s Ar X (a, l, (i, h, e, b)) =
        (row_at keys spans i, (exact (row_at keys spans i)).1 (i, h, refl), ap role_in e ∙ role-of-key Ar X l, ap set_in e ∙ set-of-key Ar X l, b)

    -- all spans are done
    found-done : (s Ar X : ℕ) → Found keys spans n s Ar X → Found keys done n s Ar X
    found-done s Ar X (a, l, (i, h, e, b)) = (a, l, (i, h, e, ap (λ (y : ℕ). bit y s) (finished i h) ∙ b))

    pub completed : Completed cs R
    completed = record {
      ascending = ascending;
      nonempty = λ x m. (
          let e = (exact x).0 m in
          let b = some-bit (get_or spans e.0 0) (some e.0 e.1) in
          (b.0, ap (λ (y : Row). bit y.spans b.0) e.2 ∙ b.1));
      sound = λ x m s b. sound x m s b;
      closed = λ s l Ar X g. step s l Ar X g;
    }
      where
        sound : (x : Row) → Mem x R → (s : ℕ) → bit x.spans s ≡ 1 → (s < span_count es) × Derivable cs (get_or es s 0) x.role x.set
        sound x m s b =
            let e = (exact x).0 m in
            let i = e.0 in
            let g = closed.sound (get_or keys i 0) s (i, e.1, refl, sym (ap (λ (y : Row). bit y.spans s) e.2) ∙ b) in
            let d = given-derivable s g.0 (role_in (get_or keys i 0)) (set_in (get_or keys i 0)) g.1 in
            (d.0, subst⁻¹ (λ (y : Row). Derivable cs (get_or es s 0) y.role y.set) e.2 d.1)

        step : (s : ℕ) → s < span_count es → (Ar X : ℕ) → Next (valid_at cs (get_or es s 0)) (RowAt R s) Ar X → RowAt R s Ar X
        step s l Ar X (st, i, e, g) =
            let m : Mem st (ss s) = subst⁻¹ (λ (b : Bool). Mem st (if b (valid_at cs (get_or es s 0)) [])) (lt-ltb s (span_count es) l) i in
            let to : (Br Y : ℕ) → RowAt R s Br Y → Found keys done n s Br Y = λ Br Y h. found-done s Br Y (row-found s Br Y h) in
            subst⁻¹ (λ (y : ℕ). RowAt R s y X) e (found-row s st.head X (closed.closed st s X m (gives_more to to st.body X g)))

    pub is-table : R ≡ table cs
    is-table = completed-table cs w completed

  -- ---- too many

  module _ (limit : ℕ) (t : TooMany ss limit) where
    -- the memberships of the first n of the keys
    abbrev member' : ℕ → Membership
    member' i = member (role_in (t.keys i)) (set_in (t.keys i))

    listed : (i : ℕ) → i ≤ limit → Mem (member' i) (map key (table cs))
    listed i h =
        let g = t.each i h in
        let d = given-derivable g.0 g.1.0 (role_in (t.keys i)) (set_in (t.keys i)) g.1.1 in
        let m = (table_at cs g.0).1 (d.0, (members-derivable cs w (get_or es g.0 0)).1 d.1) in
        cast (λ u. member (sym m.2 u) (sym m.3 u)) (map-in key m.1)

    abbrev all : List ℕ
    all = map t.keys (below (suc limit))

    all-at : (i : ℕ) → i < suc limit → get_or all i 0 ≡ t.keys i
    all-at i h =
        get_d-map-lt t.keys (below (suc limit)) i 0 0 (omega (arith, length-below (suc limit))) ∙ ap t.keys (get_d-below (suc limit) i 0 h)

    distinct : Distinct all (suc limit)
    distinct i j h k e = t.distinct i j (le_of_suc-le-suc h) (le_of_suc-le-suc k) (sym (all-at i h) ∙ e ∙ all-at j k)

    abbrev rows : List Row
    rows = rows_of all all (suc limit)

    rows-listed : Within (map key rows) (map key (table cs))
    rows-listed p m =
        let r = map-out key rows m in
        let e = (rows-gathered all all (suc limit) distinct).entry r.0 r.1 in
        let q : key (row_at all all e.0) ≡ member' e.0 = ap (λ (k : ℕ). member (role_in k) (set_in k)) (all-at e.0 e.1) in
        cast (r.2 ∙ ap key e.3 ∙ q) (listed e.0 (le_of_suc-le-suc e.1))

    pub too_many : limit < length (table cs)
    too_many =
        let w = (within-length memberships (map key rows) (map key (table cs)) (keys-ascending rows (rows-gathered all all (suc limit) distinct).ascending)
        (keys-ascending (table cs) (table-ascending cs)) rows-listed).0 in
        omega (arith, length-map rows key, length-map (table cs) key, rows-length all all (suc limit) distinct)

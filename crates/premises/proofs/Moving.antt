-- Moves give what a body gives: one set, with the entry of a key or without, or a set with each entry of a role.
use mathlib.Core.Path.{◌≡◌, refl, sym, ap, ◌∙◌, subst, subst⁻¹}
use mathlib.Core.Logic.{◌⊎◌, inl, inr, ◌↔◌}
use mathlib.Core.Bool.{Bool, true, false}
use mathlib.Core.List.{List}
use Prim.Native.Nat.{ℕ, suc, ◌+◌, ◌-◌, ◌^◌, ◌≤◌, ◌<◌, zero-le}
use native.Mathlib.Omega.{arith}
use lib.Bits.{bit_and}
use lib.ListN.{get_or}
use Rattle.meaning.specs.Sequence.{Relation}
use Rattle.meaning.specs.Table.{bit}
use Rattle.meaning.proofs.Bits.{bit-of-zero, bit-and, bit-ext}
use Rattle.store.specs.Entries.{key_of, role_in, set_in, latest_in, Has, Stored, EntryOf}
use Rattle.store.proofs.Chains.{latest-below, latest-some, latest-none}
use Rattle.store.proofs.Keys.{role-of-key, set-of-key, set_below, key-of-parts}
use Rattle.store.proofs.Stores.{has-entry}
use Rattle.rules.specs.Uses.{family_in, kind_in, other_in}
use Rattle.heads.proofs.Gaining.{below_or_not}
use Rattle.heads.proofs.Heads.{bit-both, bit-left, bit-right}
use Rattle.closure.specs.Closure.{Found}
use Rattle.waiting.specs.Pairs.{role_of, Paired, Pairing}
use Rattle.premises.specs.declared.Turn.{Turn}
use Rattle.premises.specs.declared.Move.{Move}
use Rattle.premises.specs.Combining.{Combined, ByCode, Keyed, Offers}
use Rattle.premises.specs.Moves.{Firing, Single, Walking, MoveSets, MoveWords, Planned}

-- a move of one set, and one of an offer
abbrev pub single_of : ℕ → ℕ → ℕ → Move
single_of x d w = record { each = false; start = 0; other = w; offer = record { kind = 0; set = x; spans = d } }

abbrev pub walk_of : ℕ → ℕ → ℕ → ℕ → Move
walk_of kind x d start = record { each = true; start = start; other = 0; offer = record { kind = kind; set = x; spans = d } }

no-bit : (s : ℕ) → bit 0 s ≡ 1 → ⊥
no-bit s b = omega (arith, bit-of-zero s)

and_zero : (d m : ℕ) → m ≡ 0 → bit_and d m ≡ 0
and_zero d m z = bit-ext (bit_and d m) 0 (λ i. let y = ap (λ (x : ℕ). bit x i) z in omega (arith, bit-and d m i, bit-of-zero i))

-- ---- the entry with a key

-- there is none
pub single-none : {keys : List ℕ} (done : List ℕ) {n key : ℕ} (x d : ℕ) → ((i : ℕ) → i < n → get_or keys i 0 ≡ key → ⊥) → Single keys done n key x d (single_of x 0 0)
single-none {keys} done {n} {key} x d none =
    record {
      one = refl;
      set = refl;
      exact = λ s. ((λ b. absurd (no-bit s b)), (λ v. absurd (gone s v.1)));
      partner = λ nz. absurd (nz refl);
      low = zero-le;
      start = refl;
    }
  where
    gone : (s : ℕ) → Has keys done n key s → ⊥
    gone s (i, l, e, b) = none i l e

module _ {keys slots links : List ℕ} {n : ℕ} (st : Stored keys slots links n) where
  -- a role without a last entry has none
  pub role-none : (key : ℕ) → role_in key < 1024 → latest_in links (role_in key) ≡ 0 → (i : ℕ) → i < n → get_or keys i 0 ≡ key → ⊥
  role-none key r z i l e = latest-none (role_of keys) (role_in key) n i (omega (arith, st.chained.lasts (role_in key) r)) l (ap role_in e)

  pub single-some : (done : List ℕ) {key : ℕ} (i x d : ℕ) → EntryOf keys n key (suc i) → Single keys done n key x d (single_of x (bit_and d (get_or done i 0)) (i + 1))
  single-some done {key} i x d w =
      record {
        one = refl;
        set = refl;
        exact = λ s. (
          (λ b. (bit-left d m s b, (i, p.0, p.1, bit-right d m s b))),
          (λ v. bit-both d m s v.0 (has-entry st done key s i p.0 p.1 v.1)),
        );
        partner = λ ne. (i, p.0, p.1, (λ z. ne (and_zero d m z)), omega arith);
        low = let l = p.0 in omega arith;
        start = refl;
      }
    where
      m : ℕ
      m = get_or done i 0

      p : (i < n) × (get_or keys i 0 ≡ key)
      p = w.present i refl

-- ---- a body

module _ {keys slots links done : List ℕ} {n : ℕ} {t : Turn} (code d : ℕ) (st : Stored keys slots links n) (fi : Firing done n t) where
  abbrev a : ℕ
  a = get_or keys t.e 0

  abbrev Gets : Relation → ℕ → Type 0
  Gets P X = Combined P a (family_in code) (kind_in code) (other_in code) X

  -- a body of one premise
  pub planned-one : kind_in code ≡ 1 → ((P : Relation) → Gets P (set_in a)) → ((P : Relation) (X : ℕ) → Gets P X → X ≡ set_in a) → Planned keys done n t.e code d (single_of (set_in a) d 0)
  planned-one k to from =
      record {
        exact = λ X s. (
          (λ v. (v.1, subst⁻¹ (λ (x : ℕ). Gets (Found keys done n s) x) v.0 (to (Found keys done n s)))),
          (λ v. (from (Found keys done n s) X v.1, v.0)),
        );
        words = λ nz X w v.
            record {
              entry = t.e;
              low = fi.low;
              some = fi.some;
              single = λ _. v.1;
              double = λ ne. absurd (ne k);
              partner = subst⁻¹ (λ (x : ℕ). Gets (Keyed a) x) v.0 (to (Keyed a));
            };
        low = (set_below a, zero-le, zero-le);
      }

  -- nothing
  pub planned-none : ((P : Relation) (X : ℕ) → Gets P X → ⊥) → Planned keys done n t.e code d (single_of (set_in a) 0 0)
  planned-none none =
      record {
        exact = λ X s. ((λ v. absurd (no-bit s v.1)), (λ v. absurd (none (Found keys done n s) X v.1)));
        words = λ nz. absurd (nz refl);
        low = (set_below a, zero-le, zero-le);
      }

  -- the set of entry e, with the entry of the role r and the set y
  module _ (r y : ℕ) (small : (r < 1024) × (y < 2 ^ 32)) (two : kind_in code ≡ 1 → ⊥) (to : (P : Relation) → P r y → Gets P (set_in a)) (from : (P : Relation) (X : ℕ) → Gets P X → P r y × (X ≡ set_in a)) where
    pub planned-with : {m : Move} → Single keys done n (key_of r y) (set_in a) d m → Planned keys done n t.e code d m
    planned-with {m} w =
        record {
          exact = λ X s. subst⁻¹ (λ (b : Bool). MoveSets b keys done m X s ↔ ByCode keys done n t.e d code X s) w.one ((λ v. there X s v), (λ v. back X s v));
          words = λ nz X x v. words nz X x (subst (λ (b : Bool). MoveWords b keys done m X x) w.one v);
          low = (subst⁻¹ (λ (x : ℕ). x < 4294967296) w.set (set_below a), w.low, omega (arith, w.start));
        }
      where
        there : (X s : ℕ) → MoveSets false keys done m X s → ByCode keys done n t.e d code X s
        there X s (q, b) =
            let u = (w.exact s).0 b in
            (u.0, subst⁻¹ (λ (x : ℕ). Gets (Found keys done n s) x) (q ∙ w.set) (to (Found keys done n s) (small.0, small.1, u.1)))

        back : (X s : ℕ) → ByCode keys done n t.e d code X s → MoveSets false keys done m X s
        back X s (b, g) = let u = from (Found keys done n s) X g in (u.1 ∙ sym w.set, (w.exact s).1 (b, u.0.2))

        words : (m.offer.spans ≡ 0 → ⊥) → (X x : ℕ) → MoveWords false keys done m X x → Offers keys done n t.e code X x
        words nz X x (q, f) = go (w.partner nz)
          where
            go : (entry : ℕ) × (entry < n) × (get_or keys entry 0 ≡ key_of r y) × (get_or done entry 0 ≡ 0 → ⊥) × (m.other ≡ suc entry) → Offers keys done n t.e code X x
            go (i, l, e, o, g) =
                record {
                  entry = i;
                  low = l;
                  some = o;
                  single = λ k. absurd (two k);
                  double = λ _. f ∙ g;
                  partner =
                      subst⁻¹ (λ (x : ℕ). Gets (Keyed (get_or keys i 0)) x) (q ∙ w.set)
                      (to (Keyed (get_or keys i 0)) (ap role_in e ∙ role-of-key r y small.1, sym (ap set_in e ∙ set-of-key r y small.1)));
                }

  -- what the kind gives with each entry of the role r, from the place c on
  module _ (kind r c : ℕ) (small : r < 1024) (walk : Walking links t (role_in a) r c) (two : kind_in code ≡ 1 → ⊥) (to : (P : Relation) (Y X : ℕ) → P r Y → Paired kind (set_in a) Y X → Gets P X) (from : (P : Relation) (X : ℕ) → Gets P X → (Y : ℕ) × P r Y × Paired kind (set_in a) Y X) where
    start-low : c ≤ n
    start-low = go walk
      where
        go : Walking links t (role_in a) r c → c ≤ n
        go (inl w) = omega (arith, w.2, fi.low)
        go (inr e) = omega (arith, e, st.chained.lasts r small, latest-below (role_of keys) r n)

    -- the entry at the start has the role
    start-role : (c ≡ 0 → ⊥) → role_of keys (c - 1) ≡ r
    start-role nz = go walk
      where
        go : Walking links t (role_in a) r c → role_of keys (c - 1) ≡ r
        go (inl w) = let q : c - 1 ≡ t.e = omega (arith, w.2) in ap (role_of keys) q ∙ w.1
        go (inr e) = (latest-some (role_of keys) r n (c - 1) (sym (e ∙ st.chained.lasts r small) ∙ omega arith)).1

    -- and no entry of it from there on is done
    start-last : (j s : ℕ) → j < n → role_of keys j ≡ r → bit (get_or done j 0) s ≡ 1 → j < c
    start-last j s l q b = go walk (below_or_not j c)
      where
        go : Walking links t (role_in a) r c → (j < c) ⊎ (c ≤ j) → j < c
        go w (inl o) = o
        go (inl w) (inr o) = absurd (no-bit s (subst (λ (x : ℕ). bit x s ≡ 1) (fi.last w.0 j (omega (arith, w.2))) b))
        go (inr e) (inr o) = absurd (latest-none (role_of keys) r n j (omega (arith, e, st.chained.lasts r small)) l q)

    abbrev Sets : ℕ → ℕ → Type 0
    Sets X s = MoveSets true keys done (walk_of kind (set_in a) d c) X s

    there : (X s : ℕ) → Sets X s → ByCode keys done n t.e d code X s
    there X s w =
        let j = w.item in
        let y = set_in (get_or keys j 0) in
        let l = w.low in
        let o = start-low in
        let q : role_of keys j ≡ r = w.of ∙ start-role (λ z. omega arith) in
        let e : get_or keys j 0 ≡ key_of r y = sym (key-of-parts (get_or keys j 0)) ∙ ap (λ (x : ℕ). key_of x y) q in
        let b = w.gives.1 in
        (bit-left d (get_or done j 0) s b, to (Found keys done n s) y X (small, set_below (get_or keys j 0), (j, omega arith, e, bit-right d (get_or done j 0) s b)) w.gives.0)

    back : (X s : ℕ) → ByCode keys done n t.e d code X s → Sets X s
    back X s (b, g) = go (from (Found keys done n s) X g)
      where
        go : (Y : ℕ) × Found keys done n s r Y × Paired kind (set_in a) Y X → Sets X s
        go (Y, (_, m, (j, l, e, v)), p) =
            let q : role_of keys j ≡ r = ap role_in e ∙ role-of-key r Y m in
            let o = start-last j s l q v in
            record {
              item = j;
              past = zero-le;
              low = o;
              of = q ∙ sym (start-role (λ z. omega arith));
              gives = (subst⁻¹ (λ (y : ℕ). Paired kind (set_in a) y X) (ap set_in e ∙ set-of-key r Y m) p, bit-both d (get_or done j 0) s b v);
            }

    words : (X x : ℕ) → Pairing keys done c kind (set_in a) X x → Offers keys done n t.e code X x
    words X x w =
        let j = w.entry in
        let l = w.low in
        let o = start-low in
        record {
          entry = j;
          low = omega arith;
          some = w.some;
          single = λ k. absurd (two k);
          double = λ _. w.word;
          partner = to (Keyed (get_or keys j 0)) (set_in (get_or keys j 0)) X (w.of ∙ start-role (λ z. omega arith), refl) w.paired;
        }

    pub planned-each : Planned keys done n t.e code d (walk_of kind (set_in a) d c)
    planned-each = record { exact = λ X s. (there X s, back X s); words = λ nz. words; low = (set_below a, zero-le, start-low) }

-- Sets that wait: one is joined to its equal or gets a new place.
use mathlib.Core.Path.{◌≡◌, refl, sym, ap, ◌∙◌}
use mathlib.Core.Logic.{◌⊎◌, inl, inr}
use mathlib.Core.List.{List}
use Prim.Native.Nat.{ℕ, ◌+◌, ◌*◌, ◌≤◌, ◌<◌}
use native.Mathlib.Omega.{arith}
use lib.Bits.{bit_or}
use lib.ListN.{length, get_or, set, length-set}
use lib.Seq.{get_or-set_same, get_or-set_other}
use Rattle.meaning.specs.Table.{bit}
use Rattle.meaning.proofs.Bits.{bit-or, bit-below-two, bit-of-zero}
use Rattle.store.specs.Entries.{key_of, set_in}
use Rattle.store.proofs.Chains.{equal_or_not}
use Rattle.store.proofs.Keys.{set-of-key}
use Rattle.waiting.specs.declared.Pair.{Pair}
use Rattle.waiting.specs.declared.Queue.{Queue}
use Rattle.waiting.specs.Waiting.{Waiting, Waits, Settled, United}

-- ---- the tree

pub settled-refl : (w : List ℕ) → Settled w w
settled-refl w = record { room = refl; same = λ i l. refl }

pub settled-set : (w : List ℕ) (p v : ℕ) → 48 ≤ p → Settled w (set w p v)
settled-set w p v l = record { room = length-set w p v; same = λ i k. get_or-set_other w p i v 0 (λ e. omega arith) }

-- ---- one set

module _ {w w' : List ℕ} {q : Queue} {x : Pair} (wt : Waiting w q.count) (room : length w' ≡ 97) (keep : (i : ℕ) → i < q.count → get_or w' i 0 ≡ get_or w i 0) where
  -- joined to its equal
  module _ (p : ℕ) (low : p < q.count) (equal : set_in (get_or w p 0) ≡ x.set) (here : get_or w' (24 + p) 0 ≡ bit_or (get_or w (24 + p) 0) x.spans) (others : (i : ℕ) → i < q.count → (i ≡ p → ⊥) → get_or w' (24 + i) 0 ≡ get_or w (24 + i) 0) where
    pub united-joined : United w q x w' (record { count = q.count; last = p })
    united-joined =
        record {
          waiting = record { room = room; few = wt.few };
          exact = λ X s. (λ u. to X s u (equal_or_not u.place p), from X s);
          partners = λ i l. inl (l, keep i l);
        }
      where
        to : (X s : ℕ) (u : Waits w' q.count X s) → (u.place ≡ p) ⊎ (u.place ≡ p → ⊥) → Waits w q.count X s ⊎ ((X ≡ x.set) × (bit x.spans s ≡ 1))
        to X s u (inr ne) =
            inl record { place = u.place; low = u.low; set = u.set ∙ ap set_in (keep u.place u.low); spans = sym (ap (λ (y : ℕ). bit y s) (others u.place u.low ne)) ∙ u.spans }
        to X s u (inl e) = part (equal_or_not (bit (get_or w (24 + p) 0) s) 1)
          where
            joined : bit (bit_or (get_or w (24 + p) 0) x.spans) s ≡ 1
            joined = sym (ap (λ (y : ℕ). bit y s) here) ∙ sym (ap (λ (y : ℕ). bit (get_or w' (24 + y) 0) s) e) ∙ u.spans

            at : X ≡ set_in (get_or w p 0)
            at = u.set ∙ ap set_in (keep u.place u.low) ∙ ap (λ (y : ℕ). set_in (get_or w y 0)) e

            part : (bit (get_or w (24 + p) 0) s ≡ 1) ⊎ (bit (get_or w (24 + p) 0) s ≡ 1 → ⊥) → Waits w q.count X s ⊎ ((X ≡ x.set) × (bit x.spans s ≡ 1))
            part (inl o) = inl record { place = p; low = low; set = at; spans = o }
            part (inr o) =
                inr (at ∙ equal, omega (arith, joined, bit-or (get_or w (24 + p) 0) x.spans s, bit-below-two (get_or w (24 + p) 0) s, bit-below-two x.spans s))

        from : (X s : ℕ) → Waits w q.count X s ⊎ ((X ≡ x.set) × (bit x.spans s ≡ 1)) → Waits w' q.count X s
        from X s (inl u) = go (equal_or_not u.place p)
          where
            go : (u.place ≡ p) ⊎ (u.place ≡ p → ⊥) → Waits w' q.count X s
            go (inr ne) =
                record { place = u.place; low = u.low; set = u.set ∙ sym (ap set_in (keep u.place u.low)); spans = ap (λ (y : ℕ). bit y s) (others u.place u.low ne) ∙ u.spans }
            go (inl e) =
                let old : bit (get_or w (24 + p) 0) s ≡ 1 = sym (ap (λ (y : ℕ). bit (get_or w (24 + y) 0) s) e) ∙ u.spans in
                let o : bit (bit_or (get_or w (24 + p) 0) x.spans) s ≡ 1 = omega (arith, bit-or (get_or w (24 + p) 0) x.spans s, bit-below-two x.spans s) in
                record { place = p; low = low; set = u.set ∙ ap (λ (y : ℕ). set_in (get_or w y 0)) e ∙ sym (ap set_in (keep p low)); spans = ap (λ (y : ℕ). bit y s) here ∙ o }
        from X s (inr (e, b)) =
            let o : bit (bit_or (get_or w (24 + p) 0) x.spans) s ≡ 1 = omega (arith, bit-or (get_or w (24 + p) 0) x.spans s, bit-below-two (get_or w (24 + p) 0) s) in
            record { place = p; low = low; set = e ∙ sym (ap set_in (keep p low) ∙ equal); spans = ap (λ (y : ℕ). bit y s) here ∙ o }

  -- in a new place
  module _ (some : x.spans ≡ 0 → ⊥) (short : q.count < 24) (fits : x.set < 4294967296) (new : get_or w' q.count 0 ≡ key_of x.other x.set) (here : get_or w' (24 + q.count) 0 ≡ x.spans) (others : (i : ℕ) → i < q.count → get_or w' (24 + i) 0 ≡ get_or w (24 + i) 0) where
    pub united-new : United w q x w' (record { count = q.count + 1; last = q.count })
    united-new =
        record {
          waiting = record { room = room; few = omega arith };
          exact = λ X s. (λ u. to X s u (equal_or_not u.place q.count), from X s);
          partners = λ i l. partner i l (equal_or_not i q.count);
        }
      where
        set_new : set_in (get_or w' q.count 0) ≡ x.set
        set_new = ap set_in new ∙ set-of-key x.other x.set fits

        partner : (i : ℕ) → i < q.count + 1 → (i ≡ q.count) ⊎ (i ≡ q.count → ⊥) → ((i < q.count) × (get_or w' i 0 ≡ get_or w i 0)) ⊎ ((x.spans ≡ 0 → ⊥) × (get_or w' i 0 ≡ key_of x.other x.set))
        partner i l (inl e) = inr (some, ap (λ (y : ℕ). get_or w' y 0) e ∙ new)
        partner i l (inr ne) = let k : i < q.count = omega arith in inl (k, keep i k)

        to : (X s : ℕ) (u : Waits w' (q.count + 1) X s) → (u.place ≡ q.count) ⊎ (u.place ≡ q.count → ⊥) → Waits w q.count X s ⊎ ((X ≡ x.set) × (bit x.spans s ≡ 1))
        to X s u (inl e) =
            inr (u.set ∙ ap (λ (y : ℕ). set_in (get_or w' y 0)) e ∙ set_new, sym (ap (λ (y : ℕ). bit y s) here) ∙ sym (ap (λ (y : ℕ). bit (get_or w' (24 + y) 0) s) e) ∙ u.spans)
        to X s u (inr ne) =
            let l = u.low in
            let k : u.place < q.count = omega arith in
            inl record { place = u.place; low = k; set = u.set ∙ ap set_in (keep u.place k); spans = sym (ap (λ (y : ℕ). bit y s) (others u.place k)) ∙ u.spans }

        from : (X s : ℕ) → Waits w q.count X s ⊎ ((X ≡ x.set) × (bit x.spans s ≡ 1)) → Waits w' (q.count + 1) X s
        from X s (inl u) =
            let l = u.low in
            record { place = u.place; low = omega arith; set = u.set ∙ sym (ap set_in (keep u.place l)); spans = ap (λ (y : ℕ). bit y s) (others u.place l) ∙ u.spans }
        from X s (inr (e, b)) = record { place = q.count; low = omega arith; set = e ∙ sym set_new; spans = ap (λ (y : ℕ). bit y s) here ∙ b }

-- a pair without spans gives nothing
pub united-none : {w : List ℕ} {q : Queue} {x : Pair} → Waiting w q.count → x.spans ≡ 0 → United w q x w q
united-none {w} {q} {x} wt z = record { waiting = wt; exact = λ X s. (inl, back X s); partners = λ i l. inl (l, refl) }
  where
    back : (X s : ℕ) → Waits w q.count X s ⊎ ((X ≡ x.set) × (bit x.spans s ≡ 1)) → Waits w q.count X s
    back X s (inl u) = u
    back X s (inr (e, b)) = let o : bit x.spans s ≡ 0 = ap (λ (y : ℕ). bit y s) z ∙ bit-of-zero s in absurd (omega arith)

-- ---- the lists that a search and the stores leave

module _ {w w₁ : List ℕ} (st : Settled w w₁) {q : Queue} {x : Pair} (wt : Waiting w q.count) where
  module _ (p : ℕ) (low : p < q.count) (equal : set_in (get_or w p 0) ≡ x.set) where
    pub stored-joined : United w q x (set w₁ (24 + p) (bit_or (get_or w₁ (24 + p) 0) x.spans)) (record { count = q.count; last = p })
    stored-joined =
        let few = wt.few in
        united-joined wt (length-set w₁ (24 + p) v ∙ st.room ∙ wt.room)
        (λ i l. get_or-set_other w₁ (24 + p) i v 0 (λ e. omega arith) ∙ st.same i (omega arith))
        p low equal
        (get_or-set_same w₁ (24 + p) v 0 (omega (arith, st.room, wt.room)) ∙ ap (λ (y : ℕ). bit_or y x.spans) (st.same (24 + p) (omega arith)))
        (λ i l ne. get_or-set_other w₁ (24 + p) (24 + i) v 0 (λ e. ne (omega arith)) ∙ st.same (24 + i) (omega arith))
      where
        v : ℕ
        v = bit_or (get_or w₁ (24 + p) 0) x.spans

  module _ (some : x.spans ≡ 0 → ⊥) (short : q.count < 24) (fits : x.set < 4294967296) where
    pub stored-new : United w q x (set (set (set (set w₁ q.count (key_of x.other x.set)) (24 + q.count) x.spans) (49 + 2 * q.count) 65535) (50 + 2 * q.count) 65535) (record { count = q.count + 1; last = q.count })
    stored-new =
        united-new wt
        (length-set c (50 + 2 * n) 65535 ∙ length-set b (49 + 2 * n) 65535 ∙ length-set a (24 + n) x.spans ∙ length-set w₁ n key ∙ st.room ∙ wt.room)
        (λ i l. tree i (omega arith) ∙ get_or-set_other a (24 + n) i x.spans 0 (λ e. omega arith) ∙ get_or-set_other w₁ n i key 0 (λ e. omega arith) ∙ st.same i (omega arith))
        some short fits
        (tree n (omega arith) ∙ get_or-set_other a (24 + n) n x.spans 0 (λ e. omega arith) ∙ get_or-set_same w₁ n key 0 (omega (arith, st.room, wt.room)))
        (tree (24 + n) (omega arith) ∙ get_or-set_same a (24 + n) x.spans 0 (omega (arith, length-set w₁ n key, st.room, wt.room)))
        (λ i l.
        tree (24 + i) (omega arith) ∙ get_or-set_other a (24 + n) (24 + i) x.spans 0 (λ e. omega arith) ∙ get_or-set_other w₁ n (24 + i) key 0 (λ e. omega arith) ∙ st.same (24 + i) (omega arith))
      where
        n : ℕ
        n = q.count

        key : ℕ
        key = key_of x.other x.set

        a : List ℕ
        a = set w₁ n key

        b : List ℕ
        b = set a (24 + n) x.spans

        c : List ℕ
        c = set b (49 + 2 * n) 65535

        tree : (i : ℕ) → i < 48 → get_or (set c (50 + 2 * n) 65535) i 0 ≡ get_or b i 0
        tree i l = (settled-set c (50 + 2 * n) 65535 (omega arith)).same i l ∙ (settled-set b (49 + 2 * n) 65535 (omega arith)).same i l

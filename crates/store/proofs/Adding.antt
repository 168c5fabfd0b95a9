-- What `add` makes of the store, in each of its cases.
use mathlib.Core.Path.{◌≡◌, refl, sym, ap, ◌∙◌, subst⁻¹}
use mathlib.Core.Logic.{◌⊎◌, inl, inr}
use mathlib.Core.List.{List}
use Prim.Native.Nat.{ℕ, ◌+◌, ◌≤◌, ◌<◌}
use native.Mathlib.Nat.{le_refl}
use native.Mathlib.Numerals.{add-one}
use native.Mathlib.Omega.{arith}
use lib.Bits.{bit_or}
use lib.ListN.{length, get_or, set, length-set}
use lib.Seq.{get_or-set_same, get_or-set_other}
use Rattle.meaning.specs.Table.{bit}
use Rattle.meaning.proofs.Bits.{bit-or, bit-of-zero, bit-ext, union_left, union_right, union-cases}
use Rattle.store.specs.Entries.{role_in, Has, Chained, Stored, pushed, At, Added}
use Rattle.store.proofs.Chains.{last-or-below, equal_or_not, linked-push}
use Rattle.store.proofs.Searches.{searchable-append}
use Rattle.store.proofs.Stores.{grown-refl}

-- a union that is empty is of empty parts
or-none : (a m : ℕ) → bit_or a m ≡ 0 → a ≡ 0
or-none a m e = bit-ext a 0 (λ s. let z = ap (λ (x : ℕ). bit x s) e ∙ bit-of-zero s in omega (arith, bit-or a m s, bit-of-zero s))

-- ---- the cases

module _ (limit key m : ℕ) (keys spans slots links : List ℕ) (n : ℕ) (st : Stored keys slots links n) where
  -- no spans
  pub added_none : n ≤ limit → m ≡ 0 → Added limit key m keys spans n keys spans slots links n
  added_none h z =
      record {
        stored = λ _. st;
        grown = λ _. grown-refl keys spans n;
        exact = λ _ k s. (λ w. inl w, λ w. back k s w);
        some = λ _ i l e. (l, e);
        over = λ l. absurd (omega arith);
        room = refl;
      }
    where
      back : (k s : ℕ) → Has keys spans n k s ⊎ ((k ≡ key) × (bit m s ≡ 1)) → Has keys spans n k s
      back k s (inl w) = w
      back k s (inr (e, b)) = absurd (let f = ap (λ (x : ℕ). bit x s) z ∙ bit-of-zero s in omega arith)

  -- entry j has the key
  pub added-known : (j : ℕ) → n ≤ limit → length spans ≡ 1024 → j < n → get_or keys j 0 ≡ key → Added limit key m keys spans n keys (set spans j (bit_or (get_or spans j 0) m)) slots links n
  added-known j h len l e =
      record {
        stored = λ _. st;
        grown = λ _. record { more = le_refl n; same = λ i k. refl; kept = λ i s k b. keep i s b (equal_or_not i j) };
        exact = λ _ k s. (λ w. there k s w, λ w. back k s w);
        some = λ _ i k z. (k, none i z (equal_or_not i j));
        over = λ k. absurd (omega arith);
        room = length-set spans j (bit_or (get_or spans j 0) m);
      }
    where
      spans' : List ℕ
      spans' = set spans j (bit_or (get_or spans j 0) m)

      at_j : get_or spans' j 0 ≡ bit_or (get_or spans j 0) m
      at_j = get_or-set_same spans j (bit_or (get_or spans j 0) m) 0 (let f = st.few in omega arith)

      at_other : (i : ℕ) → (i ≡ j → ⊥) → get_or spans' i 0 ≡ get_or spans i 0
      at_other i ne = get_or-set_other spans j i (bit_or (get_or spans j 0) m) 0 ne

      keep : (i s : ℕ) → bit (get_or spans i 0) s ≡ 1 → (i ≡ j) ⊎ (i ≡ j → ⊥) → bit (get_or spans' i 0) s ≡ 1
      keep i s b (inl f) = rw f (rw at_j (union_left (get_or spans j 0) m s (rw f at b)))
      keep i s b (inr nf) = rw (at_other i nf) b

      none : (i : ℕ) → get_or spans' i 0 ≡ 0 → (i ≡ j) ⊎ (i ≡ j → ⊥) → get_or spans i 0 ≡ 0
      none i z (inl f) = rw f (or-none (get_or spans j 0) m (sym at_j ∙ ap (λ (x : ℕ). get_or spans' x 0) (sym f) ∙ z))
      none i z (inr nf) = sym (at_other i nf) ∙ z

      there : (k s : ℕ) → Has keys spans' n k s → Has keys spans n k s ⊎ ((k ≡ key) × (bit m s ≡ 1))
      there k s (i, o, f, b) = go (equal_or_not i j)
        where
          last : i ≡ j → (bit (get_or spans j 0) s ≡ 1) ⊎ (bit m s ≡ 1) → Has keys spans n k s ⊎ ((k ≡ key) × (bit m s ≡ 1))
          last q (inl c) = inl (i, o, f, rw q c)
          last q (inr c) = inr (sym f ∙ ap (λ (x : ℕ). get_or keys x 0) q ∙ e, c)

          go : (i ≡ j) ⊎ (i ≡ j → ⊥) → Has keys spans n k s ⊎ ((k ≡ key) × (bit m s ≡ 1))
          go (inl q) = last q (union-cases (get_or spans j 0) m s (sym (ap (λ (x : ℕ). bit x s) (ap (λ (x : ℕ). get_or spans' x 0) q ∙ at_j)) ∙ b))
          go (inr nq) = inl (i, o, f, sym (ap (λ (x : ℕ). bit x s) (at_other i nq)) ∙ b)

      back : (k s : ℕ) → Has keys spans n k s ⊎ ((k ≡ key) × (bit m s ≡ 1)) → Has keys spans' n k s
      back k s (inl (i, o, f, b)) = (i, o, f, keep i s b (equal_or_not i j))
      back k s (inr (f, b)) = (j, l, e ∙ sym f, rw at_j (union_right (get_or spans j 0) m s b))

  -- no room for a new entry
  pub added-over : n ≤ limit → limit ≤ n → (m ≡ 0 → ⊥) → ((i : ℕ) → i < n → get_or keys i 0 ≡ key → ⊥) → Added limit key m keys spans n keys spans slots links (limit + 1)
  added-over h k nz none =
      record {
        stored = λ l. absurd (omega arith);
        grown = λ l. absurd (omega arith);
        exact = λ l. absurd (omega arith);
        some = λ l. absurd (omega arith);
        over = λ _. (omega arith, nz, none);
        room = refl;
      }

-- a new entry
module _ (limit key : ℕ) (keys slots links : List ℕ) (n p : ℕ) (st : Stored keys slots links n) (h : n < limit) (few : limit ≤ 1024) (low : role_in key < 1024) (a : At keys slots key p) (z : get_or slots p 0 ≡ 0) where
  klen : n < length keys
  klen = let e = st.room.0 in omega arith

  plen : p < length slots
  plen = let e = st.room.1 in let f = a.within in omega arith

  key-at : get_or (set keys n key) n 0 ≡ key
  key-at = get_or-set_same keys n key 0 klen

  key-before : (i : ℕ) → i < n → get_or (set keys n key) i 0 ≡ get_or keys i 0
  key-before i l = get_or-set_other keys n i key 0 (λ e. omega arith)

  roles-below : (i : ℕ) → i < n + 1 → role_in (get_or (set keys n key) i 0) < 1024
  roles-below i l = go (last-or-below (omega arith))
    where
      go : (i ≡ n) ⊎ (i < n) → role_in (get_or (set keys n key) i 0) < 1024
      go (inl e) = rw (e, key-at) low
      go (inr k) = rw (key-before i k) (st.roles i k)

  pub stored-new : Stored (set keys n key) (set slots p (n + 1)) (pushed links n (role_in key)) (n + 1)
  stored-new =
      let len = st.room.2 in
      record {
        room = (length-set keys n key ∙ st.room.0, length-set slots p (n + 1) ∙ st.room.1, simp length-set len);
        few = omega arith;
        roles = roles-below;
        searchable = searchable-append keys slots n key p st.searchable klen plen a z;
        chained = subst⁻¹ (λ (k : ℕ). Chained (λ i. role_in (get_or (set keys n key) i 0)) 1024 k (λ r. get_or (pushed links n (role_in key)) (1024 + r) 0) (λ i. get_or (pushed links n (role_in key)) i 0)) (add-one n) (linked-push links n (role_in key) len (omega arith) low (λ i. role_in (get_or (set keys n key) i 0)) st.chained (λ i l. ap role_in (key-before i l)) (ap role_in key-at));
      }

  -- with its spans
  module _ (m : ℕ) (spans : List ℕ) (len : length spans ≡ 1024) where
    span-at : get_or (set spans n m) n 0 ≡ m
    span-at = get_or-set_same spans n m 0 (omega arith)

    span-before : (i : ℕ) → i < n → get_or (set spans n m) i 0 ≡ get_or spans i 0
    span-before i l = get_or-set_other spans n i m 0 (λ e. omega arith)

    pub added_new : (m ≡ 0 → ⊥) → Added limit key m keys spans n (set keys n key) (set spans n m) (set slots p (n + 1)) (pushed links n (role_in key)) (n + 1)
    added_new nz =
        record {
          stored = λ _. stored-new;
          grown = λ _. record { more = omega arith; same = key-before; kept = λ i s l b. rw (span-before i l) b };
          exact = λ _ k s. (λ w. there k s w, λ w. back k s w);
          some = λ _ i l e. none i e (last-or-below (omega arith));
          over = λ l. absurd (omega arith);
          room = length-set spans n m;
        }
      where
        none : (i : ℕ) → get_or (set spans n m) i 0 ≡ 0 → (i ≡ n) ⊎ (i < n) → (i < n) × (get_or spans i 0 ≡ 0)
        none i e (inl f) = absurd (nz (sym span-at ∙ ap (λ (x : ℕ). get_or (set spans n m) x 0) (sym f) ∙ e))
        none i e (inr l) = (l, sym (span-before i l) ∙ e)

        there : (k s : ℕ) → Has (set keys n key) (set spans n m) (n + 1) k s → Has keys spans n k s ⊎ ((k ≡ key) × (bit m s ≡ 1))
        there k s (i, l, f, b) = go (last-or-below (omega arith))
          where
            go : (i ≡ n) ⊎ (i < n) → Has keys spans n k s ⊎ ((k ≡ key) × (bit m s ≡ 1))
            go (inl q) = inr (sym f ∙ ap (λ (x : ℕ). get_or (set keys n key) x 0) q ∙ key-at, sym (ap (λ (x : ℕ). bit x s) (ap (λ (x : ℕ). get_or (set spans n m) x 0) q ∙ span-at)) ∙ b)
            go (inr o) = inl (i, o, sym (key-before i o) ∙ f, sym (ap (λ (x : ℕ). bit x s) (span-before i o)) ∙ b)

        back : (k s : ℕ) → Has keys spans n k s ⊎ ((k ≡ key) × (bit m s ≡ 1)) → Has (set keys n key) (set spans n m) (n + 1) k s
        back k s (inl (i, l, f, b)) = (i, omega arith, key-before i l ∙ f, rw (span-before i l) b)
        back k s (inr (f, b)) = (n, omega arith, key-at ∙ sym f, rw span-at b)

    -- the same of lists that are said to be those
    pub added-by : (keys' spans' slots' links' : List ℕ) (n' : ℕ) → (m ≡ 0 → ⊥) → keys' ≡ set keys n key → spans' ≡ set spans n m → slots' ≡ set slots p (n + 1) → links' ≡ pushed links n (role_in key) → n' ≡ n + 1 → Added limit key m keys spans n keys' spans' slots' links' n'
    added-by keys' spans' slots' links' n' nz e f g h i = rw (e, f, g, h, i) (added_new nz)

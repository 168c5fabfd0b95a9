-- What is added to the entries: nothing, one key, one part after another.
use mathlib.Core.Path.{◌≡◌, refl, sym, ◌∙◌, subst⁻¹, subst₃}
use mathlib.Core.Logic.{◌⊎◌, inl, inr}
use mathlib.Core.List.{List}
use Prim.Native.Nat.{ℕ, zero, suc, ◌+◌, ◌/◌, ◌%◌, ◌≤◌, ◌<◌}
use native.Mathlib.Omega.{arith}
use borrow.Author.Tests.{lt-ltb, le-ltb}
use lib.Arith.{bin_ind}
use lib.Dec.{ltb}
use lib.ListN.{length, get_or}
use Rattle.meaning.specs.Lists.{if}
use Rattle.meaning.specs.Table.{bit}
use Rattle.meaning.proofs.Bits.{bit-zero, bit-suc}
use Rattle.store.specs.Entries.{Has, Added}
use Rattle.store.specs.Notes.{word, noted, Leveled}
pub use Rattle.store.proofs.Chains.{below_or_not}
use Rattle.store.proofs.Stores.{distinct-keys, grown-refl, grown-trans}
use Rattle.store.proofs.Notes.{noted-old, noted-at, noted-first, noted-second, noted-length, noted-all}
use Rattle.heads.specs.Gaining.{Spanned, Origin, Kept, Over, Noted, Gains}
use Rattle.heads.specs.Heads.{One}

-- a number that is not 0 has a bit
pub some-bit : (n : ℕ) → (n ≡ 0 → ⊥) → (s : ℕ) × (bit n s ≡ 1)
some-bit = bin_ind (λ (n : ℕ). (n ≡ 0 → ⊥) → (s : ℕ) × (bit n s ≡ 1)) (λ h. absurd (h refl)) (λ n rec h. go n rec h (n % 2) refl)
  where
    go : (n : ℕ) → ((n / 2 ≡ 0 → ⊥) → (s : ℕ) × (bit (n / 2) s ≡ 1)) → (n ≡ 0 → ⊥) → (d : ℕ) → n % 2 ≡ d → (s : ℕ) × (bit n s ≡ 1)
    go n rec h zero q = let r = rec (λ z. h (omega arith)) in (suc r.0, bit-suc n r.0 ∙ r.1)
    go n rec h (suc d) q = (0, bit-zero n ∙ omega arith)

-- what the entries have with what is new
abbrev pub With : List ℕ → List ℕ → ℕ → Spanned → ℕ → Type 0
With keys spans n New k = (s : ℕ) × (Has keys spans n k s ⊎ New k s)

pub over-more : {limit : ℕ} {P Q : ℕ → Type 0} → ((k : ℕ) → P k → Q k) → Over limit P → Over limit Q
over-more f o = record { keys = o.keys; distinct = o.distinct; each = λ i l. f (o.keys i) (o.each i l) }

-- ---- how new entries came about

-- every entry that comes about by P comes about by Q
abbrev pub Within : Origin → Origin → Type 0
Within P Q = (k at first second : ℕ) → P k at first second → Q k at first second

-- no new entry
pub noted-none : (notes : List ℕ) (n : ℕ) (By : Origin) (keys : List ℕ) → Noted notes n By keys notes n
noted-none notes n By keys = record { same = λ i k l m. refl; by = λ i l o. absurd (omega arith) }

module _ {notes : List ℕ} {n : ℕ} {By : Origin} {keys' notes' : List ℕ} {r : ℕ} where
  pub noted_more : {By' : Origin} → Within By By' → Noted notes n By keys' notes' r → Noted notes n By' keys' notes' r
  noted_more f h = record { same = h.same; by = λ i l o. f _ _ _ _ (h.by i l o) }

  -- one after the other
  pub noted-then : {keys'' notes'' : List ℕ} {t : ℕ} → n ≤ r → ((i : ℕ) → i < r → get_or keys'' i 0 ≡ get_or keys' i 0) → Noted notes n By keys' notes' r → Noted notes' r By keys'' notes'' t → Noted notes n By keys'' notes'' t
  noted-then {keys''} {notes''} {t} more same g h =
      record {
        same = λ i k l m. h.same i k (omega arith) m ∙ g.same i k l m;
        by = λ i l o. go i l o (below_or_not i r);
      }
    where
      go : (i : ℕ) → n ≤ i → i < t → (i < r) ⊎ (r ≤ i) → By (get_or keys'' i 0) (word notes'' i 0) (word notes'' i 1) (word notes'' i 2)
      go i l o (inr m) = h.by i m o
      go i l o (inl m) =
          let w : (k : ℕ) → k < 3 → word notes' i k ≡ word notes'' i k = λ k q. sym (h.same i k m q) in
          subst₃ (By (get_or keys'' i 0)) (w 0 (omega arith)) (w 1 (omega arith)) (w 2 (omega arith))
          (subst⁻¹ (λ (k : ℕ). By k (word notes' i 0) (word notes' i 1) (word notes' i 2)) (same i m) (g.by i l m))

-- ---- nothing is new

pub gains-none : {limit : ℕ} {keys spans slots links notes : List ℕ} {n : ℕ} {New : Spanned} {By : Origin} → Kept keys spans slots links notes n → n ≤ limit → ((k s : ℕ) → New k s → ⊥) → Gains limit keys spans notes n New By keys spans slots links notes n
gains-none {limit} {keys} {spans} {slots} {links} {notes} {n} {New} {By} kept few none =
    record {
      kept = λ _. kept;
      grown = λ _. grown-refl keys spans n;
      exact = λ _ k s. (inl, λ w. back k s w);
      noted = λ _. noted-none notes n By keys;
      over = λ l. absurd (omega arith);
    }
  where
    back : (k s : ℕ) → Has keys spans n k s ⊎ New k s → Has keys spans n k s
    back k s (inl w) = w
    back k s (inr w) = absurd (none k s w)

-- ---- parts

module _ {limit : ℕ} {keys spans notes keys' spans' slots' links' notes' : List ℕ} {n r : ℕ} {P : Spanned} {By : Origin} where
  -- by more
  pub gains-by : {By' : Origin} → Within By By' → Gains limit keys spans notes n P By keys' spans' slots' links' notes' r → Gains limit keys spans notes n P By' keys' spans' slots' links' notes' r
  gains-by f h = record { kept = h.kept; grown = h.grown; exact = h.exact; noted = λ l. noted_more f (h.noted l); over = h.over }

  -- the same in other words
  pub gains-same : {Q : Spanned} → ((k s : ℕ) → P k s → Q k s) → ((k s : ℕ) → Q k s → P k s) → Gains limit keys spans notes n P By keys' spans' slots' links' notes' r → Gains limit keys spans notes n Q By keys' spans' slots' links' notes' r
  gains-same {Q} f g h =
      record {
        kept = h.kept;
        grown = h.grown;
        exact = λ l k s. (λ w. to k s ((h.exact l k s).0 w), λ w. (h.exact l k s).1 (from k s w));
        noted = h.noted;
        over = λ l. over-more (λ k w. (w.0, to k w.0 w.1)) (h.over l);
      }
    where
      to : (k s : ℕ) → Has keys spans n k s ⊎ P k s → Has keys spans n k s ⊎ Q k s
      to k s (inl w) = inl w
      to k s (inr w) = inr (f k s w)

      from : (k s : ℕ) → Has keys spans n k s ⊎ Q k s → Has keys spans n k s ⊎ P k s
      from k s (inl w) = inl w
      from k s (inr w) = inr (g k s w)

  -- too many keys already
  pub gains-over : {Q : Spanned} {By' : Origin} → ((k s : ℕ) → P k s → Q k s) → limit < r → Gains limit keys spans notes n P By keys' spans' slots' links' notes' r → Gains limit keys spans notes n Q By' keys' spans' slots' links' notes' r
  gains-over {Q} f l h =
      record {
        kept = λ m. absurd (omega arith);
        grown = λ m. absurd (omega arith);
        exact = λ m. absurd (omega arith);
        noted = λ m. absurd (omega arith);
        over = λ _. over-more (λ k w. (w.0, to k w.0 w.1)) (h.over l);
      }
    where
      to : (k s : ℕ) → Has keys spans n k s ⊎ P k s → Has keys spans n k s ⊎ Q k s
      to k s (inl w) = inl w
      to k s (inr w) = inr (f k s w)

  -- one after the other
  pub gains-then : {Q : Spanned} {keys'' spans'' slots'' links'' notes'' : List ℕ} {t : ℕ} → Gains limit keys spans notes n P By keys' spans' slots' links' notes' r → r ≤ limit → Gains limit keys' spans' notes' r Q By keys'' spans'' slots'' links'' notes'' t → Gains limit keys spans notes n (λ k s. P k s ⊎ Q k s) By keys'' spans'' slots'' links'' notes'' t
  gains-then {Q} g l h =
      record {
        kept = h.kept;
        grown = λ m. grown-trans (g.grown l) (h.grown m);
        exact = λ m k s. (λ w. to k s ((h.exact m k s).0 w), λ w. (h.exact m k s).1 (from k s w));
        noted = λ m. noted-then (g.grown l).more (h.grown m).same (g.noted l) (h.noted m);
        over = λ m. over-more (λ k w. (w.0, to k w.0 w.1)) (h.over m);
      }
    where
      first : (k s : ℕ) → Has keys spans n k s ⊎ P k s → Has keys spans n k s ⊎ (P k s ⊎ Q k s)
      first k s (inl w) = inl w
      first k s (inr w) = inr (inl w)

      to : (k s : ℕ) → Has keys' spans' r k s ⊎ Q k s → Has keys spans n k s ⊎ (P k s ⊎ Q k s)
      to k s (inl w) = first k s ((g.exact l k s).0 w)
      to k s (inr w) = inr (inr w)

      from : (k s : ℕ) → Has keys spans n k s ⊎ (P k s ⊎ Q k s) → Has keys' spans' r k s ⊎ Q k s
      from k s (inl w) = inl ((g.exact l k s).1 (inl w))
      from k s (inr (inl w)) = inl ((g.exact l k s).1 (inr w))
      from k s (inr (inr w)) = inr w

-- ---- one key

pub gains-key : {limit : ℕ} {keys spans notes keys' spans' slots' links' notes' : List ℕ} {n r key key' : ℕ} {By : Origin} (m : ℕ) → key ≡ key' → Gains limit keys spans notes n (One key m) By keys' spans' slots' links' notes' r → Gains limit keys spans notes n (One key' m) By keys' spans' slots' links' notes' r
gains-key m e = gains-same (λ k s w. (w.0 ∙ e, w.1)) (λ k s w. (w.0 ∙ sym e, w.1))

module _ {limit key m : ℕ} {keys spans slots links notes keys' spans' slots' links' : List ℕ} {n r : ℕ} (kept : Kept keys spans slots links notes n) (a : Added limit key m keys spans n keys' spans' slots' links' r) where
  -- a new entry has the key
  pub added-key : r ≤ limit → (i : ℕ) → n ≤ i → i < r → get_or keys' i 0 ≡ key
  added-key l i p q = go ((a.exact l (get_or keys' i 0) b.0).0 (i, q, refl, b.1))
    where
      b : (s : ℕ) × (bit (get_or spans' i 0) s ≡ 1)
      b = some-bit (get_or spans' i 0) (λ z. let w = (a.some l i q z).0 in omega arith)

      go : Has keys spans n (get_or keys' i 0) b.0 ⊎ ((get_or keys' i 0 ≡ key) × (bit m b.0 ≡ 1)) → get_or keys' i 0 ≡ key
      go (inl (j, o, e, _)) =
          let w = (a.grown l).more in
          let f = distinct-keys (a.stored l) j i (omega arith) q ((a.grown l).same j o ∙ e) in
          absurd (omega arith)
      go (inr (e, _)) = e

  -- and there is at most one
  pub added-last : r ≤ limit → (r ≡ n → ⊥) → r ≡ n + 1
  added-last l ne = go (below_or_not (n + 1) r)
    where
      more : n ≤ r
      more = (a.grown l).more

      go : (n + 1 < r) ⊎ (r ≤ n + 1) → r ≡ n + 1
      go (inl o) =
          let f = distinct-keys (a.stored l) n (n + 1) (omega arith) o (added-key l n (omega arith) (omega arith) ∙ sym (added-key l (n + 1) (omega arith) o)) in
          absurd (omega arith)
      go (inr o) = let w = more in omega arith

  -- whatever the notes are
  gains-noted : {By : Origin} {notes' : List ℕ} → (r ≤ limit → (length notes' ≡ 3072) × ((i : ℕ) → i < r → Leveled notes' i)) → (r ≤ limit → Noted notes n By keys' notes' r) → Gains limit keys spans notes n (One key m) By keys' spans' slots' links' notes' r
  gains-noted leveled noted =
      record {
        kept = λ l. record { stored = a.stored l; room = (a.room ∙ kept.room.0, (leveled l).0); some = λ i k z. let w = a.some l i k z in kept.some i w.0 w.1; leveled = (leveled l).1 };
        grown = a.grown;
        exact = a.exact;
        noted = noted;
        over = λ l. let w = a.over l in record { keys = nth; distinct = λ i j p q e. apart w i j p q e (below_or_not i n) (below_or_not j n); each = λ i p. each w i p (below_or_not i n) };
      }
    where
      nth : ℕ → ℕ
      nth i = if (ltb i n) (get_or keys i 0) key

      old : (i : ℕ) → i < n → nth i ≡ get_or keys i 0
      old i l = simp (lt-ltb i n l)

      new : (i : ℕ) → n ≤ i → nth i ≡ key
      new i l = simp (le-ltb i n l)

      apart : (n ≡ limit) × (m ≡ 0 → ⊥) × ((i : ℕ) → i < n → get_or keys i 0 ≡ key → ⊥) → (i j : ℕ) → i ≤ limit → j ≤ limit → nth i ≡ nth j → (i < n) ⊎ (n ≤ i) → (j < n) ⊎ (n ≤ j) → i ≡ j
      apart w i j p q e (inl a) (inl b) = distinct-keys kept.stored i j a b (sym (old i a) ∙ e ∙ old j b)
      apart w i j p q e (inl a) (inr b) = absurd (w.2 i a (sym (old i a) ∙ e ∙ new j b))
      apart w i j p q e (inr a) (inl b) = absurd (w.2 j b (sym (old j b) ∙ sym e ∙ new i a))
      apart w i j p q e (inr a) (inr b) = let f = w.0 in omega arith

      each : (n ≡ limit) × (m ≡ 0 → ⊥) × ((i : ℕ) → i < n → get_or keys i 0 ≡ key → ⊥) → (i : ℕ) → i ≤ limit → (i < n) ⊎ (n ≤ i) → With keys spans n (One key m) (nth i)
      each w i p (inl a) = let b = some-bit (get_or spans i 0) (kept.some i a) in (b.0, inl (i, a, sym (old i a), b.1))
      each w i p (inr a) = let b = some-bit m w.1 in (b.0, inr (new i a, b.1))

  module _ {By : Origin} where
    -- no room for it
    pub gains-full : limit < r → Gains limit keys spans notes n (One key m) By keys' spans' slots' links' notes r
    gains-full o = gains-noted (λ l. absurd (omega arith)) (λ l. absurd (omega arith))

    -- to the entry that has it, or in no spans
    pub gains-old : r ≡ n → Gains limit keys spans notes n (One key m) By keys' spans' slots' links' notes r
    gains-old e =
        gains-noted (λ l. (kept.room.1, λ i o. kept.leveled i (omega arith))) (λ l. record { same = λ i k o m. refl; by = λ i p q. absurd (omega arith) })

    -- as a new entry
    pub gains-new : {notes' : List ℕ} (at first second : ℕ) → r ≤ limit → (r ≡ n → ⊥) → notes' ≡ noted notes n at first second → first ≤ n → second ≤ n → By key at first second → Gains limit keys spans notes n (One key m) By keys' spans' slots' links' notes' r
    gains-new {notes'} at first second l ne e p q by =
        subst⁻¹ (λ (x : List ℕ). Gains limit keys spans notes n (One key m) By keys' spans' slots' links' x r) e
        (gains-noted (λ _. (noted-length notes n at first second room few, λ i o. noted-all notes n at first second room few p q kept.leveled i (omega (arith, last))))
        (λ _. record { same = noted-old notes n at first second room few; by = λ i o w. each i o w (omega (arith, last)) }))
      where
        last : r ≡ n + 1
        last = added-last l ne

        room : length notes ≡ 3072
        room = kept.room.1

        few : n < 1024
        few = omega (arith, last, (a.stored l).few)

        x : List ℕ
        x = noted notes n at first second

        each : (i : ℕ) → n ≤ i → i < r → i ≡ n → By (get_or keys' i 0) (word x i 0) (word x i 1) (word x i 2)
        each i o w f =
            subst⁻¹ (λ (j : ℕ). By (get_or keys' j 0) (word x j 0) (word x j 1) (word x j 2)) f
            (subst₃ (By (get_or keys' n 0)) (sym (noted-at notes n at first second room few)) (sym (noted-first notes n at first second room few)) (sym (noted-second notes n at first second room few))
            (subst⁻¹ (λ (k : ℕ). By k at first second) (added-key l n (omega arith) (omega (arith, last))) by))

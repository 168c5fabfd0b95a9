-- What is added to the entries: what they have already, and how what is new tells of new entries.
use mathlib.Core.Path.{◌≡◌, refl, ◌∙◌}
use mathlib.Core.Logic.{◌⊎◌, inl, inr}
use mathlib.Core.List.{List}
use Prim.Native.Nat.{ℕ, ◌≤◌, ◌<◌}
use native.Mathlib.Omega.{arith}
use lib.ListN.{get_or}
use Rattle.meaning.specs.Table.{bit}
use Rattle.store.specs.Entries.{Has}
use Rattle.store.specs.Notes.{word}
use Rattle.store.proofs.Stores.{distinct-keys, grown-refl}
use Rattle.heads.specs.Gaining.{Spanned, Origin, Kept, Gains}
use Rattle.heads.proofs.Gaining.{some-bit, noted-none}

-- all of it is there, and nothing changes
pub gains-there : {limit : ℕ} {keys spans slots links notes : List ℕ} {n : ℕ} {New : Spanned} {By : Origin} → Kept keys spans slots links notes n → n ≤ limit → ((k s : ℕ) → New k s → Has keys spans n k s) → Gains limit keys spans notes n New By keys spans slots links notes n
gains-there {limit} {keys} {spans} {slots} {links} {notes} {n} {New} {By} kept few there =
    record {
      kept = λ _. kept;
      grown = λ _. grown-refl keys spans n;
      exact = λ _ k s. (inl, λ w. back k s w);
      noted = λ _. noted-none notes n By keys;
      over = λ l. absurd (omega arith);
    }
  where
    back : (k s : ℕ) → Has keys spans n k s ⊎ New k s → Has keys spans n k s
    back k s (inl w) = w
    back k s (inr w) = there k s w

-- the key of a new entry is new in some span
pub gains-by-new : {limit : ℕ} {keys spans notes : List ℕ} {n : ℕ} {New : Spanned} {By By' : Origin} {keys' spans' slots' links' notes' : List ℕ} {r : ℕ} → ((k s at first second : ℕ) → New k s → By k at first second → By' k at first second) → Gains limit keys spans notes n New By keys' spans' slots' links' notes' r → Gains limit keys spans notes n New By' keys' spans' slots' links' notes' r
gains-by-new {limit} {keys} {spans} {n = n} {New} {By} {By'} {keys'} {spans'} {notes' = notes'} {r} f h =
    record {
      kept = h.kept;
      grown = h.grown;
      exact = h.exact;
      noted = λ l. record { same = (h.noted l).same; by = λ i p q. new l i p q (some-bit (get_or spans' i 0) ((h.kept l).some i q)) };
      over = h.over;
    }
  where
    new : r ≤ limit → (i : ℕ) → n ≤ i → i < r → (s : ℕ) × (bit (get_or spans' i 0) s ≡ 1) → By' (get_or keys' i 0) (word notes' i 0) (word notes' i 1) (word notes' i 2)
    new l i p q (s, b) = go ((h.exact l (get_or keys' i 0) s).0 (i, q, refl, b))
      where
        go : Has keys spans n (get_or keys' i 0) s ⊎ New (get_or keys' i 0) s → By' (get_or keys' i 0) (word notes' i 0) (word notes' i 1) (word notes' i 2)
        go (inl (j, o, e, _)) =
            let g = h.grown l in
            let m = g.more in
            let d = distinct-keys (h.kept l).stored j i (omega arith) q (g.same j o ∙ e) in
            absurd (omega arith)
        go (inr w) = f (get_or keys' i 0) s (word notes' i 0) (word notes' i 1) (word notes' i 2) w ((h.noted l).by i p q)

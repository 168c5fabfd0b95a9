-- An entry that entry e gave with an entry that is done: its level, and its note as more entries follow.
use mathlib.Core.Path.{◌≡◌, refl, ap, ◌∙◌, subst⁻¹}
use mathlib.Core.Logic.{◌⊎◌, inl, inr}
use mathlib.Core.Bool.{Bool, true, false}
use mathlib.Core.List.{List}
use Prim.Native.Nat.{ℕ, suc, ◌+◌, ◌-◌, ◌/◌, ◌%◌, ◌≤◌, ◌<◌}
use native.Mathlib.Omega.{arith}
use lib.Dec.{eqb}
use lib.ListN.{get_or}
use Rattle.meaning.specs.Lists.{if}
use Rattle.store.specs.Entries.{role_in}
use Rattle.store.specs.Notes.{word, level_of, level_by, level_above, Leveled}
use Rattle.store.proofs.Chains.{equal_or_not}
use Rattle.store.proofs.Notes.{level-by-none, level-by-cited}
use Rattle.rules.specs.Uses.{family_in, kind_in, other_in, source_in}
use Rattle.heads.specs.Heads.{first_by, second_by}
use Rattle.heads.proofs.Heads.{from-heads-more}
use Rattle.premises.specs.Combining.{Combined, Keyed, Offers}
use Rattle.giving.specs.Giving.{FromEntry}

-- ---- the keys of entry e and of the first n entries stay

module _ {keys keys' done : List ℕ} {n e : ℕ} (here : get_or keys' e 0 ≡ get_or keys e 0) (same : (i : ℕ) → i < n → get_or keys' i 0 ≡ get_or keys i 0) where
  offers-same : {code X w : ℕ} → Offers keys done n e code X w → Offers keys' done n e code X w
  offers-same {code} {X} o =
      record {
        entry = o.entry;
        low = o.low;
        some = o.some;
        single = o.single;
        double = o.double;
        partner = subst⁻¹ (λ (x : ℕ). Combined (Keyed x) (get_or keys' e 0) (family_in code) (kind_in code) (other_in code) X) (same o.entry o.low)
            (subst⁻¹ (λ (x : ℕ). Combined (Keyed (get_or keys o.entry 0)) x (family_in code) (kind_in code) (other_in code) X) here o.partner);
      }

  pub from-entry-same : {codes lists : List ℕ} {k at first second : ℕ} → FromEntry codes lists keys done n e k at first second → FromEntry codes lists keys' done n e k at first second
  from-entry-same {k = k} {at = at} {first = first} {second = second} (family, of, f) =
      (family, subst⁻¹ (λ (x : ℕ). (family ≡ role_in x) ⊎ (family ≡ 1024 + role_in x % 32)) here of, record { body = f.body; low = f.low; of = f.of; from = from-heads-more (λ X w o. offers-same o) k at first second f.from })

-- ---- levels

cited-entry : (notes : List ℕ) (w i : ℕ) → w ≡ suc i → level_by notes w ≡ level_of notes i
cited-entry notes w i e = let q : w - 1 ≡ i = omega arith in level-by-cited notes w (λ z. omega arith) ∙ ap (level_of notes) q

-- one level above the entry that gives, where its partner is not above it
cited-above : (notes : List ℕ) (source own other level : ℕ) → level_by notes own ≡ level → level_by notes other ≤ level → level_above notes (first_by source own other) (second_by source own other) ≡ suc level
cited-above notes source own other level e l = go (eqb (source / 256 % 2) 0)
  where
    go : (b : Bool) → level_above notes (if b own other) (if b other own) ≡ suc level
    go true = omega arith
    go false = omega arith

module _ (notes : List ℕ) {done : List ℕ} {e : ℕ} (upto : (i : ℕ) → (get_or done i 0 ≡ 0 → ⊥) → i ≤ e) (rising : (i : ℕ) → i ≤ e → level_of notes i ≤ level_of notes e) where
  partner-level : {keys : List ℕ} {n code X w : ℕ} → Offers keys done n e code X w → level_by notes w ≤ level_of notes e
  partner-level {code = code} {w = w} o = go (equal_or_not (kind_in code) 1)
    where
      go : (kind_in code ≡ 1) ⊎ (kind_in code ≡ 1 → ⊥) → level_by notes w ≤ level_of notes e
      go (inl q) = omega (arith, level-by-none notes w (o.single q))
      go (inr nq) = omega (arith, cited-entry notes w o.entry (o.double nq), rising o.entry (upto o.entry o.some))

  pub given-level : {codes lists keys : List ℕ} {n k at i : ℕ} → Leveled notes i → FromEntry codes lists keys done n e k at (word notes i 1) (word notes i 2) → level_of notes i ≡ suc (level_of notes e)
  given-level {lists = lists} v (_, _, f) =
      let h = f.from in
      let g = h.from in
      v.level
      ∙ (λ u. level_above notes (g.cited u) (g.partner u))
      ∙ cited-above notes (source_in lists h.head) (suc e) h.other (level_of notes e) (cited-entry notes (suc e) e refl) (partner-level h.given)

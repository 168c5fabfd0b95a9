-- What a set gives with the set of an entry.
use Rattle.std.specs.Prelude.{◌≡◌, List, ℕ, suc, ◌-◌, ◌<◌, eqb, get_or}
use Rattle.std.specs.Int.Bits.{bit_and, bit_or}
use Rattle.meaning.specs.Lists.{if}
use Rattle.meaning.specs.Table.{bit}
use Rattle.store.specs.Entries.{role_in, set_in}
use Rattle.heads.specs.Gaining.{Spanned}
use Rattle.waiting.specs.declared.Offer.{Offer}
use Rattle.waiting.specs.declared.Pair.{Pair}

abbrev pub role_of : List ℕ → ℕ → ℕ
role_of keys i = role_in (get_or keys i 0)

-- the set that kinds 2, 4 and 5 give from the sets x and y
pub record Paired (kind x y X : ℕ) : Type 0 where
  pub second : kind ≡ 2 → X ≡ y
  pub joined : (kind ≡ 2 → ⊥) → X ≡ bit_or x y
  pub apart : kind ≡ 5 → bit_and x y ≡ 0

-- in the spans m
abbrev pub WithPair : ℕ → ℕ → ℕ → ℕ → Spanned
WithPair kind x y m X s = Paired kind x y X × (bit m s ≡ 1)

-- the same as one set with its spans, none for ⊗ of sets that share an entity
abbrev pub pair_set : ℕ → ℕ → ℕ → ℕ
pair_set kind x y = if (eqb kind 2) y (bit_or x y)

abbrev pub pair_spans : ℕ → ℕ → ℕ → ℕ → ℕ
pair_spans kind x y m = if (eqb kind 5) (if (eqb (bit_and x y) 0) m 0) m

-- what entry j gives, with its word
abbrev pub pair_at : List ℕ → List ℕ → Offer → ℕ → Pair
pair_at keys done o j =
    record {
      set = pair_set o.kind o.set (set_in (get_or keys j 0));
      spans = pair_spans o.kind o.set (set_in (get_or keys j 0)) (bit_and o.spans (get_or done j 0));
      other = suc j;
    }

-- a set that entry start - 1 or one before it of its role gives with x, with the entry's word; the entry is done in some span
pub record Pairing (keys done : List ℕ) (start kind x X w : ℕ) : Type 0 where
  pub entry : ℕ
  pub low : entry < start
  pub of : role_of keys entry ≡ role_of keys (start - 1)
  pub some : get_or done entry 0 ≡ 0 → ⊥
  pub paired : Paired kind x (set_in (get_or keys entry 0)) X
  pub word : w ≡ suc entry

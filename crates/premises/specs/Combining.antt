-- What a body gives from an entry as its premise, and from others.
use Rattle.std.specs.Prelude.{◌≡◌, ◌⊎◌, List, ℕ, suc, ◌+◌, ◌/◌, ◌%◌, ◌^◌, ◌<◌, get_or}
use Rattle.std.specs.Int.Bits.{bit_and, bit_or}
use Rattle.meaning.specs.Credentials.{◌·◌}
use Rattle.meaning.specs.Sequence.{Relation}
use Rattle.meaning.specs.Table.{bit}
use Rattle.store.specs.Entries.{role_in, set_in}
use Rattle.rules.specs.Uses.{family_in, kind_in, other_in}
use Rattle.heads.specs.Gaining.{Spanned}
use Rattle.closure.specs.Closure.{Found}

-- The set X that a use gives from an entry of its family with the key e, and from the memberships in P.
-- Kind 2 has two uses: by the first premise, and, from family 1,024 on, by the second.
pub data Combined (P : Relation) (e : ℕ) : ℕ → ℕ → ℕ → ℕ → Type 0 where
  inclusion : {family other X : ℕ} → role_in e ≡ family → X ≡ set_in e → Combined P e family 1 other X
  linking : {family t X : ℕ} (C : ℕ) → role_in e ≡ family → set_in e ≡ 2 ^ C → P (C · t) X → Combined P e family 2 t X
  linked : {family Bs X : ℕ} → 1024 + role_in e % 32 ≡ family → P Bs (2 ^ (role_in e / 32)) → X ≡ set_in e → Combined P e family 2 Bs X
  intersection : {family other X : ℕ} → role_in e ≡ family → P other (set_in e) → X ≡ set_in e → Combined P e family 3 other X
  union : {family other X : ℕ} (Y : ℕ) → role_in e ≡ family → P other Y → X ≡ bit_or (set_in e) Y → Combined P e family 4 other X
  disjoint : {family other X : ℕ} (Y : ℕ) → role_in e ≡ family → P other Y → bit_and (set_in e) Y ≡ 0 → X ≡ bit_or (set_in e) Y → Combined P e family 5 other X

-- the families of which entry e can be a premise
abbrev pub InFamily : List ℕ → ℕ → ℕ → Type 0
InFamily keys e family = (family ≡ role_in (get_or keys e 0)) ⊎ (family ≡ 1024 + role_in (get_or keys e 0) % 32)

-- the sets that a body with the code gives from entry e and done entries, in the spans d
abbrev pub ByCode : List ℕ → List ℕ → ℕ → ℕ → ℕ → ℕ → Spanned
ByCode keys done n e d code X s = (bit d s ≡ 1) × Combined (Found keys done n s) (get_or keys e 0) (family_in code) (kind_in code) (other_in code) X

-- the one membership of an entry with the key a
abbrev pub Keyed : ℕ → Relation
Keyed a Ar X = (role_in a ≡ Ar) × (X ≡ set_in a)

-- a set that a body with the code gives from entry e and one entry that is done in some span; the word says which that is, 0 for a body of one premise
pub record Offers (keys done : List ℕ) (n e code X w : ℕ) : Type 0 where
  pub entry : ℕ
  pub low : entry < n
  pub some : get_or done entry 0 ≡ 0 → ⊥
  pub single : kind_in code ≡ 1 → w ≡ 0
  pub double : (kind_in code ≡ 1 → ⊥) → w ≡ suc entry
  pub partner : Combined (Keyed (get_or keys entry 0)) (get_or keys e 0) (family_in code) (kind_in code) (other_in code) X

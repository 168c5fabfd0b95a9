-- What a body gets from an entry, as a move: what `plan` and its parts require and answer.
use Rattle.std.specs.Prelude.{◌≡◌, ◌⊎◌, ◌↔◌, Bool, true, false, List, ℕ, suc, ◌-◌, ◌≤◌, ◌<◌, get_or}
use Rattle.std.specs.Int.Bits.{bit_and}
use Rattle.meaning.specs.Table.{bit}
use Rattle.store.specs.Entries.{set_in, latest_in, Has, Stored}
use Rattle.rules.specs.Uses.{family_in, kind_in, other_in}
use Rattle.heads.specs.Gaining.{Spanned}
use Rattle.heads.specs.Walks.{From}
use Rattle.waiting.specs.Pairs.{role_of, WithPair, Pairing}
use Rattle.premises.specs.declared.Turn.{Turn}
use Rattle.premises.specs.declared.Move.{Move}
use Rattle.premises.specs.Combining.{InFamily, ByCode, Offers}

-- entry e is done in some span, and where that is said, nothing after it is
pub record Firing (done : List ℕ) (n : ℕ) (t : Turn) : Type 0 where
  pub low : t.e < n
  pub some : get_or done t.e 0 ≡ 0 → ⊥
  pub last : t.last ≡ true → (i : ℕ) → t.e < i → get_or done i 0 ≡ 0

-- the code of a body whose family has entry e, within the format's numbers
pub record Codable (keys : List ℕ) (e code : ℕ) : Type 0 where
  pub family : InFamily keys e (family_in code)
  pub kind : (1 ≤ kind_in code) × (kind_in code ≤ 5)
  pub named : 1024 ≤ family_in code → kind_in code ≡ 2
  pub name : kind_in code ≡ 2 → family_in code < 1024 → other_in code < 32

-- the set x in those spans of d in which the entry with the key is done; the word is that of this entry
pub record Single (keys done : List ℕ) (n key x d : ℕ) (m : Move) : Type 0 where
  pub one : m.each ≡ false
  pub set : m.offer.set ≡ x
  pub exact : (s : ℕ) → bit m.offer.spans s ≡ 1 ↔ ((bit d s ≡ 1) × Has keys done n key s)
  pub partner : (m.offer.spans ≡ 0 → ⊥) → (entry : ℕ) × (entry < n) × (get_or keys entry 0 ≡ key) × (get_or done entry 0 ≡ 0 → ⊥) × (m.other ≡ suc entry)
  pub low : m.other ≤ n
  pub start : m.start ≡ 0

-- the same, for every n of which the store has n entries
abbrev pub WithOne : List ℕ → List ℕ → List ℕ → List ℕ → ℕ → ℕ → ℕ → Move → Type 0
WithOne keys slots links done key x d m = (n : ℕ) → Stored keys slots links n → Single keys done n key x d m

-- a walk starts at entry e, whose role is the partner's, where nothing after it is done; else at the latest entry of the partner's role
abbrev pub Walking : List ℕ → Turn → ℕ → ℕ → ℕ → Type 0
Walking links t role partner r = ((t.last ≡ true) × (role ≡ partner) × (r ≡ suc t.e)) ⊎ (r ≡ latest_in links partner)

-- the sets that a move gives, and a set with the word of its partner
abbrev pub MoveSets : Bool → List ℕ → List ℕ → Move → Spanned
MoveSets false keys done m X s = (X ≡ m.offer.set) × (bit m.offer.spans s ≡ 1)
MoveSets true keys done m X s =
    From (role_of keys) (role_of keys (m.start - 1)) m.start 0 (λ j. WithPair m.offer.kind m.offer.set (set_in (get_or keys j 0)) (bit_and m.offer.spans (get_or done j 0))) X s

abbrev pub MoveWords : Bool → List ℕ → List ℕ → Move → ℕ → ℕ → Type 0
MoveWords false keys done m X w = (X ≡ m.offer.set) × (w ≡ m.other)
MoveWords true keys done m X w = Pairing keys done m.start m.offer.kind m.offer.set X w

-- a move gives exactly what the body with the code gives from entry e in the spans d
pub record Planned (keys done : List ℕ) (n e code d : ℕ) (m : Move) : Type 0 where
  pub exact : (X s : ℕ) → MoveSets m.each keys done m X s ↔ ByCode keys done n e d code X s
  pub words : (m.offer.spans ≡ 0 → ⊥) → (X w : ℕ) → MoveWords m.each keys done m X w → Offers keys done n e code X w
  pub low : (m.offer.set < 4294967296) × (m.other ≤ n) × (m.start ≤ n)

-- the same, for every n of which the store has n entries
abbrev pub Plans : List ℕ → List ℕ → List ℕ → List ℕ → Turn → ℕ → ℕ → Move → Type 0
Plans keys slots links done t code d m = (n : ℕ) → Stored keys slots links n → Firing done n t → Planned keys done n t.e code d m

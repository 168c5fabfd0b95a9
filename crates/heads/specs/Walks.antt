-- A loop along the list of a family.
use Rattle.std.specs.Prelude.{◌≡◌, List, ℕ, ◌-◌, ◌≤◌, ◌<◌}
use Rattle.heads.specs.Gaining.{Spanned, Origin, Gains}

-- place c of a list: 0, or one more than an item of the family r
abbrev pub On : (ℕ → ℕ) → ℕ → ℕ → ℕ → Type 0
On family r n c = (c ≡ 0 → ⊥) → (c - 1 < n) × (family (c - 1) ≡ r)

-- what the items of the family r give, of those from place c on
pub record From (family : ℕ → ℕ) (r n c : ℕ) (Gives : ℕ → Spanned) (k s : ℕ) : Type 0 where
  pub item : ℕ
  pub past : c ≤ item
  pub low : item < n
  pub of : family item ≡ r
  pub gives : Gives item k s

-- a loop at place c of the list of a family: what the items passed give was added, new entries by By
pub record Along (limit : ℕ) (keys spans notes : List ℕ) (n : ℕ) (family : ℕ → ℕ) (f count : ℕ) (Gives : ℕ → Spanned) (By : Origin) (keys' spans' slots' links' notes' : List ℕ) (r c : ℕ) : Type 0 where
  pub few : r ≤ limit
  pub gains : Gains limit keys spans notes n (From family f count c Gives) By keys' spans' slots' links' notes' r
  pub on : On family f count c

-- Marks of the entries on which an entry rests. An entry is marked where its mark is not 0.
use Rattle.std.specs.Prelude.{◌≡◌, ◌⊎◌, List, ℕ, suc, ◌-◌, ◌≤◌, ◌<◌, ltb, length, get_or, set}
use Rattle.meaning.specs.Lists.{if}
use Rattle.store.specs.Notes.{word}

abbrev pub Cites : List ℕ → ℕ → ℕ → Type 0
Cites notes i f = (word notes i 1 ≡ suc f) ⊎ (word notes i 2 ≡ suc f)

-- entry i rests on entry j, which is itself, an entry that it cites, or one that these rest on
pub data Rests (notes : List ℕ) : ℕ → ℕ → Type 0 where
  itself : {i : ℕ} → Rests notes i i
  by_cited : {i f j : ℕ} → Cites notes i f → Rests notes f j → Rests notes i j

-- the marks, with that of the entry that a word cites
abbrev pub marked_by : ℕ → List ℕ → List ℕ
marked_by w marks = if (ltb 0 w) (set marks (w - 1) 1) marks

-- and with those of the entries that entry i cites, where it is marked
unfoldable pub spread_by : List ℕ → ℕ → List ℕ → List ℕ
spread_by notes i marks = if (ltb 0 (get_or marks i 0)) (marked_by (word notes i 2) (marked_by (word notes i 1) marks)) marks

-- Entry x and only entries on which it rests are marked; and of the marked ones from i on, those that they cite.
pub record Marked (notes : List ℕ) (x i : ℕ) (marks : List ℕ) : Type 0 where
  pub room : length marks ≡ 1024
  pub start : 0 < get_or marks x 0
  pub rests : (j : ℕ) → 0 < get_or marks j 0 → Rests notes x j
  pub cited : (j f : ℕ) → i ≤ j → 0 < get_or marks j 0 → Cites notes j f → 0 < get_or marks f 0

-- How each entry came about, in three columns of `notes`, of 1,024 words each: of entry i its credential, and one more than the first and than the second entry that it cites,
-- 0 where none is cited. No word is wider than 16 bits, and no level is stored: it follows from the words.
use Rattle.std.specs.Prelude.{◌≡◌, List, ℕ, zero, suc, ◌+◌, ◌-◌, ◌*◌, ◌≤◌, ◌<◌, max, ltb, get_or, set}
use Rattle.meaning.specs.Lists.{if}

abbrev pub word : List ℕ → ℕ → ℕ → ℕ
word notes i k = get_or notes (1024 * k + i) 0

-- the level of entry i, as far as it rests on entries no more than `depth` citations away; and all of it, since entries cite those before them
unfoldable pub level_to : List ℕ → ℕ → ℕ → ℕ
level_to notes zero i = 0
level_to notes (suc depth) i = suc (max (if (ltb 0 (word notes i 1)) (level_to notes depth (word notes i 1 - 1)) 0) (if (ltb 0 (word notes i 2)) (level_to notes depth (word notes i 2 - 1)) 0))

abbrev pub level_of : List ℕ → ℕ → ℕ
level_of notes i = level_to notes (suc i) i

-- the level of the entry that a word cites, 0 where it cites none
abbrev pub level_by : List ℕ → ℕ → ℕ
level_by notes w = if (ltb 0 w) (level_of notes (w - 1)) 0

-- one level above what two words cite
abbrev pub level_above : List ℕ → ℕ → ℕ → ℕ
level_above notes first second = suc (max (level_by notes first) (level_by notes second))

-- the notes with the words of entry n
abbrev pub noted : List ℕ → ℕ → ℕ → ℕ → ℕ → List ℕ
noted notes n at first second = set (set (set notes n at) (1024 + n) first) (2048 + n) second

-- entry i cites entries before it, and is one level above them
pub record Leveled (notes : List ℕ) (i : ℕ) : Type 0 where
  pub first : word notes i 1 ≤ i
  pub second : word notes i 2 ≤ i
  pub level : level_of notes i ≡ level_above notes (word notes i 1) (word notes i 2)

-- the words of the first n entries are the same
abbrev pub SameWords : List ℕ → ℕ → List ℕ → Type 0
SameWords notes n notes' = (i k : ℕ) → i < n → k < 3 → word notes' i k ≡ word notes i k

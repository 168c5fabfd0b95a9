-- What the heads of a body give from sets, and how the entries that they make are noted.
use Rattle.std.specs.Prelude.{◌≡◌, List, ℕ, ◌/◌, ◌%◌, ◌≤◌, ◌<◌, eqb, get_or}
use Rattle.std.specs.Int.Bits.{bit_and}
use Rattle.meaning.specs.Lists.{if}
use Rattle.meaning.specs.Table.{bit}
use Rattle.store.specs.Entries.{key_of}
use Rattle.rules.specs.Uses.{Listed, body_of_head, head_of, source_in, bodies_in, heads_in}
use Rattle.heads.specs.Gaining.{Spanned, Kept}

-- entries, and lists of uses that have the body
pub record Ready (keys spans slots links notes : List ℕ) (n limit : ℕ) (codes valid lists : List ℕ) (body : ℕ) : Type 0 where
  pub kept : Kept keys spans slots links notes n
  pub few : (n ≤ limit) × (limit ≤ 1024)
  pub listed : Listed codes valid lists
  pub low : body < bodies_in lists

-- one key in the spans m
abbrev pub One : ℕ → ℕ → Spanned
One key m k s = (k ≡ key) × (bit m s ≡ 1)

-- what head i gives from a set in the spans m
abbrev pub ByHead : List ℕ → List ℕ → ℕ → ℕ → ℕ → Spanned
ByHead codes valid set m i = One (key_of (head_of codes i) set) (bit_and m (get_or valid i 0))

-- what the heads of a body give from sets in their spans
pub record Headed (codes valid lists : List ℕ) (body : ℕ) (Sets : Spanned) (k s : ℕ) : Type 0 where
  pub head : ℕ
  pub low : head < heads_in lists
  pub of : body_of_head codes head ≡ body
  pub spans : bit (get_or valid head 0) s ≡ 1
  pub set : ℕ
  pub given : Sets set s
  pub key : k ≡ key_of (head_of codes head) set

-- what a source says: the credential, and which of the entry that gives and its partner is cited first and which second
abbrev pub credential_by : ℕ → ℕ
credential_by source = source % 256

abbrev pub first_by : ℕ → ℕ → ℕ → ℕ
first_by source own other = if (eqb (source / 256 % 2) 0) own other

abbrev pub second_by : ℕ → ℕ → ℕ → ℕ
second_by source own other = if (eqb (source / 256 % 2) 0) other own

-- the note of an entry that head i makes from a set
pub record FromHead (codes lists : List ℕ) (own other set i k at first second : ℕ) : Type 0 where
  pub key : k ≡ key_of (head_of codes i) set
  pub credential : at ≡ credential_by (source_in lists i)
  pub cited : first ≡ first_by (source_in lists i) own other
  pub partner : second ≡ second_by (source_in lists i) own other

-- the note of an entry that a head of a body makes from a set with the word of its partner
pub record FromHeads (codes lists : List ℕ) (body own : ℕ) (Sets : ℕ → ℕ → Type 0) (k at first second : ℕ) : Type 0 where
  pub head : ℕ
  pub low : head < heads_in lists
  pub of : body_of_head codes head ≡ body
  pub set : ℕ
  pub other : ℕ
  pub given : Sets set other
  pub from : FromHead codes lists own other set head k at first second

-- one set with the word of its partner
abbrev pub TheOne : ℕ → ℕ → ℕ → ℕ → Type 0
TheOne set other X w = (X ≡ set) × (w ≡ other)

-- r has every span in which a head of the body is valid
abbrev pub Covering : List ℕ → List ℕ → List ℕ → ℕ → ℕ → Type 0
Covering codes valid lists body r = (i s : ℕ) → i < heads_in lists → body_of_head codes i ≡ body → bit (get_or valid i 0) s ≡ 1 → bit r s ≡ 1

abbrev pub Coverings : List ℕ → List ℕ → ℕ → ℕ → Type 0
Coverings valid lists body r = (codes : List ℕ) → Listed codes valid lists → Covering codes valid lists body r

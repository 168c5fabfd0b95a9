-- What the private functions do: a search in one list, an item linked into one, a body and a head that are placed.
use Rattle.std.specs.Prelude.{◌≡◌, ◌⊎◌, List, ℕ, suc, ◌+◌, ◌≤◌, ◌<◌, get_or, set}
use Rattle.std.specs.Int.Bits.{bit_or}
use Rattle.rules.specs.Uses.{bodies_in, heads_in}

-- There is room for the codes of the items below `at`, from `base` on, and one more than the item before each, which is lower, stands from `prev` on.
pub record ItemList (lists : List ℕ) (base prev at : ℕ) : Type 0 where
  pub coded : base + at ≤ 1024
  pub placed : prev + at ≤ 3106
  pub lower : (i : ℕ) → i < at → get_or lists (prev + i) 0 ≤ i

-- 0, or one more than an item with the code
pub record Sought (codes : List ℕ) (base at code r : ℕ) : Type 0 where
  pub low : r ≤ at
  pub found : (i : ℕ) → r ≡ suc i → get_or codes (base + i) 0 ≡ code

-- item n becomes the latest of family f
abbrev pub linked : List ℕ → ℕ → ℕ → ℕ → ℕ → List ℕ
linked lists prev last n f = set (set lists (prev + n) (get_or lists (last + f) 0)) (last + f) (n + 1)

-- the lists with one more body
abbrev pub with_body : List ℕ → ℕ → List ℕ
with_body lists family = set (linked lists 0 512 (bodies_in lists) family) 3104 (bodies_in lists + 1)

-- the lists with one more head of a body, and its source
abbrev pub with_head : List ℕ → ℕ → ℕ → List ℕ
with_head lists body source = set (set (linked lists 1568 2080 (heads_in lists) body) (2592 + heads_in lists) source) 3105 (heads_in lists + 1)

-- place r has the body with the code; it is a new one where r is the number of bodies
pub record BodyPlaced (codes lists : List ℕ) (family code : ℕ) (codes' lists' : List ℕ) (r : ℕ) : Type 0 where
  pub placed :
      ((r < bodies_in lists) × (get_or codes r 0 ≡ code) × (codes' ≡ codes) × (lists' ≡ lists))
      ⊎ ((r ≡ bodies_in lists) × (codes' ≡ set codes (bodies_in lists) code) × (lists' ≡ with_body lists family))

-- spans v were added to a head with the code
pub record Widened (codes valid : List ℕ) (h code v : ℕ) (valid' : List ℕ) : Type 0 where
  pub head : ℕ
  pub low : head < h
  pub coded : get_or codes (512 + head) 0 ≡ code
  pub spans : valid' ≡ set valid head (bit_or (get_or valid head 0) v)

-- spans v were added to a head with the code, or to a new one
pub record HeadPlaced (codes valid lists : List ℕ) (body code v source : ℕ) (codes' valid' lists' : List ℕ) : Type 0 where
  pub placed :
      ((codes' ≡ codes) × (lists' ≡ lists) × Widened codes valid (heads_in lists) code v valid')
      ⊎ ((codes' ≡ set codes (512 + heads_in lists) code) × (lists' ≡ with_head lists body source) × (valid' ≡ set valid (heads_in lists) v))

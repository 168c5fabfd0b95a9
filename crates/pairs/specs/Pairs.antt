-- The only head of a body, and what the entries have already.
use Rattle.std.specs.Prelude.{◌≡◌, Option, None, Some, List, ℕ, ◌<◌}
use Rattle.std.specs.Int.Bits.{bit_and}
use Rattle.meaning.specs.Table.{bit}
use Rattle.store.specs.Entries.{key_of, Has, Searchable}
use Rattle.rules.specs.Uses.{Listed, body_of_head, heads_in}
use Rattle.heads.specs.declared.Gift.{Gift}
use Rattle.waiting.specs.declared.Pair.{Pair}
use Rattle.waiting.specs.Pairs.{pair_at}
use Rattle.portions.specs.declared.Plan.{Plan}
use Rattle.portions.specs.Plans.{gift_of}

-- the body has this head and no other
pub record OnlyHead (codes lists : List ℕ) (body head : ℕ) : Type 0 where
  pub low : head < heads_in lists
  pub of : body_of_head codes head ≡ body
  pub only : (i : ℕ) → i < heads_in lists → body_of_head codes i ≡ body → i ≡ head

-- of the heads of a body, the only one; none is always right
abbrev pub OnlyHeads : List ℕ → ℕ → Option ℕ → Type 0
OnlyHeads lists body None = Unit
OnlyHeads lists body (Some head) = (codes valid : List ℕ) → Listed codes valid lists → OnlyHead codes lists body head

-- the entries have all that a pair gives a head with the role and the spans v
abbrev pub AllThere : List ℕ → List ℕ → ℕ → ℕ → Pair → ℕ → Type 0
AllThere keys spans n role x v = (s : ℕ) → bit (bit_and x.spans v) s ≡ 1 → Has keys spans n (key_of role x.set) s

-- in spans, what entry j gives; in none, where the entries have it all
pub record Lacking (keys spans slots done : List ℕ) (p : Plan) (role v j : ℕ) (g : Gift) : Type 0 where
  pub low : g.set < 4294967296
  pub some : (g.spans ≡ 0 → ⊥) → g ≡ gift_of p (pair_at keys done p.offer j)
  pub none : g.spans ≡ 0 → (n : ℕ) → Searchable keys slots n → AllThere keys spans n role (pair_at keys done p.offer j) v

-- What the heads of a body give from a set and each entry of a role.
use Rattle.std.specs.Prelude.{Result, List, ℕ, ◌-◌, get_or}
use Rattle.std.specs.Int.Bits.{bit_and}
use Rattle.store.specs.Entries.{set_in}
use Rattle.heads.specs.Gaining.{Spanned}
use Rattle.heads.specs.Walks.{From}
use Rattle.heads.specs.Heads.{Headed, FromHeads}
use Rattle.heads.specs.declared.Gift.{Gift}
use Rattle.heads.specs.Stores.{Adds}
use Rattle.store.specs.declared.Store.{Store}
use Rattle.store.specs.declared.Full.{Full}
use Rattle.rules.specs.declared.UseLists.{UseLists}
use Rattle.waiting.specs.declared.Pair.{Pair}
use Rattle.waiting.specs.Pairs.{role_of, WithPair, Pairing}
use Rattle.portions.specs.declared.Plan.{Plan}

-- what the heads of a body give from entry j
abbrev pub WithEntry : List ℕ → List ℕ → List ℕ → ℕ → List ℕ → List ℕ → ℕ → ℕ → ℕ → ℕ → Spanned
WithEntry codes valid lists body keys done kind x d j = Headed codes valid lists body (WithPair kind x (set_in (get_or keys j 0)) (bit_and d (get_or done j 0)))

-- from entry start - 1 and each entry before it of its role; from none where start is 0
abbrev pub WithEach : List ℕ → List ℕ → List ℕ → ℕ → List ℕ → List ℕ → ℕ → ℕ → ℕ → ℕ → Spanned
WithEach codes valid lists body keys done start kind x d =
    From (role_of keys) (role_of keys (start - 1)) start 0 (WithEntry codes valid lists body keys done kind x d)

-- what the entries of a plan give was added to the heads of its body, new entries with their notes
abbrev pub PlanAdds : Plan → UseLists → List ℕ → Store → Store → Result Unit Full → Type 0
PlanAdds p u done s s' r =
    Adds p.limit s (WithEach u.codes u.valid u.lists p.body s.keys done p.start p.offer.kind p.offer.set p.offer.spans)
    (FromHeads u.codes u.lists p.body p.own (Pairing s.keys done p.start p.offer.kind p.offer.set)) s' r

-- what a pair gives the heads of a plan's body
abbrev pub gift_of : Plan → Pair → Gift
gift_of p x = record { limit = p.limit; body = p.body; set = x.set; spans = x.spans; own = p.own; other = x.other }

-- What an entry that gives leaves, and a number that falls whenever one gives.
use Rattle.std.specs.Prelude.{◌≡◌, ◌⊎◌, true, List, ℕ, zero, suc, ◌+◌, ◌-◌, ◌%◌, ◌≤◌, ◌<◌, leb, get_or, set}
use Rattle.meaning.specs.Credentials.{Statement}
use Rattle.meaning.specs.Lists.{if}
use Rattle.store.specs.Entries.{role_in, Grown}
use Rattle.heads.specs.Gaining.{Spanned, Noted}
use Rattle.closure.specs.Closure.{Held, Policy, TooMany, Closed}
use Rattle.premises.specs.Combining.{InFamily}
use Rattle.firing.specs.Firing.{Fires, FromFamily}
use Rattle.giving.specs.declared.Visit.{Visit}

-- How much can still be done in a place with the spans m, if x is done: it falls as x comes to be m, whether or not x was within m.
unfoldable pub left : ℕ → ℕ → ℕ
left m x = if (leb x m) (18446744073709551616 - x) 36893488147419103232

-- the sum of the first n numbers
abbrev pub sum : (ℕ → ℕ) → ℕ → ℕ
sum f zero = 0
sum f (suc n) = sum f n + f n

unfoldable pub lefts : List ℕ → List ℕ → ℕ → ℕ
lefts spans done n = sum (λ i. left (get_or spans i 0) (get_or done i 0)) n

-- where it is said, nothing after the entry is done
abbrev pub LastDone : List ℕ → Visit → Type 0
LastDone done v = v.last ≡ true → (i : ℕ) → v.e < i → get_or done i 0 ≡ 0

-- one key in some span of d that the uses of one of entry e's two families give
abbrev pub FiresBoth : List ℕ → List ℕ → List ℕ → List ℕ → List ℕ → ℕ → ℕ → ℕ → Spanned
FiresBoth codes valid lists keys done n e d k s =
    Fires codes valid lists keys done n e d (role_in (get_or keys e 0)) k s ⊎ Fires codes valid lists keys done n e d (1024 + role_in (get_or keys e 0) % 32) k s

-- the note of an entry that a body of one of its families makes from entry e
abbrev pub FromEntry : List ℕ → List ℕ → List ℕ → List ℕ → ℕ → ℕ → ℕ → ℕ → ℕ → ℕ → Type 0
FromEntry codes lists keys done n e k at first second = (family : ℕ) × InFamily keys e family × FromFamily codes lists keys done n e family k at first second

-- What closing some entries comes to, for the statements in each span that the entries and the uses are of.
pub record Closes (limit : ℕ) (codes valid lists keys spans done : List ℕ) (n : ℕ) (keys' spans' slots' links' notes' done' : List ℕ) (r : ℕ) : Type 0 where
  pub held : r ≤ limit → Held keys' spans' slots' links' notes' done' r
  pub closed : r ≤ limit → (ss : ℕ → List Statement) → Policy ss codes valid lists → Closed ss keys spans done n → Closed ss keys' spans' done' r
  pub over : limit < r → (ss : ℕ → List Statement) → Policy ss codes valid lists → Closed ss keys spans done n → TooMany ss limit

-- entry e gave
pub record Gave (codes valid lists keys spans notes done : List ℕ) (n : ℕ) (v : Visit) (keys' spans' slots' links' notes' done' : List ℕ) (r : ℕ) : Type 0 where
  pub closes : Closes v.limit codes valid lists keys spans done n keys' spans' slots' links' notes' done' r
  pub less : r ≤ v.limit → lefts spans' done' v.limit < lefts spans done v.limit
  pub grown : r ≤ v.limit → Grown keys spans n keys' spans' r
  pub marked : done' ≡ set done v.e (get_or spans v.e 0)
  pub noted : r ≤ v.limit → Noted notes n (FromEntry codes lists keys done' n v.e) keys' notes' r

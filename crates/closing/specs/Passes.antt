-- What entries that give in a pass leave.
use Rattle.std.specs.Prelude.{◌≡◌, Bool, false, List, ℕ, ◌+◌, ◌≤◌, get_or}
use Rattle.meaning.specs.Table.{digit}
use Rattle.giving.specs.Giving.{Closes, lefts}

-- some entries gave, if any
pub record GaveAny (limit : ℕ) (codes valid lists keys spans done : List ℕ) (n : ℕ) (any : Bool) (keys' spans' slots' links' notes' done' : List ℕ) (r : ℕ) (any' : Bool) : Type 0 where
  pub closes : Closes limit codes valid lists keys spans done n keys' spans' slots' links' notes' done' r
  pub less : r ≤ limit → lefts spans' done' limit + digit any' ≤ lefts spans done limit + digit any

-- none gave so far, and entry i has nothing to give
pub record Still (spans done : List ℕ) (any : Bool) (i : ℕ) (spans' done' : List ℕ) : Type 0 where
  pub none : any ≡ false
  pub spans_same : spans' ≡ spans
  pub done_same : done' ≡ done
  pub this : get_or done i 0 ≡ get_or spans i 0

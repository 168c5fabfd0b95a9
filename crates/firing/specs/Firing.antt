-- What an entry gives as a premise of the uses of a family.
use Rattle.std.specs.Prelude.{◌≡◌, List, ℕ, suc, ◌<◌, get_or}
use Rattle.meaning.specs.Table.{bit}
use Rattle.store.specs.Entries.{key_of}
use Rattle.rules.specs.declared.Use.{Use}
use Rattle.rules.specs.Uses.{Uses, Fitting, family_of, bodies_in}
use Rattle.heads.specs.Heads.{FromHeads}
use Rattle.closure.specs.Closure.{Found}
use Rattle.premises.specs.Combining.{Combined, Offers}

-- what the listed uses of a family that are valid in spans of d give from entry e and the done spans of all entries
pub record Fires (codes valid lists keys done : List ℕ) (n e d family k s : ℕ) : Type 0 where
  pub new : bit d s ≡ 1
  pub which : Use
  pub fitting : Fitting which
  pub here : which.family ≡ family
  pub listed : Uses codes valid lists which s
  pub set : ℕ
  pub combined : Combined (Found keys done n s) (get_or keys e 0) family which.kind which.other set
  pub key : k ≡ key_of which.head set

-- the note of an entry that a body of the family makes from entry e
pub record FromFamily (codes lists keys done : List ℕ) (n e family k at first second : ℕ) : Type 0 where
  pub body : ℕ
  pub low : body < bodies_in lists
  pub of : family_of codes body ≡ family
  pub from : FromHeads codes lists body (suc e) (Offers keys done n e (get_or codes body 0)) k at first second

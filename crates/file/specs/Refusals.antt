-- Where each refusal is checked (document 01): rows of a table, and the first that holds.
use Rattle.std.specs.Prelude.{Bool, true, false, ◌||◌, List, [], ◌∷◌, ℕ, eqb, length, replicate}
use Rattle.meaning.specs.Lists.{if}

-- what a call answers: its result, or a refusal's number and place only
pub data Outcome (A : Type 0) : Type 0 where
  done : A → Outcome A
  refused : ℕ → ℕ → Outcome A

-- a row of the table: number, place, condition
pub record RefusalRow : Type 0 where
  pub number : ℕ
  pub place : ℕ
  pub holds : Bool

infix 75 ◌when◌
infix 75 ◌at◌when◌
abbrev pub ◌at◌when◌ : ℕ → ℕ → Bool → RefusalRow
n at p when b = record { number = n; place = p; holds = b }

abbrev pub ◌when◌ : ℕ → Bool → RefusalRow
n when b = n at 0 when b

-- A refusal is given if its condition holds and none above it does, and in no other case.
abbrev pub first : {A : Type 0} → List RefusalRow → A → Outcome A
first [] a = done a
first (r ∷ rows) a = elim r.holds [ true ↦ refused r.number r.place | false ↦ first rows a ]

-- What a call leaves in a lent list: what it writes on success, zeros after 10 and 13, and otherwise what was there.
abbrev pub left : {A : Type 0} → Outcome A → List ℕ → List ℕ → List ℕ
left (done a) before written = written
left (refused n p) before written = if (eqb n 10 || eqb n 13) (replicate (length before) 0) before

-- whether it writes or clears them
abbrev pub writes : {A : Type 0} → Outcome A → Bool
writes (done a) = true
writes (refused n p) = eqb n 10 || eqb n 13

-- number and place of an answer, 0 where it is no refusal
abbrev pub number_of : {A : Type 0} → Outcome A → ℕ
number_of (done a) = 0
number_of (refused n p) = n

abbrev pub place_of : {A : Type 0} → Outcome A → ℕ
place_of (done a) = 0
place_of (refused n p) = p

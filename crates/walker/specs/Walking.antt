-- Walking a file's credentials (document 01, 'The credentials file'). Only this crate makes walkers: other crates have those of `walk` and `next`; `nth` makes one at any place.
use Rattle.std.specs.Prelude.{List, ℕ, ◌+◌, eqb}
use Rattle.std.specs.Borrow.{Bor}
use Rattle.meaning.specs.Lists.{if}
use Rattle.file.specs.Refusals.{Outcome, done, refused}
use Rattle.file.specs.Reading.{read}
use Rattle.file.specs.Values.{found_in, refusal_of}
use Rattle.file.specs.declared.Found.{Found}
use Rattle.file.specs.declared.Found.TheVariants.{Credential, End}
use Rattle.file.specs.declared.Refusal.{Refusal}
use Rattle.walker.specs.declared.Walker.{Walker}
use Rattle.walker.specs.declared.Entry as E
use Rattle.walker.specs.declared.Entry.TheVariants as N

-- refusals 1 to 8 and 17 of the bytes
abbrev pub opened : List ℕ → Refusal
opened f = refusal_of {A = ℕ} (read f 0)

-- a walker over the bytes, at the first credential; or with number and place of their refusal
abbrev pub walker_of : Bor (List ℕ) → Walker
walker_of f = record { file = f; at = 0; number = (opened f.now).number; place = (opened f.now).place }

-- what stands at a place; a refused walker is at its end
abbrev pub found_at : List ℕ → ℕ → ℕ → Found
found_at f at number = if (eqb number 0) (found_in f at) End

abbrev pub following : Found → ℕ → ℕ
following (Credential c) at = at + 1
following End at = at

-- the next place: one further where a credential stands, the same at the end
abbrev pub place_after : List ℕ → ℕ → ℕ → ℕ
place_after f at number = following (found_at f at number) at

abbrev pub next_of : Walker → Walker
next_of w = record { file = w.file; at = place_after w.file.now w.at w.number; number = w.number; place = w.place }

abbrev pub credential_of : Walker → Found
credential_of w = found_at w.file.now w.at w.number

-- number and place that a walker carries; both 0 where it is not refused
abbrev pub refusal_in : Walker → Refusal
refusal_in w = record { number = w.number; place = w.place }

-- an entry as an outcome: what stands at the place, or the documents' number and place
abbrev pub says_entry : E.Entry → Outcome Found
says_entry (N.Credential c) = done (Credential c)
says_entry N.End = done End
says_entry (N.Refused n p) = refused n p

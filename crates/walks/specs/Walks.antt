-- What a walk through a whole file finds.
use Rattle.std.specs.Prelude.{Bool, true, false, List, ℕ}
use Rattle.file.specs.Format.{N}
use Rattle.file.specs.Refusals.{Outcome, done, refused}
use Rattle.file.specs.Reading.{read}
use Rattle.file.specs.declared.Found.{Found}
use Rattle.file.specs.declared.Found.TheVariants.{Credential, End}
use Rattle.file.specs.declared.Refusal.{Refusal}
use Rattle.walks.specs.declared.Counted.{Counted}

abbrev pub stands : Found → Bool
stands (Credential c) = true
stands End = false

abbrev pub counted_as : Refusal → ℕ → Counted
counted_as r n = record { number = r.number; place = r.place; credentials = n }

-- the documents' number and place where a file is refused, otherwise the number of its credentials
abbrev pub count_out : Outcome ℕ → Counted
count_out (done n) = record { number = 0; place = 0; credentials = n }
count_out (refused n p) = record { number = n; place = p; credentials = 0 }

abbrev pub count_in : List ℕ → Counted
count_in f = count_out (read f (N f))

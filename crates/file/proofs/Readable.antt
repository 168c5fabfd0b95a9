-- What stands at a position of a file whose head passes 1 to 3, by the tests of `readable`.
use mathlib.Core.Path.{◌≡◌}
use mathlib.Core.List.{List}
use Prim.Native.Nat.{ℕ, ◌<◌, ◌≤◌}
use borrow.Author.Tests.{lt-ltb, le-ltb, eq-eqb}
use Rattle.file.specs.declared.Found.TheVariants as F
use Rattle.file.specs.Format.{N, body_in}
use Rattle.file.specs.Reading.{head_rows, credential_rows}
use Rattle.file.specs.Values.{first_number, found_of, found_in}

module _ (f : List ℕ) (i : ℕ) (h : first_number (head_rows f) ≡ 0) where
  pub found-end : N f ≤ i → found_in f i ≡ F.End
  found-end l = simp (eq-eqb _ _ h, le-ltb _ _ l)

  pub found-value : i < N f → first_number (credential_rows f i) ≡ 0 → found_in f i ≡ found_of f i (body_in f i)
  found-value l z = simp (eq-eqb _ _ h, lt-ltb _ _ l, eq-eqb _ _ z)

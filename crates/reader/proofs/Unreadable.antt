-- Nothing is read where the head or the credential is refused.
use mathlib.Core.Path.{◌≡◌}
use mathlib.Core.List.{List}
use Prim.Native.Nat.{ℕ, ◌<◌}
use borrow.Author.Tests.{lt-ltb, eq-eqb, ne_eqb}
use Rattle.file.specs.declared.Found.TheVariants.{End}
use Rattle.file.specs.Format.{N}
use Rattle.file.specs.Reading.{head_rows, credential_rows}
use Rattle.file.specs.Values.{first_number, found_in}

module _ (f : List ℕ) (i : ℕ) where
  pub found-refused : (first_number (head_rows f) ≡ 0 → ⊥) → found_in f i ≡ End
  found-refused h = simp (ne_eqb _ _ h)

  pub found-fault : first_number (head_rows f) ≡ 0 → i < N f → (first_number (credential_rows f i) ≡ 0 → ⊥) → found_in f i ≡ End
  found-fault h l z = simp (eq-eqb _ _ h, lt-ltb _ _ l, ne_eqb _ _ z)

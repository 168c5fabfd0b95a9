-- What the sentences of 3 to 7 say of an old file is so.
use mathlib.Core.Path.{◌≡◌}
use mathlib.Core.Bool.{false}
use mathlib.Core.List.{List}
use Prim.Native.Nat.{ℕ, ◌≤◌, ◌<◌}
use lib.ListN.{length}
use borrow.Author.Tests.{leb-true, ltb-true, eqb-false, not-true}
use Rattle.file.specs.Refusals.{Outcome, refused, first}
use Rattle.file.specs.Format.{N}
use Rattle.old_file.specs.OldFormat.{old_length, old_field, old_from, old_to}
use Rattle.old_file.specs.OldReading.{old_in_range, old_zeros, old_reading}
use Rattle.old_file.proofs.Given.{given}

module _ (f : List ℕ) (i : ℕ) where
  abbrev pub RefusedBy : ℕ → Type 0
  RefusedBy n = ◌≡◌ {A = Outcome ℕ} (first (old_reading f) 0) (refused n i)

  -- An old file that is refused by 3 has another length than its credentials take.
  pub length-said : RefusedBy 3 → ¬ (length f ≡ old_length (N f))
  length-said e = eqb-false _ _ (not-true _ (given f 3 i e))

  -- One that is refused by 4 at i has a kind above 5 there.
  pub kind-said : RefusedBy 4 → 5 < old_field f i 0
  kind-said e = ltb-true _ _ (given f 4 i e)

  -- By 5: an entity or a role name that is not below the file's number of them.
  pub range-said : RefusedBy 5 → old_in_range f i ≡ false
  range-said e = not-true _ (given f 5 i e)

  -- By 6: a byte that its kind does not use and that is not 0.
  pub unused-said : RefusedBy 6 → old_zeros f i ≡ false
  unused-said e = not-true _ (given f 6 i e)

  -- By 7: a from that is not below its to.
  pub period-said : RefusedBy 7 → old_to f i ≤ old_from f i
  period-said e = leb-true _ _ (given f 7 i e)

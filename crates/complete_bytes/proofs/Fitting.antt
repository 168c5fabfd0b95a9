-- What the test of the lengths says: the sizes of the lists where it holds, and 9 where it does not.
use mathlib.Core.Path.{◌≡◌, refl, sym, ◌∙◌, subst⁻¹}
use mathlib.Core.Bool.{Bool, true, false, ◌&&◌, not}
use mathlib.Core.List.{[], ◌∷◌, ◌++◌}
use Prim.Native.Nat.{ℕ, ◌/◌, ◌%◌}
use native.Mathlib.Omega.{arith}
use borrow.Author.Tests.{eq-eqb}
use lib.Dec.{T, eqb, leb, eqb→eq, leb→le}
use lib.ListN.{length}
use Rattle.meaning.specs.Lists.{if}
use Rattle.meaning.specs.Table.{table}
use Rattle.meaning.proofs.Tests.{and_left, and_right}
use Rattle.file.specs.Refusals.{first, ◌when◌}
use Rattle.file.specs.Reading.{between}
use Rattle.withdrawals.specs.Source.{Source, credentials, reading}
use Rattle.completing.specs.Completing.{Lent, three_of_one_length, table_full_row, reply_to}
use Rattle.codec.proofs.Entries.{length-entries}
use Rattle.replies.specs.Interface.{not_whole}
use Rattle.replies.proofs.Refusing.{nine-decides}
use Rattle.complete_bytes.specs.Interface.{whole_lent, lent_in, complete_reply}
use Rattle.complete_bytes.specs.Lengths.{table_fits, TableSizes}

pub table-whole : (b : Lent) (n : ℕ) → TableSizes b n → whole_lent b ≡ true
table-whole b n z =
    rw (eq-eqb (length b.roles % 4) 0 (omega (arith, z.roles)), eq-eqb (length b.sets % 4) 0 (omega (arith, z.sets)), eq-eqb (length b.spans % 8) 0 (omega (arith, z.spans))) refl

module _ (b : Lent) where
  abbrev n : ℕ
  n = length b.roles / 4

  -- the test by the lists' numbers of bytes
  abbrev pub fit : Bool
  fit = table_fits (length b.roles) (length b.sets) (length b.spans)

  fit_is : fit ≡ (whole_lent b && three_of_one_length (lent_in b))
  fit_is =
      λ j. whole_lent b && (eqb (sym (length-entries 4 b.sets) j) (sym (length-entries 4 b.roles) j) && eqb (sym (length-entries 8 b.spans) j) (sym (length-entries 4 b.roles) j) && between 1 1024 (sym (length-entries 4 b.roles) j))

  pub table-sizes : fit ≡ true → TableSizes b n
  table-sizes e =
      let t : T fit = subst⁻¹ T e tt in
      let r = eqb (length b.roles % 4) 0 in
      let s = eqb (length b.sets % 4) 0 in
      let p = eqb (length b.spans % 8) 0 in
      let x = eqb (length b.sets / 4) n in
      let y = eqb (length b.spans / 8) n in
      let z = between 1 1024 n in
      let w = and_left (r && s && p) (x && y && z) t in
      let l = and_right (r && s && p) (x && y && z) t in
      let r4 = eqb→eq (length b.roles % 4) 0 (and_left r s (and_left (r && s) p w)) in
      let s4 = eqb→eq (length b.sets % 4) 0 (and_right r s (and_left (r && s) p w)) in
      let p8 = eqb→eq (length b.spans % 8) 0 (and_right (r && s) p w) in
      let sn = eqb→eq (length b.sets / 4) n (and_left x y (and_left (x && y) z l)) in
      let pn = eqb→eq (length b.spans / 8) n (and_right x y (and_left (x && y) z l)) in
      let few = leb→le n 1024 (and_right (leb 1 n) (leb n 1024) (and_right (x && y) z l)) in
      record { roles = omega arith; sets = omega arith; spans = omega arith; few = few }

  pub table-unfit : (f : Source) → fit ≡ false → complete_reply f b ≡ not_whole f 0
  unfolding complete_reply reply_to
  table-unfit f h = go (whole_lent b) (three_of_one_length (lent_in b)) (sym fit_is ∙ h)
    where
      go : (w o : Bool) → (w && o) ≡ false
          → if w (first (reading f ++ (9 when (not o) ∷ table_full_row f (lent_in b) ∷ [])) (length (table (credentials f)))) (not_whole f 0) ≡ not_whole f 0
      go true true e = let z : true ≡ false = e in absurd (subst⁻¹ T (sym z) tt)
      go true false e = nine-decides (reading f) (table_full_row f (lent_in b) ∷ []) (length (table (credentials f))) 0
      go false o e = refl

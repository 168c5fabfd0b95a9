-- What a completed table says: the file is accepted, and the lists hold the table.
use mathlib.Core.Path.{◌≡◌, sym, ap, ◌∙◌, subst, subst⁻¹}
use mathlib.Core.Logic.{◌↔◌}
use mathlib.Core.Bool.{true, ◌&&◌, not}
use mathlib.Core.List.{List, [], ◌∷◌, ◌++◌, map}
use Prim.Native.Nat.{ℕ, ◌-◌, ◌≤◌, ◌<◌}
use native.Mathlib.Omega.{arith}
use borrow.Author.Tests.{ltb-false}
use lib.Dec.{T, ltb, T_not}
use lib.ListN.{length, get_or, length-map}
use Rattle.meaning.specs.Credentials.{Credential, FitsAll}
use Rattle.meaning.specs.Members.{member, members}
use Rattle.meaning.specs.Table.{Row, ends, table, written}
use Rattle.meaning.proofs.Tests.{and_left, and_right, is_false}
use Rattle.meaning.proofs.ListLaws.{map-in, cast}
use Rattle.meaning.proofs.SortLaws.{Within, within-length}
use Rattle.meaning.proofs.OrderLaws.{memberships}
use Rattle.meaning.proofs.Least.{provable-derivable}
use Rattle.meaning.proofs.Rows.{key, members-ascending, members-derivable, written_at, written-derivable, table-ascending}
use Rattle.file.specs.Refusals.{Outcome, done, refused, left}
use Rattle.file.proofs.First.{none_holds, first_holds, holds-first}
use Rattle.withdrawals.specs.Source.{Source, credentials, reading}
use Rattle.withdrawals.specs.Conditions.{Accepted}
use Rattle.withdrawals.proofs.Credentials.{accepted-fits}
use Rattle.withdrawals.proofs.Refusals.{accepted-exact}
use Rattle.asking.specs.Asking.{Request}
use Rattle.asking.proofs.Asked.{all_left, all_right}
use Rattle.writing.specs.Columns.{column}
use Rattle.writing.proofs.Gathering.{keys-ascending}
use Rattle.completing.specs.Completing.{Lent, lent_row, table_full_row, reply_to, TableEnding, table_ending, completing}
use Rattle.joint.specs.Joint.{rows_in, InWrittenValidity, SomeProof}
use Rattle.joint.proofs.Lists.{positions, column-at}

-- at a minute there are no more memberships than over all minutes
pub members-within-table : (cs : List Credential) → FitsAll cs → (m : ℕ) → length (members cs m) ≤ length (table cs)
members-within-table cs w m =
    let n = (within-length memberships (members cs m) (map key (table cs)) (members-ascending cs w m) (keys-ascending (table cs) (table-ascending cs)) among).0 in
    omega (arith, length-map (table cs) key)
  where
    among : Within (members cs m) (map key (table cs))
    among p h =
        let r = ((written_at (ends cs) (table cs) p.role p.set m).0 ((written-derivable cs w m p.role p.set).1 ((members-derivable cs w m).0 h))).1 in
        cast (λ i. member (sym r.2 i) (sym r.3 i)) (map-in key r.1)

module _ (f : Source) (before after : Lent) (count : ℕ) (says : table_ending (done count) after.roles after.sets after.spans ≡ completing f before) where
  abbrev rows : List Row
  rows = table (credentials f)

  abbrev L : ℕ
  L = length before.roles

  replied : done count ≡ reply_to f before
  unfolding completing
  replied = ap (λ (e : TableEnding). e.reply) says

  clear : T (none_holds (reading f ++ (lent_row before ∷ table_full_row f before ∷ [])))
  unfolding reply_to
  clear = first_holds (reading f ++ (lent_row before ∷ table_full_row f before ∷ [])) (length rows) count (sym replied)

  pub accepted : Accepted f
  accepted = (accepted-exact {A = ℕ} 0 f).0 (holds-first (reading f) 0 (all_left (λ r. not r.holds) (reading f) (lent_row before ∷ table_full_row f before ∷ []) clear))

  pub fits : FitsAll (credentials f)
  fits = accepted-fits f accepted

  abbrev value_in : Outcome ℕ → ℕ
  value_in (done n) = n
  value_in (refused n p) = 0

  -- the count is the table's
  pub counted : count ≡ length rows
  unfolding reply_to
  counted = ap value_in (replied ∙ holds-first (reading f ++ (lent_row before ∷ table_full_row f before ∷ [])) (length rows) clear)

  -- the table is no longer than the lists
  pub few : length rows ≤ L
  few =
      ltb-false L (length rows)
      (is_false (ltb L (length rows)) (T_not (ltb L (length rows))
      (and_left (not (ltb L (length rows))) true (and_right (not (lent_row before).holds) (not (table_full_row f before).holds && true)
      (all_right (λ r. not r.holds) (reading f) (lent_row before ∷ table_full_row f before ∷ []) clear)))))

  abbrev left_as : (Row → ℕ) → List ℕ → List ℕ
  left_as field list = left (reply_to f before) list (column field L rows)

  lists : (field : Row → ℕ) (list : List ℕ) → left_as field list ≡ column field L rows
  lists field list = ap (λ (o : Outcome ℕ). left o list (column field L rows)) (sym replied)

  by-role : after.roles ≡ column (λ x. x.role) L rows
  unfolding completing
  by-role = ap (λ (e : TableEnding). e.lists.roles) says ∙ lists (λ x. x.role) before.roles

  by-set : after.sets ≡ column (λ x. x.set) L rows
  unfolding completing
  by-set = ap (λ (e : TableEnding). e.lists.sets) says ∙ lists (λ x. x.set) before.sets

  by-spans : after.spans ≡ column (λ x. x.spans) L rows
  unfolding completing
  by-spans = ap (λ (e : TableEnding). e.lists.spans) says ∙ lists (λ x. x.spans) before.spans

  -- the rows read from the lists are the table
  pub rows-read : rows_in after count ≡ rows
  rows-read = ap (rows_in after) counted ∙ positions no_row rows (λ i. record { role = get_or after.roles i 0; set = get_or after.sets i 0; spans = get_or after.spans i 0 }) at
    where
      no_row : Row
      no_row = record { role = 0; set = 0; spans = 0 }

      at : (i : ℕ) → i < length rows → record { role = get_or after.roles i 0; set = get_or after.sets i 0; spans = get_or after.spans i 0 } ≡ get_or rows i no_row
      at i h =
          let a = ap (λ (l : List ℕ). get_or l i 0) by-role ∙ column-at no_row (λ x. x.role) (L - length rows) rows i h in
          let b = ap (λ (l : List ℕ). get_or l i 0) by-set ∙ column-at no_row (λ x. x.set) (L - length rows) rows i h in
          let c = ap (λ (l : List ℕ). get_or l i 0) by-spans ∙ column-at no_row (λ x. x.spans) (L - length rows) rows i h in
          λ j. record { role = a j; set = b j; spans = c j }

  -- written validity is provability
  pub validity : (q : Request) → InWrittenValidity f after count q ↔ SomeProof f q
  validity q =
      let e = written-derivable (credentials f) fits q.minute q.role q.set in
      let p = provable-derivable (credentials f) q.minute in (
        (λ w. p.1 (e.0 (subst (λ (r : List Row). T (written (ends (credentials f)) r q.role q.set q.minute)) rows-read w))),
        λ w. subst⁻¹ (λ (r : List Row). T (written (ends (credentials f)) r q.role q.set q.minute)) rows-read (e.1 (p.0 w)),
      )

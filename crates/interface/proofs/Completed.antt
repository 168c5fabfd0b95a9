-- A table completed in bytes, read as entries, is the table completed in entries.
use mathlib.Core.Path.{◌≡◌, refl, sym, ap, ◌∙◌, subst, subst⁻¹}
use mathlib.Core.Bool.{Bool, true, false, ◌&&◌, not}
use mathlib.Core.List.{List, [], ◌∷◌, ◌++◌, Memᴰ as Mem}
use Prim.Native.Nat.{ℕ, ◌*◌, ◌/◌, ◌%◌, ◌^◌, ◌-◌, ◌<◌}
use native.Mathlib.Omega.{arith}
use lib.Dec.{T, eqb}
use lib.ListN.{length}
use Rattle.meaning.specs.Lists.{if}
use Rattle.meaning.specs.Table.{Row, table}
use Rattle.meaning.proofs.Tests.{and_right, is_true}
use Rattle.file.specs.Refusals.{Outcome, done, ◌when◌, left}
use Rattle.file.specs.Reading.{between}
use Rattle.file.proofs.First.{first_holds, holds-first, numbered-append}
use Rattle.withdrawals.specs.Source.{Source, credentials, reading}
use Rattle.withdrawals.specs.Conditions.{Accepted}
use Rattle.withdrawals.proofs.Credentials.{accepted-fits, reading-numbered}
use Rattle.withdrawals.proofs.Refusals.{accepted-exact}
use Rattle.asking.proofs.Asked.{all_left, all_right}
use Rattle.writing.specs.Columns.{column}
use Rattle.completing.specs.Completing.{Lent, lent_row, table_full_row, reply_to, table_ending, completing}
use Rattle.codec.specs.Bytes.{bytes_of, entries}
use Rattle.codec.proofs.Entries.{length-entries}
use Rattle.replies.specs.Interface.{word, not_whole, entry_count}
use Rattle.complete_bytes.specs.Interface.{lent_in, complete_reply, complete_bytes}
use Rattle.complete_bytes.specs.Lengths.{TableSizes}
use Rattle.complete_bytes.proofs.Fitting.{fit, table-whole, table-sizes, table-unfit}
use Rattle.interface.proofs.Reading.{entries-bytes_of, word-done}
use Rattle.interface.proofs.Widths.{column-low, row_low, spans-low}

-- 9 for bytes that are not whole entries is no value
nine-refused : (f : Source) → word (λ n. n) (not_whole f 0) < 4294967296 → ⊥
nine-refused f l =
    let rows = reading f ++ 9 when true ∷ [] in
    let e = word-done (λ (n : ℕ). n) rows 0 (numbered-append (reading f) (9 when true ∷ []) (reading-numbered f) tt) l in
    all_right (λ r. not r.holds) (reading f) (9 when true ∷ []) (first_holds rows 0 0 e)

module _ (f : Source) (before after : Lent) (count : ℕ) (replied : count ≡ word (λ n. n) (complete_bytes f before).reply) (lists : after ≡ (complete_bytes f before).lists) (small : count < 4294967296) where
  abbrev rows : List Row
  rows = table (credentials f)

  abbrev size : ℕ
  size = entry_count before.roles

  low : word (λ n. n) (complete_reply f before) < 4294967296
  unfolding complete_bytes
  low = subst (λ (n : ℕ). n < 4294967296) replied small

  -- the bytes are whole entries, of one length
  fits : fit before ≡ true
  fits = go (fit before) refl
    where
      go : (b : Bool) → fit before ≡ b → fit before ≡ true
      go true e = e
      go false e = absurd (nine-refused f (subst (λ (o : Outcome ℕ). word (λ n. n) o < 4294967296) (table-unfit before f e) low))

  pub sizes : TableSizes before size
  sizes = table-sizes before fits

  pub in-limits : between 1 1024 size ≡ true
  in-limits =
      let r = eqb (length before.roles % 4) 0 in
      let s = eqb (length before.sets % 4) 0 in
      let p = eqb (length before.spans % 8) 0 in
      let x = eqb (length before.sets / 4) size in
      let y = eqb (length before.spans / 8) size in
      let z = between 1 1024 size in
      is_true z (and_right (x && y) z (and_right (r && s && p) (x && y && z) (subst⁻¹ T fits tt)))

  by_entries : complete_reply f before ≡ reply_to f (lent_in before)
  unfolding complete_reply
  by_entries = ap (λ (b : Bool). if b (reply_to f (lent_in before)) (not_whole f 0)) (table-whole before size sizes)

  value : reply_to f (lent_in before) ≡ done (length rows)
  unfolding reply_to
  value =
      word-done (λ (n : ℕ). n) (reading f ++ (lent_row (lent_in before) ∷ table_full_row f (lent_in before) ∷ [])) (length rows)
      (numbered-append (reading f) (lent_row (lent_in before) ∷ table_full_row f (lent_in before) ∷ []) (reading-numbered f) tt)
      (subst (λ (o : Outcome ℕ). word (λ n. n) o < 4294967296) by_entries low)

  -- the reply is the count
  counted : complete_reply f before ≡ done count
  unfolding complete_bytes
  counted = by_entries ∙ value ∙ ap done (sym (replied ∙ ap (word (λ (n : ℕ). n)) (by_entries ∙ value)))

  pub accepted : Accepted f
  unfolding reply_to
  accepted =
      let more = lent_row (lent_in before) ∷ table_full_row f (lent_in before) ∷ [] in
      (accepted-exact {A = ℕ} 0 f).0 (holds-first (reading f) 0 (all_left (λ r. not r.holds) (reading f) more (first_holds (reading f ++ more) (length rows) (length rows) value)))

  module _ (k : ℕ) (field : Row → ℕ) (whole : (n : ℕ) → k * n / k ≡ n) (some : 0 < 256 ^ k) (fit : (x : Row) → Mem x rows → field x < 256 ^ k) where
    -- a list of bytes with a column in it, as entries
    column-read : (list : List ℕ) → entries k (left (complete_reply f before) list (bytes_of k (column field size rows))) ≡ column field size rows
    column-read list =
        ap (λ (o : Outcome ℕ). entries k (left o list (bytes_of k (column field size rows)))) counted
        ∙ entries-bytes_of k whole some (column field size rows) (column-low (256 ^ k) some field (size - length rows) rows fit)

    column-left : (list : List ℕ) → left (reply_to f (lent_in before)) list (column field (length (lent_in before).roles) rows) ≡ column field size rows
    column-left list =
        ap (λ (o : Outcome ℕ). left o list (column field (length (lent_in before).roles) rows)) (sym by_entries ∙ counted)
        ∙ ap (λ (n : ℕ). column field n rows) (length-entries 4 before.roles)

    column-same : (list other bytes : List ℕ) → bytes ≡ left (complete_reply f before) list (bytes_of k (column field size rows))
        → entries k bytes ≡ left (reply_to f (lent_in before)) other (column field (length (lent_in before).roles) rows)
    column-same list other bytes e = ap (entries k) e ∙ column-read list ∙ sym (column-left other)

  -- what the bytes hold is what completing leaves in lists of as many entries
  pub as-entries : table_ending (done count) (lent_in after).roles (lent_in after).sets (lent_in after).spans ≡ completing f (lent_in before)
  unfolding completing complete_bytes
  as-entries =
      let w = accepted-fits f accepted in
      let a = column-same 4 (λ x. x.role) (λ n. omega arith) (omega arith) (λ x m. let l = (row_low (credentials f) w x m).0 in omega arith) before.roles (lent_in before).roles after.roles (ap (λ (l : Lent). l.roles) lists) in
      let b = column-same 4 (λ x. x.set) (λ n. omega arith) (omega arith) (λ x m. let l = (row_low (credentials f) w x m).1 in omega arith) before.sets (lent_in before).sets after.sets (ap (λ (l : Lent). l.sets) lists) in
      let c = column-same 8 (λ x. x.spans) (λ n. omega arith) (omega arith) (λ x m. let l = spans-low (credentials f) w x m accepted.few in omega arith) before.spans (lent_in before).spans after.spans (ap (λ (l : Lent). l.spans) lists) in
      λ j. table_ending (sym (sym by_entries ∙ counted) j) (a j) (b j) (c j)

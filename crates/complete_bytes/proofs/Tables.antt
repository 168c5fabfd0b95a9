-- Completing on bytes: its reply and the bytes as it leaves them, from what completing answers on entries.
use mathlib.Core.Path.{◌≡◌, sym, ap, ap₂, ◌∙◌}
use mathlib.Core.Bool.{Bool, false, ◌&&◌, not}
use mathlib.Core.List.{List, [], ◌∷◌, ◌++◌}
use Prim.Native.Nat.{ℕ, ◌*◌, ◌/◌}
use native.Mathlib.Omega.{arith}
use lib.Dec.{eqb, ltb}
use lib.ListN.{length, take, drop}
use Rattle.meaning.specs.Lists.{if}
use Rattle.meaning.specs.Table.{Row, table}
use Rattle.file.specs.Refusals.{Outcome, first, ◌when◌, left, writes}
use Rattle.file.specs.Reading.{between}
use Rattle.withdrawals.specs.Source.{Source, credentials, reading}
use Rattle.writing.specs.Columns.{column}
use Rattle.completing.specs.Completing.{Lent, lent, reply_to, TableEnding, table_ending, completing}
use Rattle.codec.specs.Bytes.{bytes_of, entries}
use Rattle.codec.proofs.Entries.{length-entries}
use Rattle.replies.specs.Interface.{word, not_whole}
use Rattle.replies.proofs.Refusing.{nine-keeps}
use Rattle.replies.proofs.Leaving.{left-kept, room-part, left-bytes}
use Rattle.complete_bytes.specs.Interface.{lent_in, complete_reply, complete_bytes}
use Rattle.complete_bytes.specs.Lengths.{TableSizes}
use Rattle.complete_bytes.proofs.Fitting.{fit, table-whole, table-unfit}

module _ (f : Source) where
  -- a column of the table, in so many places
  abbrev column_of : (Row → ℕ) → ℕ → List ℕ
  column_of field size = column field size (table (credentials f))

  -- ---- lists that are not of one length

  module _ (b : Lent) (e : fit b ≡ false) where
    pub unfit-word : word (λ n. n) (not_whole f 0) ≡ word (λ n. n) (complete_bytes f b).reply
    unfolding complete_bytes
    unfit-word = ap (word (λ (n : ℕ). n)) (sym (table-unfit b f e))

    pub unfit-kept : b ≡ (complete_bytes f b).lists
    unfolding complete_bytes
    unfit-kept =
        let size = length b.roles / 4 in
        let w : writes (complete_reply f b) ≡ false = ap writes (table-unfit b f e) ∙ nine-keeps f 0 in
        λ j. lent (sym (left-kept (complete_reply f b) b.roles (bytes_of 4 (column_of (λ x. x.role) size)) w) j)
        (sym (left-kept (complete_reply f b) b.sets (bytes_of 4 (column_of (λ x. x.set) size)) w) j)
        (sym (left-kept (complete_reply f b) b.spans (bytes_of 8 (column_of (λ x. x.spans) size)) w) j)

  -- ---- lists of one length

  module _ (b t : Lent) (n : ℕ) (z : TableSizes b n) (r : length t.roles ≡ n) (s : length t.sets ≡ n) (p : length t.spans ≡ n) where
    as_many : (k : ℕ) (bs l : List ℕ) → length bs / k ≡ n → length l ≡ n → length (entries k bs) ≡ length l
    as_many k bs l e h = length-entries k bs ∙ e ∙ sym h

    -- the reply depends on the lengths alone
    same-reply : reply_to f (lent_in b) ≡ reply_to f t
    unfolding reply_to
    same-reply =
        let x = as_many 4 b.roles t.roles (omega (arith, z.roles)) r in
        let y = as_many 4 b.sets t.sets (omega (arith, z.sets)) s in
        let v = as_many 8 b.spans t.spans (omega (arith, z.spans)) p in
        let count = length (table (credentials f)) in
        λ j. first (reading f ++ (9 when (not (eqb (y j) (x j) && eqb (v j) (x j) && between 1 1024 (x j))) ∷ 10 when (ltb (x j) count) ∷ [])) count

    bytes-reply : complete_reply f b ≡ reply_to f t
    unfolding complete_reply
    bytes-reply = ap (λ (w : Bool). if w (reply_to f (lent_in b)) (not_whole f 0)) (table-whole b n z) ∙ same-reply

    abbrev left_by : Outcome ℕ → ℕ → Lent
    left_by o size = lent (left o t.roles (column_of (λ x. x.role) size)) (left o t.sets (column_of (λ x. x.set) size)) (left o t.spans (column_of (λ x. x.spans) size))

    module _ {o : Outcome ℕ} {u : Lent} (q : table_ending o u.roles u.sets u.spans ≡ completing f t) where
      reply : reply_to f t ≡ o
      unfolding completing
      reply = sym (ap (λ (e : TableEnding). e.reply) q)

      entries-left : u ≡ left_by o n
      unfolding completing
      entries-left = ap (λ (e : TableEnding). e.lists) q ∙ ap₂ left_by reply r

  -- in lists of 1,024 places, of which the first n are lent
  module _ (b : Lent) (n : ℕ) (z : TableSizes b n) (x y v : List ℕ) (lx : length x ≡ 1024) (ly : length y ≡ 1024) (lv : length v ≡ 1024) where
    abbrev lists : Outcome ℕ → ℕ → Lent
    lists o size =
        lent (left o b.roles (bytes_of 4 (column_of (λ x. x.role) size))) (left o b.sets (bytes_of 4 (column_of (λ x. x.set) size)))
        (left o b.spans (bytes_of 8 (column_of (λ x. x.spans) size)))

    pub completed : {o : Outcome ℕ} {u : Lent} → length u.roles ≡ length (take n x) → length u.sets ≡ length (take n y) → length u.spans ≡ length (take n v)
        → table_ending o u.roles u.sets u.spans ≡ completing f (lent (take n x) (take n y) (take n v))
        → {r : ℕ} → r ≡ word (λ n. n) o → {m : ℕ} → m ≡ if (writes o) n 0 → {l : Lent}
        → l.roles ≡ bytes_of 4 (take m (u.roles ++ drop n x)) ++ drop (4 * m) b.roles
        → l.sets ≡ bytes_of 4 (take m (u.sets ++ drop n y)) ++ drop (4 * m) b.sets
        → l.spans ≡ bytes_of 8 (take m (u.spans ++ drop n v)) ++ drop (8 * m) b.spans
        → (r ≡ word (λ n. n) (complete_bytes f b).reply) × (l ≡ (complete_bytes f b).lists)
    unfolding complete_bytes
    completed {o} {u} i j k q h c d e g =
        let t = lent (take n x) (take n y) (take n v) in
        let kx = room-part n x lx z.few in
        let ky = room-part n y ly z.few in
        let kv = room-part n v lv z.few in
        let said = bytes-reply b t n z kx ky kv ∙ reply b t n z kx ky kv q in
        let held = entries-left b t n z kx ky kv q in
        let size : n ≡ length b.roles / 4 = omega (arith, z.roles) in
        let roles = d ∙ left-bytes n x lx z.few u.roles i 4 o c b.roles z.roles (column_of (λ x. x.role) n) (ap (λ (l : Lent). l.roles) held) in
        let sets = e ∙ left-bytes n y ly z.few u.sets j 4 o c b.sets z.sets (column_of (λ x. x.set) n) (ap (λ (l : Lent). l.sets) held) in
        let spans = g ∙ left-bytes n v lv z.few u.spans k 8 o c b.spans z.spans (column_of (λ x. x.spans) n) (ap (λ (l : Lent). l.spans) held) in
        (h ∙ ap (word (λ (n : ℕ). n)) (sym said), (λ a. lent (roles a) (sets a) (spans a)) ∙ ap₂ lists (sym said) size)

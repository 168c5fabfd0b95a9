-- What the definitions in specs/ are shown to mean. Each claim is proved in the file whose name it is taken from.
-- `FitsAll cs` (roles below 1,024, sets below 2 ^ 32) holds of the credentials of every file that is read.
use mathlib.Core.Path.{◌≡◌}
use mathlib.Core.Logic.{◌⊎◌, ◌↔◌}
use mathlib.Core.List.{List, Memᴰ as Mem}
use Prim.Native.Nat.{ℕ, suc, ◌^◌, ◌<◌, ◌≤◌}
use lib.Dec.{T}
use lib.ListN.{length, get_or}
use Rattle.meaning.specs.Lists.{any, Ascending}
use Rattle.meaning.specs.Credentials.{Body, set, covers, Credential, valid_at, FitsAll}
use Rattle.meaning.specs.Rules.{CW, Derivable}
use Rattle.meaning.specs.Sequence.{S, Least}
use Rattle.meaning.specs.Periods.{Validity, contains, CWP, Maximal}
use Rattle.meaning.specs.Members.{member, members, least_level, In, Before}
use Rattle.meaning.specs.Proofs.{Step, Proof, Provable}
use Rattle.meaning.specs.Table.{ends, in_span, table, in_spans, written, intervals, RowsAscending, Apart, bit, Row, span_count}
use Rattle.meaning.specs.Within.{Within}
use Rattle.meaning.specs.Cases.{Claim, Holds, cases}
use Rattle.meaning.proofs.Derivations as Derivations
use Rattle.meaning.proofs.Fixpoint as Fixpoint
use Rattle.meaning.proofs.Steps as Steps
use Rattle.meaning.proofs.Proofs as Proofs
use Rattle.meaning.proofs.Least as LeastLevels
use Rattle.meaning.proofs.Spans as Spans
use Rattle.meaning.proofs.Rows as Rows
use Rattle.meaning.proofs.Written as Written
use Rattle.meaning.proofs.Intervals as Intervals
use Rattle.meaning.proofs.Validities as Validities
use Rattle.meaning.proofs.Maximal as Maxima
use Rattle.meaning.proofs.Within as Shorter
use Rattle.meaning.proofs.Cases as Cases

module _ (cs : List Credential) where
  -- The rules CW1 to CW6 and the sequence of Definition 3 give the same memberships (document 003, Theorems 1 and 2).
  pub rules-and-sequence : (m : ℕ) {Ar X : ℕ} → Derivable cs m Ar X ↔ ((k : ℕ) × S (valid_at cs m) k Ar X)
  rules-and-sequence = Derivations.derivable cs

  -- The sequence grows, and some S_k is closed: the valid statements give nothing more from it.
  pub sequence-grows : (m : ℕ) {k n : ℕ} → k ≤ n → (Ar X : ℕ) → S (valid_at cs m) k Ar X → S (valid_at cs m) n Ar X
  sequence-grows m = Derivations.S-up (valid_at cs m)

  pub sequence-closes : FitsAll cs → (m : ℕ) → (k : ℕ) × ((Ar X : ℕ) → S (valid_at cs m) (suc k) Ar X → S (valid_at cs m) k Ar X)
  sequence-closes w m = Fixpoint.some-level-closed (valid_at cs m) (Rows.valid-fits cs w m)

  -- A credential can be derived at a minute exactly when it can be inferred over periods with a validity that holds the minute.
  pub periods-and-moments : {m Ar : ℕ} {e : Body} → CW cs m Ar e ↔ ((v : Validity) × CWP cs v Ar e × T (contains v m))
  periods-and-moments = Validities.periods-minutes cs

  -- A maximal validity holds exactly the minutes at which the credential can be derived (Theorem 3), and every membership has one.
  pub maximal-validity : {v : Validity} {m Ar : ℕ} {e : Body} → CWP cs v Ar e → Maximal cs v Ar e → CW cs m Ar e ↔ T (contains v m)
  maximal-validity = Validities.maximal-exact cs

  pub some-maximal-validity : FitsAll cs → {m Ar X : ℕ} → Derivable cs m Ar X → (v : Validity) × CWP cs v Ar (set X) × Maximal cs v Ar (set X)
  some-maximal-validity w {Ar = Ar} {X = X} = Maxima.maximal-exists cs w Ar X

  -- A membership has a proof exactly when it can be derived.
  pub proofs-and-rules : (m : ℕ) {Ar X : ℕ} → Provable cs m Ar X ↔ Derivable cs m Ar X
  proofs-and-rules = LeastLevels.provable-derivable cs

  -- A proof of level k shows a membership of S_k.
  pub proof-level : (m : ℕ) {Ar X k : ℕ} {ss : List Step} → Proof cs m Ar X k ss → S (valid_at cs m) k Ar X
  proof-level = Steps.proof-sound cs

  -- A membership of S_k has a proof of level k or lower.
  pub level-proof : (m k Ar X : ℕ) → S (valid_at cs m) k Ar X → (ss : List Step) × (l : ℕ) × Proof cs m Ar X l ss × (l ≤ k)
  level-proof = Proofs.proof-exists cs

  -- `least_level` is the least k with the membership in S_k.
  pub least-in-sequence : FitsAll cs → (m : ℕ) {Ar X : ℕ} → Derivable cs m Ar X → Least (valid_at cs m) (least_level cs m (member Ar X)) Ar X
  least-in-sequence w m d = LeastLevels.least-counted cs m (Rows.valid-fits cs w m) ((LeastLevels.provable-derivable cs m).1 d)

  -- What has a proof has one of the level `least_level`, and none of a lower one.
  pub least-proof : FitsAll cs → (m : ℕ) {Ar X : ℕ} → Provable cs m Ar X → (ss : List Step) × Proof cs m Ar X (least_level cs m (member Ar X)) ss
  least-proof w m p = LeastLevels.least-proof cs m (LeastLevels.least-counted cs m (Rows.valid-fits cs w m) p)

  pub no-lower-proof : FitsAll cs → (m : ℕ) {Ar X j : ℕ} {ss : List Step} → Proof cs m Ar X j ss → least_level cs m (member Ar X) ≤ j
  no-lower-proof w m {j = j} {ss = ss} p = LeastLevels.proof-bound cs m (LeastLevels.least-counted cs m (Rows.valid-fits cs w m) (j, ss, p)) p

  -- At any minute, no membership's least level exceeds the number of memberships at that minute.
  pub least-level-bound : FitsAll cs → (m : ℕ) {Ar X : ℕ} → Provable cs m Ar X → least_level cs m (member Ar X) ≤ length (members cs m)
  least-level-bound w m p =
      let f = Rows.valid-fits cs w m in
      Fixpoint.least-level (valid_at cs m) (members cs m) (Fixpoint.closure-all (valid_at cs m) f) (LeastLevels.least-counted cs m f p)

  -- `members cs m` has exactly the memberships at the minute.
  pub members-exact : FitsAll cs → (m : ℕ) {Ar X : ℕ} → In (members cs m) Ar X ↔ Derivable cs m Ar X
  members-exact w m = Rows.members-derivable cs w m

  -- It lists each once, ascending by role, then by set, so that its length is the number of memberships.
  pub members-once : FitsAll cs → (m : ℕ) → Ascending Before (members cs m)
  members-once w m = Rows.members-ascending cs w m

  -- The ends are the first and last bounds of the periods that have minutes, ascending, each once.
  pub ends-exact : (x : ℕ) → Mem x (ends cs) ↔ ((c : Credential) × Mem c cs × (c.period.from < c.period.until) × ((x ≡ c.period.from) ⊎ (x ≡ c.period.until)))
  ends-exact = Spans.ends-exact cs

  pub ends-ascend : Ascending (λ (a b : ℕ). a < b) (ends cs)
  ends-ascend = Spans.ends-rising cs

  -- One span has one answer: all its minutes have the same memberships.
  pub one_answer : (i m : ℕ) → T (in_span (ends cs) i m) → members cs m ≡ members cs (get_or (ends cs) i 0)
  one_answer = Spans.span-members cs

  -- The table has exactly the memberships and minutes that the rules give, in ascending order.
  pub table-exact : FitsAll cs → (m Ar X : ℕ) → T (written (ends cs) (table cs) Ar X m) ↔ Derivable cs m Ar X
  table-exact w = Rows.written-derivable cs w

  -- Every row has a span, and no bit beyond the last span is set.
  pub rows-have-spans : {x : Row} → Mem x (table cs) → (i : ℕ) × (i < span_count (ends cs)) × (bit x.spans i ≡ 1)
  rows-have-spans = Rows.table-some cs

  pub rows-within-spans : {x : Row} → Mem x (table cs) → x.spans < 2 ^ span_count (ends cs)
  rows-within-spans = Rows.table_below cs

  pub table-ascends : RowsAscending (table cs)
  table-ascends = Rows.table-ascending cs

  -- A role and a set have one row at most.
  pub one-row : {x y : Row} → Mem x (table cs) → Mem y (table cs) → x.role ≡ y.role → x.set ≡ y.set → x ≡ y
  one-row = Written.one-row cs

  -- The written validity of a row's role and set holds a minute exactly when that one row has a span with it.
  pub written_row : {x : Row} → Mem x (table cs) → (m : ℕ) → T (written (ends cs) (table cs) x.role x.set m) ↔ T (in_spans (ends cs) x.spans m)
  written_row = Written.row_written cs

  -- Without a row of the role and the set, it holds no minute.
  pub written-some-row : (m Ar X : ℕ) → T (written (ends cs) (table cs) Ar X m) ↔ ((x : Row) × Mem x (table cs) × (x.role ≡ Ar) × (x.set ≡ X) × T (in_spans (ends cs) x.spans m))
  written-some-row = Written.written_row (ends cs) (table cs)

  -- The intervals of a span number hold exactly the minutes of its spans; they ascend and never touch.
  pub interval-minutes : (spans m : ℕ) → T (any (λ v. covers v m) (intervals (ends cs) spans)) ↔ T (in_spans (ends cs) spans m)
  interval-minutes spans = Intervals.interval-minutes (ends cs) spans (Spans.ends-rising cs)

  pub intervals-apart : (spans : ℕ) → Apart (intervals (ends cs) spans)
  intervals-apart spans = Intervals.intervals-apart (ends cs) spans (Spans.ends-rising cs)

-- Where periods lie within others, nothing is gained: a proof over them is a proof over the others, no membership has a minute more in the table, and no least
-- level is lower.
module _ (cs ds : List Credential) (w : Within cs ds) where
  pub proofs-within : {m Ar X k : ℕ} {ss : List Step} → Proof cs m Ar X k ss → Proof ds m Ar X k ss
  proofs-within = Shorter.proof-kept cs ds w

  module _ (f : FitsAll cs) (g : FitsAll ds) where
    pub minutes-within : (m Ar X : ℕ) → T (written (ends cs) (table cs) Ar X m) → T (written (ends ds) (table ds) Ar X m)
    minutes-within m Ar X t =
        (table-exact ds g m Ar X).1 ((proofs-and-rules ds m).0 (Shorter.provable-kept cs ds w ((proofs-and-rules cs m).1 ((table-exact cs f m Ar X).0 t))))

    pub levels-within : {m Ar X : ℕ} → Provable cs m Ar X → least_level ds m (member Ar X) ≤ least_level cs m (member Ar X)
    levels-within {m} p = no-lower-proof ds g m (proofs-within (least-proof cs f m p).1)

-- Document 01's cases K1 to K11, as document 02's request One has them, and those added to them, hold.
pub cases-hold : (c : Claim) → Mem c cases → Holds c
cases-hold = Cases.rows-hold cases Cases.passed

-- Demand 3 holds of the bytes, and checking reads no byte past the step count.
use mathlib.Core.Path.{◌≡◌, sym, ap, ap₂, ◌∙◌}
use mathlib.Core.Bool.{Bool, ◌&&◌}
use mathlib.Core.Logic.{dite}
use mathlib.Core.List.{List}
use Prim.Native.Nat.{ℕ, ◌+◌, ◌*◌, ◌/◌, ◌%◌, ◌≤◌, ◌<◌}
use native.Mathlib.Decide.{dec_lt}
use native.Mathlib.Omega.{arith}
use lib.Dec.{eqb}
use lib.ListN.{length, get_or, drop, get_or-eq_default}
use lib.Seq.{get_or-drop, get_or-take}
use Rattle.meaning.specs.Lists.{if}
use Rattle.meaning.specs.Members.{members}
use Rattle.meaning.proofs.Claims.{least-proof, least-level-bound}
use Rattle.file.specs.Refusals.{Outcome, done}
use Rattle.withdrawals.specs.Source.{Source, credentials}
use Rattle.withdrawals.specs.Conditions.{Accepted}
use Rattle.withdrawals.proofs.Credentials.{accepted-fits}
use Rattle.asking.specs.Asking.{Request, StepLists}
use Rattle.completing.specs.Completing.{Lent, table_ending, completing}
use Rattle.querying.specs.Querying.{Counts, level_for}
use Rattle.checking.proofs.Parts.{Agree, AgreeBelow}
use Rattle.checking.proofs.Claims.{part-before-count}
use Rattle.codec.specs.Bytes.{entries}
use Rattle.codec.proofs.Entries.{length-entries, get_d-first}
use Rattle.joint.specs.Joint.{InRange, SomeProof, AfterQuery, JointClaim}
use Rattle.joint.proofs.Completed as Joint
use Rattle.joint.proofs.Claims.{demand-3}
use Rattle.replies.specs.Interface.{word, not_whole, entry_count, whole_steps, step_lists_in}
use Rattle.replies.specs.Lengths.{StepSizes, Rooms}
use Rattle.complete_bytes.specs.Interface.{lent_in, complete_bytes}
use Rattle.complete_bytes.specs.Lengths.{TableSizes}
use Rattle.query_bytes.specs.Interface.{steps_and_level, query_reply, QueriedBytes}
use Rattle.check_bytes.specs.Interface.{check_reply}
use Rattle.interface.specs.Claims.{GivenBytes, AfterQueryBytes, Same, Demand3Bytes, BytesBeforeCount}
use Rattle.interface.proofs.Reading.{entry-same}
use Rattle.interface.proofs.Completed as Completed
use Rattle.interface.proofs.Queried as Queried

-- ---- demand 3

module _ (f : Source) (before after : Lent) (count : ℕ) (replied : count ≡ word (λ n. n) (complete_bytes f before).reply) (lists : after ≡ (complete_bytes f before).lists) (small : count < 4294967296) (q : Request) (range : InRange f q) where
  abbrev L : ℕ
  L = entry_count before.roles

  accepted : Accepted f
  accepted = Completed.accepted f before after count replied lists small

  table-sizes : TableSizes before L
  table-sizes = Completed.sizes f before after count replied lists small

  says : table_ending (done count) (lent_in after).roles (lent_in after).sets (lent_in after).spans ≡ completing f (lent_in before)
  says = Completed.as-entries f before after count replied lists small

  claim : JointClaim f (lent_in after) (length (lent_in before).roles) count q
  claim = demand-3 f (lent_in before) (lent_in after) count says q range

  -- no more memberships at the minute than entries
  members-few : length (members (credentials f) q.minute) ≤ L
  members-few =
      omega (arith, Joint.members-within-table (credentials f) (accepted-fits f accepted) q.minute, Joint.few f (lent_in before) (lent_in after) count says, length-entries 4 before.roles)

  module _ (b b' : StepLists) (r : ℕ) (rooms : Rooms b) (long : length b.credential ≡ length before.roles) (d : QueriedBytes f q b r b') where
    sizes : StepSizes b L
    sizes =
        let c = long ∙ table-sizes.roles in
        record { credential = c; first = rooms.first ∙ c; second = rooms.second ∙ c; sets = rooms.sets ∙ c; few = table-sizes.few }

    sizes-left : StepSizes b' L
    sizes-left = Queried.sizes-left f accepted q b b' L r sizes d

    abbrev answer : Outcome Counts
    answer = query_reply f q b d.steps

    word-said : r ≡ word steps_and_level answer
    word-said = Queried.replied f accepted q b b' L r sizes d

    after-query : AfterQuery f q answer (step_lists_in b')
    after-query =
        claim.query (step_lists_in b) (step_lists_in b') answer (Queried.one-length b L sizes (Completed.in-limits f before after count replied lists small))
        (Queried.as_many f accepted q b b' L r sizes d ∙ sym (length-entries 4 before.roles)) (Queried.as-entries f accepted q b b' L r sizes d)

    given : SomeProof f q → GivenBytes f q r b'
    given p =
        let g = after-query.given p in
        let w = accepted-fits f accepted in
        let l = least-proof (credentials f) w q.minute p in
        let e : r ≡ g.counts.steps + g.counts.level * 65536 = word-said ∙ ap (word steps_and_level) g.replied in
        let few : g.counts.steps ≤ L = omega (arith, g.fits, length-entries 4 b'.credential, sizes-left.credential) in
        let low : g.counts.level ≤ L = omega (arith, g.least (level_for f q) l.0 l.1, least-level-bound (credentials f) w q.minute p, members-few) in
        record {
          steps = g.counts.steps;
          level = g.counts.level;
          replied = e;
          apart = (omega (arith, table-sizes.few), omega (arith, table-sizes.few));
          fits = omega (arith, sizes-left.credential);
          zeros = g.zeros;
          handed = g.handed;
          checked = ap (word (λ (n : ℕ). n)) (Queried.check-entries f q b' L g.counts.steps sizes-left ∙ g.checked);
          least = g.least;
        }

    after-query-bytes : AfterQueryBytes f q r b'
    after-query-bytes =
        record { given = given; none = ((λ e p. let h = (given p).apart.1 in omega arith), λ n. word-said ∙ ap (word steps_and_level) (after-query.none.1 n)) }

pub demand-3-bytes : Demand3Bytes
demand-3-bytes f before after count replied lists small q range = record {
  validity = (claim f before after count replied lists small q range).validity;
  query = after-query-bytes f before after count replied lists small q range;
}

-- ---- checking reads no byte past the step count

entries-agree : (steps : ℕ) (x y : List ℕ) → Same (4 * steps) x y → Agree steps (entries 4 x) (entries 4 y)
entries-agree steps x y (s, t) = record { long = length-entries 4 x ∙ ap (λ (n : ℕ). n / 4) s ∙ sym (length-entries 4 y); same = same }
  where
    byte : (i : ℕ) → i < 4 * steps → get_or x i 0 ≡ get_or y i 0
    byte i h = sym (get_or-take (4 * steps) x i 0 h) ∙ ap (λ (l : List ℕ). get_or l i 0) t ∙ get_or-take (4 * steps) y i 0 h

    same : (i : ℕ) → i < steps → get_or (entries 4 x) i 0 ≡ get_or (entries 4 y) i 0
    same i h =
        dite (dec_lt i (length x / 4))
        (λ low.
        get_d-first 4 (length x / 4) x i low
        ∙ entry-same 4 (drop (4 * i) x) (drop (4 * i) y) (λ j l. get_or-drop (4 * i) x j 0 ∙ byte (4 * i + j) (omega arith) ∙ sym (get_or-drop (4 * i) y j 0))
        ∙ sym (get_d-first 4 (length y / 4) y i (omega arith)))
        (λ high. get_or-eq_default (entries 4 x) 0 (omega (arith, length-entries 4 x)) ∙ sym (get_or-eq_default (entries 4 y) 0 (omega (arith, length-entries 4 y))))

pub bytes-before-count : BytesBeforeCount
unfolding check_reply
bytes-before-count f q b c steps a =
    let w : whole_steps b ≡ whole_steps c =
    λ j. eqb (a.credential.0 j % 4) 0 && eqb (a.first.0 j % 4) 0 && eqb (a.second.0 j % 4) 0 && eqb (a.sets.0 j % 4) 0 in
    let same : AgreeBelow steps (step_lists_in b) (step_lists_in c) =
    record {
      credential = entries-agree steps b.credential c.credential a.credential;
      first = entries-agree steps b.first c.first a.first;
      second = entries-agree steps b.second c.second a.second;
      sets = entries-agree steps b.sets c.sets a.sets;
    } in
    ap₂ (λ (x : Bool) (o : Outcome ℕ). if x o (not_whole f 0)) w (part-before-count f q (step_lists_in b) steps same)

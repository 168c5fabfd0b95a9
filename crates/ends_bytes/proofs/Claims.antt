-- What the ends on bytes are shown to mean: when the reply is a count, and what the bytes then hold.
use mathlib.Core.Path.{◌≡◌, ap, ◌∙◌}
use mathlib.Core.Logic.{◌↔◌}
use mathlib.Core.Bool.{not}
use mathlib.Core.List.{List, [], ◌∷◌, ◌++◌}
use Prim.Native.Nat.{ℕ, ◌≤◌, ◌<◌}
use native.Mathlib.Omega.{arith}
use lib.Dec.{eqb}
use lib.ListN.{length}
use Rattle.meaning.specs.Table.{ends}
use Rattle.file.specs.Refusals.{Outcome, first, ◌when◌, left}
use Rattle.file.specs.Format as F
use Rattle.file.specs.Reading as Reading
use Rattle.withdrawals.specs.List.{none}
use Rattle.withdrawals.specs.Source.{Source, ◌without◌, credentials}
use Rattle.withdrawals.proofs.Claims.{uncut-first}
use Rattle.withdrawals.specs.Conditions.{Accepted}
use Rattle.survey.specs.Ends.{padded}
use Rattle.codec.specs.Bytes.{bytes_of, entries}
use Rattle.replies.specs.Interface.{word, Bytes}
use Rattle.replies.proofs.Widths.{end_low, places-read}
use Rattle.ends_bytes.specs.Interface.{ends_reply, ends_bytes}
use Rattle.ends_bytes.proofs.Ways.{Way, refuses, replies, way, success}

module _ (f : Source) (b : List ℕ) where
  abbrev all : List ℕ
  all = ends (credentials f)

  abbrev reply : ℕ
  reply = word (λ n. n) (ends_reply f b)

  module _ (c : Accepted f) (l : length b ≡ 256) where
    -- Where the file and its withdrawals are accepted and the list has 256 bytes, the reply is the count of the ends, at most 64.
    pub count-of-ends : (reply ≡ length all) × (length all ≤ 64)
    count-of-ends = (ap (word (λ (n : ℕ). n)) (success f b c l), c.few)

    -- The bytes, read as entries, are then the ends, and zeros after them.
    pub ends_read : Bytes f.file → entries 4 (ends_bytes f b) ≡ padded 64 all
    unfolding ends_bytes
    ends_read small = ap (λ (o : Outcome ℕ). entries 4 (left o b (bytes_of 4 (padded 64 all)))) (success f b c l) ∙ places-read all c.few (end_low f small c)

  -- The reply is below 4,294,967,296 exactly then.
  pub count-exactly : reply < 4294967296 ↔ (Accepted f × (length b ≡ 256))
  count-exactly = (λ h. go h (way f b), λ s. let k = count-of-ends s.0 s.1 in omega arith)
    where
      go : reply < 4294967296 → Way f b → Accepted f × (length b ≡ 256)
      go h (refuses r) = absurd (omega (arith, r.0))
      go h (replies c l) = (c, l)

  -- Otherwise the bytes are as they were.
  pub bytes-kept : ¬ (Accepted f × (length b ≡ 256)) → ends_bytes f b ≡ b
  bytes-kept h = go (way f b)
    where
      go : Way f b → ends_bytes f b ≡ b
      go (refuses r) = r.1
      go (replies c l) = absurd (h (c, l))

-- With the list of count 0 the reply is by the file's own refusals and credentials.
pub uncut-ends : (f b : List ℕ) → ends_reply (f without none) b
    ≡ first (Reading.reading f ++ (9 when (not (eqb (length b) 256)) ∷ [])) (length (ends (F.credentials f)))
unfolding ends_reply
uncut-ends f b = uncut-first f (λ cs. 9 when (not (eqb (length b) 256)) ∷ []) (λ cs. length (ends cs))

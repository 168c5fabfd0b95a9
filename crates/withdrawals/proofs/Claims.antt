-- What reading a file with a withdrawal list is shown to mean (document 02, Four). Each claim is proved in the file whose name it is taken from.
use mathlib.Core.Path.{◌≡◌, refl}
use mathlib.Core.Logic.{◌⊎◌, inr, ◌↔◌}
use mathlib.Core.List.{List, [], ◌∷◌, ◌++◌, map, Memᴰ as Mem}
use Prim.Native.Nat.{ℕ, ◌+◌, ◌<◌, ◌≤◌}
use lib.Dec.{T}
use lib.ListN.{length, take, replicate}
use Rattle.meaning.specs.Credentials.{Period, Credential, covers, credential_at, FitsAll}
use Rattle.meaning.specs.Members.{member, least_level}
use Rattle.meaning.specs.Proofs.{Step, Proof, Provable}
use Rattle.meaning.specs.Table.{ends_of, ends, table, written}
use Rattle.meaning.specs.Within.{Within}
use Rattle.meaning.proofs.Claims.{proofs-within, minutes-within, levels-within}
use Rattle.file.specs.Refusals.{RefusalRow, Outcome, done, refused, first}
use Rattle.file.specs.Format as F
use Rattle.file.specs.Format.{serial_of, from_of, to_of, period_of}
use Rattle.file.specs.Reading as Reading
use Rattle.file.specs.Conditions as File
use Rattle.file.specs.Samples.{p, kinds}
use Rattle.file.proofs.Accepted as FileAccepted
use Rattle.withdrawals.specs.List.{count, serial_at, minute_at, none}
use Rattle.withdrawals.specs.Cut.{cut}
use Rattle.withdrawals.specs.Source.{Source, ◌without◌, N, credential_in, credentials, reading, read}
use Rattle.withdrawals.specs.Conditions.{Shaped, Misshapen, Founded, Twice, Unknown, Readable, Accepted, Refused, file}
use Rattle.withdrawals.specs.Samples.{one, both, wide, spread}
use Rattle.withdrawals.proofs.Refusals as Refusals
use Rattle.withdrawals.proofs.Cuts as Cuts
use Rattle.withdrawals.proofs.Credentials as Credentials
use Rattle.withdrawals.proofs.Ends as Ends
use Rattle.withdrawals.proofs.Exact as Exact

-- ---- a period

module _ (v : Period) (w : ℕ) where
  -- The cut period covers a minute exactly when the period does and the withdrawal has not begun.
  pub cut-covers : (m : ℕ) → T (covers (cut v w) m) ↔ (T (covers v m) × (m < w))
  cut-covers = Cuts.cut-covers v w

  -- In the period after `from`, it ends where the withdrawal begins; at or before `from`, it has no minutes and no ends; later, nothing changes.
  pub cut_inside : w ≤ v.until → cut v w ≡ record { from = v.from; until = w }
  cut_inside = Cuts.cut_inside v w

  pub cut_out : w ≤ v.from → ((m : ℕ) → ¬ T (covers (cut v w) m)) × (ends_of (cut v w) ≡ [])
  cut_out = Cuts.cut_out v w

  pub cut_later : v.until ≤ w → cut v w ≡ v
  cut_later = Cuts.cut_later v w

-- ---- refusals

module _ (s : Source) {A : Type 0} (a : A) where
  -- A refusal is given exactly when its condition holds and none above it does, with its place; none, exactly when no condition holds.
  pub refusals-exact : (n p : ℕ) → ◌≡◌ {A = Outcome A} (read s a) (refused n p) ↔ Refused s n p
  refusals-exact = Refusals.refused-exact a s

  pub accepted-exact : ◌≡◌ {A = Outcome A} (read s a) (done a) ↔ Accepted s
  accepted-exact = Refusals.accepted-exact a s

  -- 20, 21 and 8, written out.
  pub twenty-exact : (q : ℕ) → ◌≡◌ {A = Outcome A} (read s a) (refused 20 q) ↔ ((q ≡ 0) × Readable s × Misshapen s.withdrawals)
  twenty-exact = Exact.twenty-exact s a

  pub twenty-one-exact : (q : ℕ) → ◌≡◌ {A = Outcome A} (read s a) (refused 21 q)
      ↔ ((q ≡ 0) × Readable s × Shaped s.withdrawals × (Twice s.withdrawals ⊎ Unknown s))
  twenty-one-exact = Exact.twenty-one-exact s a

  -- serial 0 is on no credential
  pub zero-refused : Readable s → Shaped s.withdrawals → (k : ℕ) → k < count s.withdrawals → serial_at s.withdrawals k ≡ 0
      → ◌≡◌ {A = Outcome A} (read s a) (refused 21 0)
  zero-refused r h k l z = (twenty-one-exact 0).1 (refl, r, h, inr (Exact.zero-unknown s r k l z))

  pub eight-exact : (q : ℕ) → ◌≡◌ {A = Outcome A} (read s a) (refused 8 q)
      ↔ ((q ≡ 0) × Readable s × Shaped s.withdrawals × Founded s × (64 < length (ends (credentials s))))
  eight-exact = Exact.eight-exact s a

-- ---- credentials

module _ (s : Source) where
  -- The list of credentials has the credential of each position below N with its period cut, and no other.
  pub as-many-credentials : length (credentials s) ≡ N s
  as-many-credentials = Credentials.length-credentials s

  pub credential-at-position : (i : ℕ) → i < N s → credential_at (credentials s) i ≡ credential_in s i
  credential-at-position = Credentials.credential-at s

  -- Where the file passes 1 to 7 and 17: a credential covers exactly the minutes from its `from` to its `to` before every withdrawal of its serial.
  pub source-covers : Readable s → (i : ℕ) → i < N s → (m : ℕ) → T (covers (credential_in s i).period m)
      ↔ ((from_of s.file i ≤ m) × (m ≤ to_of s.file i)
      × ((k : ℕ) → k < count s.withdrawals → serial_at s.withdrawals k ≡ serial_of s.file i → m < minute_at s.withdrawals k))
  source-covers = Exact.source-covers s

  -- and the ends that 8 counts are exactly the bounds of the periods that are left
  pub counted-ends : Readable s → (x : ℕ) → Mem x (ends (credentials s))
      ↔ ((i : ℕ) × (i < N s) × (from_of s.file i < (credential_in s i).period.until) × ((x ≡ from_of s.file i) ⊎ (x ≡ (credential_in s i).period.until)))
  counted-ends = Ends.counted-ends s

  module _ (r : Readable s) (d : Founded s) where
    -- The one withdrawal of a credential's serial cuts its period at that minute; a credential whose serial is not in the list keeps its period.
    pub period-of-withdrawal : (i k : ℕ) → i < N s → k < count s.withdrawals → serial_at s.withdrawals k ≡ serial_of s.file i
        → (credential_in s i).period ≡ cut (period_of s.file i) (minute_at s.withdrawals k)
    period-of-withdrawal = Exact.period-of-withdrawal s r d

    pub period-untouched : (i : ℕ) → i < N s → ((k : ℕ) → k < count s.withdrawals → ¬ (serial_at s.withdrawals k ≡ serial_of s.file i))
        → (credential_in s i).period ≡ period_of s.file i
    period-untouched = Exact.period-untouched s r d

  -- Roles and sets are within the format's numbers, so that all claims about the meaning apply.
  pub within-format : Accepted s → FitsAll (credentials s)
  within-format = Credentials.accepted-fits s

-- ---- nothing withdrawn

module _ (f : List ℕ) where
  -- The list of count 0 gives exactly the file's own credentials and refusals, whatever rows follow.
  pub uncut-credentials : credentials (f without none) ≡ F.credentials f
  uncut-credentials = Credentials.none-credentials f

  pub uncut-reading : {A : Type 0} (more : List RefusalRow) (a : A) → first (reading (f without none) ++ more) a ≡ first (Reading.reading f ++ more) a
  uncut-reading = Credentials.none-reading f

  -- So does every answer made of them: those of the five calls are written out in the claims of `completing`, `querying`, `checking`, `ends_bytes` and
  -- `intervals_bytes`.
  pub uncut-first : {A : Type 0} (more : List Credential → List RefusalRow) (value : List Credential → A)
      → first (reading (f without none) ++ more (credentials (f without none))) (value (credentials (f without none)))
      ≡ first (Reading.reading f ++ more (F.credentials f)) (value (F.credentials f))
  uncut-first = Credentials.none_first f

  pub uncut-accepted : Accepted (f without none) ↔ File.Accepted f
  uncut-accepted = Exact.uncut-accepted f

  pub uncut-refused : (n q : ℕ) → Refused (f without none) n q ↔ File.Refused f n q
  uncut-refused = Exact.uncut-refused f

-- ---- withdrawing takes and never gives

module _ (f w : List ℕ) where
  -- The same statements at the same positions, each period within the file's.
  pub periods-within : Within (credentials (f without w)) (F.credentials f)
  periods-within = Credentials.withdrawn-within f w

  -- So a proof over the cut credentials is one over the file's, with the same level,
  pub withdrawing-takes : {m Ar X k : ℕ} {ss : List Step} → Proof (credentials (f without w)) m Ar X k ss → Proof (F.credentials f) m Ar X k ss
  withdrawing-takes = proofs-within (credentials (f without w)) (F.credentials f) periods-within

  -- no membership gains a minute in the table, and no least level falls.
  module _ (r : Readable (f without w)) where
    pub no-minute-gained : (m Ar X : ℕ) → T (written (ends (credentials (f without w))) (table (credentials (f without w))) Ar X m)
        → T (written (ends (F.credentials f)) (table (F.credentials f)) Ar X m)
    no-minute-gained =
        minutes-within (credentials (f without w)) (F.credentials f) periods-within (Credentials.readable-fits (f without w) r)
        (FileAccepted.credentials-fit f r.head r.good)

    pub no-level-falls : {m Ar X : ℕ} → Provable (credentials (f without w)) m Ar X
        → least_level (F.credentials f) m (member Ar X) ≤ least_level (credentials (f without w)) m (member Ar X)
    no-level-falls =
        levels-within (credentials (f without w)) (F.credentials f) periods-within (Credentials.readable-fits (f without w) r)
        (FileAccepted.credentials-fit f r.head r.good)

-- ---- set P, whose credentials have serials 1, 2, 3 and periods 10..20, 15..30, 0..18, both bounds covered

abbrev during : ℕ → ℕ → Period
during from until = record { from = from; until = until }

abbrev Reads : List ℕ → Outcome ℕ → Type 0
Reads w o = ◌≡◌ {A = Outcome ℕ} (read (p without w) 0) o

-- serial 3 withdrawn: at 17, at its `to`, right after it, at its `from`
pub p-ends :
    (ends (credentials (p without none)) ≡ 0 ∷ 10 ∷ 15 ∷ 19 ∷ 21 ∷ 31 ∷ []) × (ends (credentials (p without one 3 17)) ≡ 0 ∷ 10 ∷ 15 ∷ 17 ∷ 21 ∷ 31 ∷ [])
    × (ends (credentials (p without one 3 18)) ≡ 0 ∷ 10 ∷ 15 ∷ 18 ∷ 21 ∷ 31 ∷ []) × (ends (credentials (p without one 3 19)) ≡ 0 ∷ 10 ∷ 15 ∷ 19 ∷ 21 ∷ 31 ∷ [])
    × (ends (credentials (p without one 3 0)) ≡ 10 ∷ 15 ∷ 21 ∷ 31 ∷ [])
unfolding credentials
p-ends = (refl, refl, refl, refl, refl)

-- serials first, then minutes: serial 1 at 12 and serial 2 at 16
pub p-both : ends (credentials (p without both 1 2 12 16)) ≡ 0 ∷ 10 ∷ 12 ∷ 15 ∷ 16 ∷ 19 ∷ []
unfolding credentials
p-both = refl

-- serial 3 withdrawn at its `from`, 0: it keeps its position with an empty period
pub p-emptied : map (λ (c : Credential). c.period) (credentials (p without one 3 0)) ≡ during 10 21 ∷ during 15 31 ∷ during 0 0 ∷ []
unfolding credentials
p-emptied = refl

-- the bounds of 20 and 21: two lists that pass; no bytes, one, three, pairs too short for their count, a count of 257; an unknown serial, serial 0, a serial twice
pub p-lists :
    Reads none (done 0) × Reads (both 2 1 12 16) (done 0) × Reads [] (refused 20 0) × Reads (0 ∷ []) (refused 20 0) × Reads (0 ∷ 0 ∷ 0 ∷ []) (refused 20 0)
    × Reads (2 ∷ 0 ∷ 1 ∷ 0 ∷ 0 ∷ 0 ∷ 9 ∷ 0 ∷ 0 ∷ 0 ∷ []) (refused 20 0) × Reads (1 ∷ 1 ∷ []) (refused 20 0) × Reads (one 4 17) (refused 21 0)
    × Reads (one 0 17) (refused 21 0) × Reads (both 2 2 12 16) (refused 21 0)
unfolding reading credentials
p-lists = (refl, refl, refl, refl, refl, refl, refl, refl, refl, refl)

-- 256 withdrawals are read, 257 are not.
pub most-withdrawals : Reads (0 ∷ 1 ∷ replicate 2048 0) (refused 21 0) × Reads (1 ∷ 1 ∷ replicate 2056 0) (refused 20 0)
unfolding reading credentials
most-withdrawals = (refl, refl)

-- ---- every byte of a list, on the sample of all kinds

pub wide-entries : (serial_at wide 0 ≡ 0xB4B3B2B1) × (serial_at wide 1 ≡ 0xC4C3C2C1) × (minute_at wide 0 ≡ 0x28272625) × (minute_at wide 1 ≡ 0x14131212)
wide-entries = (refl, refl, refl, refl)

-- the first serial is of the second credential, whose `to` the minute is; the second of the first, which keeps one minute
pub wide-periods : map (λ (c : Credential). c.period) (take 2 (credentials (kinds without wide))) ≡ during 0x14131211 0x14131212 ∷ during 0x24232221 0x28272625 ∷ []
unfolding credentials
wide-periods = refl

pub wide_read : ◌≡◌ {A = Outcome ℕ} (read (kinds without wide) 0) (done 0)
unfolding reading credentials
wide_read = refl

-- ---- 33 periods of one minute each, 66 ends: refused by itself, and read where one of them is withdrawn at its only minute or before; 20 and 21 come before 8

abbrev Spread : List ℕ → Outcome ℕ → Type 0
Spread w o = ◌≡◌ {A = Outcome ℕ} (read (spread without w) 0) o

pub spread-lists :
    ◌≡◌ {A = Outcome ℕ} (Reading.read spread 0) (refused 8 0) × Spread none (refused 8 0) × Spread (one 33 0) (done 0) × Spread (one 33 64) (done 0)
    × Spread (one 33 65) (refused 8 0) × Spread [] (refused 20 0) × Spread (one 34 0) (refused 21 0)
unfolding reading credentials Reading.reading F.credentials
spread-lists = (refl, refl, refl, refl, refl, refl, refl)

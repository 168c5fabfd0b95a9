-- What finding the entry of a request comes to.
use Rattle.std.specs.Prelude.{◌≡◌, not, List, [], ◌∷◌, ◌++◌, ℕ, suc, ◌<◌, eqb, ltb, length, get_or}
use Rattle.meaning.specs.Lists.{if}
use Rattle.meaning.specs.Credentials.{Credential}
use Rattle.meaning.specs.Members.{member, has, members, least_level}
use Rattle.file.specs.Refusals.{RefusalRow, Outcome, done, refused, first, ◌when◌}
use Rattle.withdrawals.specs.Source.{Source, credentials}
use Rattle.asking.specs.Asking.{Request, StepLists, size, asking, Askable}
use Rattle.store.specs.Entries.{key_of}
use Rattle.store.specs.Notes.{level_of}
use Rattle.derivation.specs.Derivation.{Derivation}
use Rattle.finding.specs.declared.Found.{Found}

-- 10: more than L memberships at the minute; 13: this is none of them
abbrev pub search_rows : List Credential → ℕ → ℕ → ℕ → ℕ → List RefusalRow
search_rows cs m Ar X L = 10 when (ltb L (length (members cs m))) ∷ 13 when (not (has (member Ar X) (members cs m))) ∷ []

-- a refusal where the number is not 0, otherwise the level
abbrev pub says_found : Found → Outcome ℕ
says_found r = if (eqb r.number 0) (done r.level) (refused r.number r.place)

-- entry x is that of the membership, of level k; it is derived from entries before it, as each of them is
pub record Shows (cs : List Credential) (m Ar X L : ℕ) (keys notes : List ℕ) (x k : ℕ) : Type 0 where
  pub low : (x < L) × (x < 1024)
  pub room : (length keys ≡ 1024) × (length notes ≡ 3072)
  pub key : get_or keys x 0 ≡ key_of Ar X
  pub derivation : Derivation cs m keys notes (suc x)
  pub level : k ≡ level_of notes x

-- the first refusal of the request, of 10 and of 13, or the least level of a proof; with a level, the entry that shows the membership
pub record Finds (f : Source) (q : Request) (t : StepLists) (keys notes : List ℕ) (r : Found) : Type 0 where
  pub reply : says_found r ≡ first (asking f q t ++ search_rows (credentials f) q.minute q.role q.set (size t)) (least_level (credentials f) q.minute (member q.role q.set))
  pub shows : r.number ≡ 0 → Shows (credentials f) q.minute q.role q.set (size t) keys notes r.entry r.level
  pub asks : r.number ≡ 0 → Askable f q t

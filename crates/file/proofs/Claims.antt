-- What reading a credentials file is shown to mean. Each claim is proved in the file whose name it is taken from.
use mathlib.Core.Path.{◌≡◌, refl}
use mathlib.Core.Logic.{◌⊎◌, ◌↔◌}
use mathlib.Core.List.{List, [], ◌∷◌, map, Memᴰ as Mem}
use Prim.Native.Nat.{ℕ, ◌+◌, ◌*◌, ◌^◌, ◌<◌, ◌≤◌}
use lib.Dec.{T}
use lib.ListN.{length}
use Rattle.meaning.specs.Lists.{below, Ascending}
use Rattle.meaning.specs.Credentials.{◌·◌, set, role, link, ◌∩◌, ◌⊙◌, ◌⊗◌, ◌⟵◌, ◌during◌, covers, credential_at, FitsAll}
use Rattle.meaning.specs.Table.{ends}
use Rattle.meaning.specs.Cases.{◌through◌, P}
use Rattle.meaning.proofs.Claims.{ends-ascend}
use Rattle.file.specs.Refusals.{Outcome, done, refused}
use Rattle.file.specs.Format.{E, R, N, length_for, field, serial_of, from_of, to_of, credential_in, credentials}
use Rattle.file.specs.Reading.{reading, read}
use Rattle.file.specs.Values.{Read, found_in}
use Rattle.file.specs.Conditions.{Head, Ranges, Zeros, Dated, Taken, GoodBelow, Accepted, Refused, AlikeOutside}
use Rattle.file.specs.Samples.{p, kinds, dated, right_dates, wrong_dates, numbered, small, one_and, most}
use Rattle.file.specs.declared.Found.TheVariants as F
use Rattle.file.proofs.Refusals as Refusals
use Rattle.file.proofs.Credentials as Credentials
use Rattle.file.proofs.Accepted as Accepting
use Rattle.file.proofs.Outside as Outside

module _ (f : List ℕ) where
  -- A refusal from 1 to 8, or 17, is given exactly when its condition holds and none above it does, with its place.
  pub refusals-exact : {A : Type 0} (a : A) (n p : ℕ) → ◌≡◌ {A = Outcome A} (read f a) (refused n p) ↔ Refused f n p
  refusals-exact a = Refusals.refused-exact a f

  -- 17 at place i, written out: 1 to 3 pass, every credential before i passes 4 to 7 and 17, credential i passes 4 to 7, and its serial is zero or that of an
  -- earlier one.
  pub seventeen-exact : {A : Type 0} (a : A) (i : ℕ) → ◌≡◌ {A = Outcome A} (read f a) (refused 17 i)
      ↔ (Head f × (i < N f) × GoodBelow f i × (field f i 0 ≤ 5) × Ranges f i × Zeros f i × Dated f i × Taken f i)
  seventeen-exact = Refusals.seventeen-exact f

  -- None is given exactly when no condition holds.
  pub accepted-exact : {A : Type 0} (a : A) → ◌≡◌ {A = Outcome A} (read f a) (done a) ↔ Accepted f
  accepted-exact a = Refusals.accepted-exact a f

  -- The list of credentials has the credential of each position below N, and no other.
  pub as-many-credentials : length (credentials f) ≡ N f
  as-many-credentials = Credentials.length-credentials f

  pub credential-at-position : (i : ℕ) → i < N f → credential_at (credentials f) i ≡ credential_in f i
  credential-at-position = Credentials.credential-at f

  -- Files alike but for their serials mean the same credentials: head, body and period.
  pub credentials-ignore-serials : (g : List ℕ) → AlikeOutside f g → credentials f ≡ credentials g
  credentials-ignore-serials = Outside.same-credentials f

  -- The ends that 8 counts, where 1 to 7 and 17 pass, are exactly the from values and the to values plus one, however many there are.
  pub counted-ends : Head f → GoodBelow f (N f) → (x : ℕ) → Mem x (ends (credentials f)) ↔ ((i : ℕ) × (i < N f) × ((x ≡ from_of f i) ⊎ (x ≡ to_of f i + 1)))
  counted-ends = Accepting.counted-ends f

  module _ (a : Accepted f) where
    -- What is read at a position of an accepted file means the credential there, states its bytes and has its serial; from N on there is none.
    pub read-means : (i : ℕ) → i < N f → Read f i
    read-means = Accepting.accepted-found f a

    pub read-ends : (i : ℕ) → N f ≤ i → found_in f i ≡ F.End
    read-ends = Accepting.accepted-end f a

    -- The roles and sets of an accepted file are within the format's numbers, so that all claims about the meaning apply to it.
    pub within-format : FitsAll (credentials f)
    within-format = Accepting.accepted-fits f a

    -- A credential of an accepted file covers exactly the minutes from its `from` to its `to`, both included.
    pub accepted-covers : (i : ℕ) → i < N f → (m : ℕ) → T (covers (credential_in f i).period m) ↔ ((from_of f i ≤ m) × (m ≤ to_of f i))
    accepted-covers = Accepting.accepted-covers f a

    -- No serial of an accepted file is zero, and two positions with one serial are one position.
    pub accepted-serials : ((i : ℕ) → i < N f → ¬ (serial_of f i ≡ 0)) × ((i j : ℕ) → i < N f → j < N f → serial_of f i ≡ serial_of f j → i ≡ j)
    accepted-serials = Accepting.accepted-serials f a

    -- The ends of an accepted file are exactly its from values and its to values plus one, ascending, each once.
    pub accepted-ends : (x : ℕ) → Mem x (ends (credentials f)) ↔ ((i : ℕ) × (i < N f) × ((x ≡ from_of f i) ⊎ (x ≡ to_of f i + 1)))
    accepted-ends = Accepting.accepted-ends f a

    pub accepted-ends-ascend : Ascending (λ (x y : ℕ). x < y) (ends (credentials f))
    accepted-ends-ascend = ends-ascend (credentials f)

-- The sizes are two bytes each, the lowest first.
module _ (x₀ x₁ y₀ y₁ z₀ z₁ : ℕ) (rest : List ℕ) where
  abbrev sized : List ℕ
  sized = x₀ ∷ x₁ ∷ y₀ ∷ y₁ ∷ z₀ ∷ z₁ ∷ rest

  pub size-bytes : (E sized ≡ x₀ + 256 * x₁) × (R sized ≡ y₀ + 256 * y₁) × (N sized ≡ z₀ + 256 * z₁)
  size-bytes = (refl, refl, refl)

-- 256 credentials are the bytes 00 01, and make a file of 5,126 bytes.
pub most-credentials : (rest : List ℕ) → let f : List ℕ = 0x20 ∷ 0x00 ∷ 0x20 ∷ 0x00 ∷ 0x00 ∷ 0x01 ∷ rest in (N f ≡ 256) × (length_for (N f) ≡ 5126)
most-credentials rest = (refl, refl)

-- Set P's 66 bytes are read as the credentials of the cases' P, their serials are position plus one, and they are not refused.
pub p-length : length p ≡ 66
p-length = refl

pub p-credentials : credentials p ≡ P ◌⊗◌
unfolding credentials
p-credentials = refl

pub p-serials : map (serial_of p) (below (N p)) ≡ 1 ∷ 2 ∷ 3 ∷ []
p-serials = refl

pub p-read : ◌≡◌ {A = Outcome ℕ} (read p 0) (done 0)
unfolding reading credentials
p-read = refl

pub p-accepted : Accepted p
p-accepted = (accepted-exact p {A = ℕ} 0).0 p-read

-- At the bounds of 7: a period of one minute passes, and so does one up to the last minute; from above to is refused, and so is the largest number as to.
pub right-dates : map (λ (d : List ℕ). read {A = ℕ} (dated d) 0) right_dates ≡ done 0 ∷ done 0 ∷ done 0 ∷ done 0 ∷ []
unfolding reading credentials
right-dates = refl

pub wrong-dates : map (λ (d : List ℕ). read {A = ℕ} (dated d) 0) wrong_dates ≡ refused 7 1 ∷ refused 7 1 ∷ refused 7 1 ∷ refused 7 1 ∷ []
unfolding reading credentials
wrong-dates = refl

-- At the bounds of 17. Serials need not ascend, and may differ in one byte alone.
abbrev Reads : List ℕ → Outcome ℕ → Type 0
Reads f o = ◌≡◌ {A = Outcome ℕ} (read f 0) o

pub right-serials :
    Reads (numbered (small 3) (small 1) (small 2) 5 30) (done 0) × Reads (numbered (one_and 2) (one_and 1) (one_and 0) 5 30) (done 0)
    × Reads (numbered most (small 1) (small 254) 5 30) (done 0)
unfolding reading credentials
right-serials = (refl, refl, refl)

-- Zero at each place; an equal serial right before and further before, with the later one as place.
pub wrong-serials :
    Reads (numbered (small 0) (small 2) (small 3) 5 30) (refused 17 0) × Reads (numbered (small 1) (small 0) (small 3) 5 30) (refused 17 1)
    × Reads (numbered (small 1) (small 2) (small 0) 5 30) (refused 17 2) × Reads (numbered (small 7) (small 7) (small 1) 5 30) (refused 17 1)
    × Reads (numbered (small 7) (small 1) (small 7) 5 30) (refused 17 2)
unfolding reading credentials
wrong-serials = (refl, refl, refl, refl, refl)

-- 17 comes before 4 of the next credential, after 7 of its own, and after 4 of its own.
pub serials-in-order :
    Reads (numbered (small 1) (small 1) (small 3) 6 30) (refused 17 1) × Reads (numbered (small 1) (small 1) (small 3) 5 14) (refused 7 1)
    × Reads (numbered (small 1) (small 2) (small 1) 6 30) (refused 4 2)
unfolding reading credentials
serials-in-order = (refl, refl, refl)

-- The sample of all kinds is read as these credentials with these serials, and is not refused.
pub kinds-credentials : credentials kinds ≡
    1 · 2 ⟵ set (2 ^ 3) during 0x14131211 through 0x18171615
    ∷ 4 · 5 ⟵ role (6 · 7) during 0x24232221 through 0x28272625
    ∷ 8 · 9 ⟵ link (10 · 11) 12 during 0x34333231 through 0x38373635
    ∷ 13 · 14 ⟵ 15 · 16 ∩ 17 · 18 during 0x44434241 through 0x48474645
    ∷ 19 · 20 ⟵ 21 · 22 ⊙ 23 · 24 during 0x54535251 through 0x58575655
    ∷ 25 · 26 ⟵ 27 · 28 ⊗ 29 · 30 during 0x64636261 through 0x68676665
    ∷ []
unfolding credentials
kinds-credentials = refl

pub kinds-serials : map (serial_of kinds) (below (N kinds)) ≡ 0xC4C3C2C1 ∷ 0xB4B3B2B1 ∷ 0xA4A3A2A1 ∷ 0x94939291 ∷ 0x84838281 ∷ 0x74737271 ∷ []
kinds-serials = refl

pub kinds-read : ◌≡◌ {A = Outcome ℕ} (read kinds 0) (done 0)
unfolding reading credentials
kinds-read = refl

pub kinds-accepted : Accepted kinds
kinds-accepted = (accepted-exact kinds {A = ℕ} 0).0 kinds-read

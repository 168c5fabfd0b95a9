-- Refusals 1 to 8 of an old file, as document 01 first had them.
use Rattle.std.specs.Prelude.{◌≡◌, Bool, ◌&&◌, not, List, [], ◌∷◌, ◌++◌, ℕ, eqb, leb, ltb, length, get_or}
use Rattle.meaning.specs.Lists.{each, all, below}
use Rattle.meaning.specs.Table.{ends}
use Rattle.file.specs.Refusals.{RefusalRow, Outcome, done, first, ◌when◌, ◌at◌when◌}
use Rattle.file.specs.Format.{E, R, N}
use Rattle.file.specs.Reading.{between, Uses}
use Rattle.old_file.specs.OldFormat.{old_length, old_field, old_from, old_to, old_credentials}

-- 1 to 3
abbrev pub old_head_rows : List ℕ → List RefusalRow
old_head_rows f =
    1 when (ltb (length f) 6)
    ∷ 2 when (not (between 1 32 (E f) && between 1 32 (R f) && between 0 256 (N f)))
    ∷ 3 when (not (eqb (length f) (old_length (N f))))
    ∷ []

-- which bytes of a statement are entities, which are names, and which must be zero, by kind; a kind above 5 uses nothing
abbrev pub old_uses : ℕ → Uses
old_uses kind = get_or (
    record { entities = 1 ∷ 3 ∷ []; names = 2 ∷ []; unused = 4 ∷ 5 ∷ 6 ∷ 7 ∷ [] }
    ∷ record { entities = 1 ∷ 3 ∷ []; names = 2 ∷ 4 ∷ []; unused = 5 ∷ 6 ∷ 7 ∷ [] }
    ∷ record { entities = 1 ∷ 3 ∷ []; names = 2 ∷ 4 ∷ 6 ∷ []; unused = 5 ∷ 7 ∷ [] }
    ∷ record { entities = 1 ∷ 3 ∷ 5 ∷ []; names = 2 ∷ 4 ∷ 6 ∷ []; unused = 7 ∷ [] }
    ∷ record { entities = 1 ∷ 3 ∷ 5 ∷ []; names = 2 ∷ 4 ∷ 6 ∷ []; unused = 7 ∷ [] }
    ∷ record { entities = 1 ∷ 3 ∷ 5 ∷ []; names = 2 ∷ 4 ∷ 6 ∷ []; unused = 7 ∷ [] }
    ∷ []) kind (record { entities = []; names = []; unused = [] })

abbrev pub old_in_range : List ℕ → ℕ → Bool
old_in_range f i =
    all (λ j. ltb (old_field f i j) (E f)) (old_uses (old_field f i 0)).entities && all (λ j. ltb (old_field f i j) (R f)) (old_uses (old_field f i 0)).names

abbrev pub old_zeros : List ℕ → ℕ → Bool
old_zeros f i = all (λ j. eqb (old_field f i j) 0) (old_uses (old_field f i 0)).unused

-- 4 to 7 of the credential at position i; 7 where from is not below to
abbrev pub old_credential_rows : List ℕ → ℕ → List RefusalRow
old_credential_rows f i =
    4 at i when (ltb 5 (old_field f i 0))
    ∷ 5 at i when (not (old_in_range f i))
    ∷ 6 at i when (not (old_zeros f i))
    ∷ 7 at i when (leb (old_to f i) (old_from f i))
    ∷ []

-- 1 to 8
unfoldable pub old_reading : List ℕ → List RefusalRow
old_reading f =
    old_head_rows f ++ (each (old_credential_rows f) (below (N f)) ++ 8 when (ltb 64 (length (ends (old_credentials f)))) ∷ [])

-- no refusal is given
abbrev pub OldPasses : List ℕ → Type 0
OldPasses f = ◌≡◌ {A = Outcome ℕ} (first (old_reading f) 0) (done 0)

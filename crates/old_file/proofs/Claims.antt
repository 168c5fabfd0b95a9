-- What the old reading says: which minutes a credential covers; and on bytes.
use mathlib.Core.Path.{◌≡◌, refl, subst⁻¹}
use mathlib.Core.Logic.{◌↔◌}
use mathlib.Core.List.{List, [], ◌∷◌}
use Prim.Native.Nat.{ℕ, zero, suc, ◌≤◌, ◌<◌}
use native.Mathlib.Omega.{arith}
use lib.Dec.{T}
use lib.ListN.{length}
use Rattle.meaning.specs.Credentials.{◌·◌, set, ◌⊗◌, ◌⟵◌, Period, ◌during◌, covers}
use Rattle.meaning.specs.Table.{ends}
use Rattle.meaning.proofs.Spans.{covers-in, covers_out}
use Rattle.file.specs.Refusals.{Outcome, done, refused, first}
use Rattle.file.specs.Format.{credentials}
use Rattle.file.specs.Samples.{p}
use Rattle.old_file.specs.OldFormat.{old_field, old_from, old_to, old_body, old_period, old_with_body, old_credential_in, old_credentials}
use Rattle.old_file.specs.OldReading.{old_reading, OldPasses}
use Rattle.old_file.specs.Samples.{old_p, later_p, one_of}

period-kept : (Ar : ℕ) (v : Period) (k b s c t : ℕ) → k ≤ 5 → (old_with_body Ar v (old_body k b s c t)).period ≡ v
period-kept Ar v zero b s c t h = refl
period-kept Ar v (suc zero) b s c t h = refl
period-kept Ar v (suc (suc zero)) b s c t h = refl
period-kept Ar v (suc (suc (suc zero))) b s c t h = refl
period-kept Ar v (suc (suc (suc (suc zero)))) b s c t h = refl
period-kept Ar v (suc (suc (suc (suc (suc zero))))) b s c t h = refl
period-kept Ar v (suc (suc (suc (suc (suc (suc k)))))) b s c t h = absurd (omega arith)

-- A credential that 4 passes covers exactly the minutes from its `from` up to its `to`, without it.
pub old_covers : (f : List ℕ) (i : ℕ) → old_field f i 0 ≤ 5 → (m : ℕ) → T (covers (old_credential_in f i).period m) ↔ ((old_from f i ≤ m) × (m < old_to f i))
old_covers f i k m =
    subst⁻¹ (λ (v : Period). T (covers v m) ↔ ((old_from f i ≤ m) × (m < old_to f i))) (period-kept _ (old_period f i) (old_field f i 0) _ _ _ _ k)
    (covers_out (old_period f i) m, λ w. covers-in (old_period f i) m w.0 w.1)

-- Document 01's 54 bytes are three credentials, of which `to` is not covered.
pub p-length : length old_p ≡ 54
p-length = refl

pub p-credentials : old_credentials old_p
    ≡ 0 · 0 ⟵ set 2 during record { from = 10; until = 20 }
    ∷ 0 · 0 ⟵ set 4 during record { from = 15; until = 30 }
    ∷ 0 · 1 ⟵ 0 · 0 ⊗ 0 · 0 during record { from = 0; until = 18 }
    ∷ []
unfolding old_credentials
p-credentials = refl

pub p-ends : ends (old_credentials old_p) ≡ 0 ∷ 10 ∷ 15 ∷ 18 ∷ 20 ∷ 30 ∷ []
unfolding old_credentials
p-ends = refl

pub p-accepted : OldPasses old_p
unfolding old_reading old_credentials
p-accepted = refl

-- With each `to` a minute later they are the credentials of the new file.
pub later-credentials : old_credentials (later_p 0x13) ≡ credentials p
unfolding old_credentials credentials
later-credentials = refl

-- A period that ends where it starts has no minute, and 7 refuses it.
pub empty-refused : ◌≡◌ {A = Outcome ℕ} (first (old_reading (later_p 0x00)) 0) (refused 7 2)
unfolding old_reading old_credentials
empty-refused = refl

-- One minute is enough.
pub one-minute : OldPasses (later_p 0x01)
unfolding old_reading old_credentials
one-minute = refl

-- Each of 1 to 7 on bytes that have the later faults too.
abbrev Says : List ℕ → Outcome ℕ → Type 0
Says f o = ◌≡◌ {A = Outcome ℕ} (first (old_reading f) 0) o

pub in_order :
    Says [] (refused 1 0) × Says (0x00 ∷ 0x00 ∷ 0x00 ∷ 0x00 ∷ 0x00 ∷ []) (refused 1 0)
    × Says (0x03 ∷ 0x00 ∷ 0x21 ∷ 0x00 ∷ 0x01 ∷ 0x00 ∷ []) (refused 2 0) × Says (0x03 ∷ 0x00 ∷ 0x02 ∷ 0x00 ∷ 0x01 ∷ 0x00 ∷ []) (refused 3 0)
    × Says (one_of (0x06 ∷ 0x03 ∷ 0x00 ∷ 0x00 ∷ 0x00 ∷ 0x00 ∷ 0x00 ∷ 0x01 ∷ []) 0x09 0x09) (refused 4 0)
    × Says (one_of (0x00 ∷ 0x00 ∷ 0x00 ∷ 0x03 ∷ 0x00 ∷ 0x00 ∷ 0x00 ∷ 0x01 ∷ []) 0x09 0x09) (refused 5 0)
    × Says (one_of (0x00 ∷ 0x00 ∷ 0x00 ∷ 0x01 ∷ 0xC8 ∷ 0x00 ∷ 0x00 ∷ 0x00 ∷ []) 0x09 0x09) (refused 6 0)
    × Says (one_of (0x00 ∷ 0x00 ∷ 0x00 ∷ 0x01 ∷ 0x00 ∷ 0x00 ∷ 0x00 ∷ 0x00 ∷ []) 0x09 0x09) (refused 7 0)
    × Says (one_of (0x00 ∷ 0x00 ∷ 0x00 ∷ 0x01 ∷ 0x00 ∷ 0x00 ∷ 0x00 ∷ 0x00 ∷ []) 0x09 0x0A) (done 0)
unfolding old_reading old_credentials
in_order = (refl, refl, refl, refl, refl, refl, refl, refl, refl)

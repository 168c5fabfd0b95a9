-- What bringing old files forward and back is shown to mean. `Bytes f` says that f is a list of bytes, as every lent list is.
use mathlib.Core.Path.{◌≡◌, refl, sym, ap, ◌∙◌, subst, subst⁻¹}
use mathlib.Core.Logic.{◌⊎◌, ◌↔◌}
use mathlib.Core.List.{List, Memᴰ as Mem}
use Prim.Native.Nat.{ℕ, ◌≤◌, ◌<◌}
use native.Mathlib.Omega.{arith}
use lib.ListN.{length, replicate}
use Rattle.meaning.specs.Credentials.{Credential}
use Rattle.meaning.specs.Members.{Membership, members, least_level}
use Rattle.meaning.specs.Table.{ends, table}
use Rattle.meaning.specs.Proofs.{Step, Proof}
use Rattle.file.specs.Refusals.{Outcome, done, refused, first}
use Rattle.file.specs.Format.{N, length_for, credentials}
use Rattle.file.specs.Reading.{reading}
use Rattle.file.specs.Conditions.{Accepted}
use Rattle.codec.specs.ByteLists.{Bytes}
use Rattle.old_file.specs.OldFormat.{old_length, old_from, old_to, old_credentials}
use Rattle.old_file.specs.OldReading.{old_reading, OldPasses}
use Rattle.old_file.specs.OldConditions.{OldHead, OldGoodBelow, OldAccepted, OldRefused}
use Rattle.old_file.specs.Samples.{old_p, later_p}
use Rattle.carrying.specs.Carrying.{forward_of, going_forward, forward_left, back_of, going_back, back_left}
use Rattle.carrying.specs.Samples.{with_serials, new_p}
use Rattle.carrying.specs.Conditions.{RefusedForward, InPlace, FirstOutOfPlace, RefusedBack}
use Rattle.carrying.proofs.Forwarded.{sizes-same, serial-is}
use Rattle.carrying.proofs.Backed as Backed
use Rattle.carrying.proofs.OldExact as OldExact
use Rattle.carrying.proofs.Returned as Returned
use Rattle.carrying.proofs.Exact as Exact

-- ---- When each call passes and refuses, for every list of bytes and every output list. A refusal is given exactly when its condition holds and none above it
-- does, with its place.

module _ (f : List ℕ) (small : Bytes f) where
  -- 1 to 8 of an old file
  pub old-refusals-exact : (n p : ℕ) → ◌≡◌ {A = Outcome ℕ} (first (old_reading f) 0) (refused n p) ↔ OldRefused f n p
  old-refusals-exact = OldExact.old-refusals-exact f small

  pub old-accepted-exact : ◌≡◌ {A = Outcome ℕ} (first (old_reading f) 0) (done 0) ↔ OldAccepted f
  old-accepted-exact = OldExact.old-accepted-exact f small

  -- The ends that 8 counts, where 1 to 7 pass, are exactly the from values and the to values, however many there are.
  pub old-counted-ends : OldHead f → OldGoodBelow f (N f) → (x : ℕ) → Mem x (ends (old_credentials f)) ↔ ((i : ℕ) × (i < N f) × ((x ≡ old_from f i) ⊎ (x ≡ old_to f i)))
  old-counted-ends h = OldExact.ends-counted f small h

  module _ (out : List ℕ) where
    pub forward-refusals-exact : (n p : ℕ) → going_forward f out ≡ refused n p ↔ RefusedForward f out n p
    forward-refusals-exact = Exact.forward-refused f out small

    -- 18: the old file is accepted, and the output list has another length than the result.
    pub eighteen-forward : going_forward f out ≡ refused 18 0 ↔ (OldAccepted f × ¬ (length out ≡ length_for (N f)))
    eighteen-forward = Exact.eighteen-forward f out small

    -- It passes in all other cases, and replies the count of credentials.
    pub forward-exact : (n : ℕ) → going_forward f out ≡ done n ↔ (OldAccepted f × (length out ≡ length_for (N f)) × (n ≡ N f))
    forward-exact = Exact.forward-passed f out small

    -- A refusal leaves the output list as it was.
    pub forward-keeps : (n p : ℕ) → going_forward f out ≡ refused n p → forward_left f out ≡ out
    forward-keeps = Exact.forward-kept f out small

module _ (f out : List ℕ) where
  pub back-refusals-exact : (n p : ℕ) → going_back f out ≡ refused n p ↔ RefusedBack f out n p
  back-refusals-exact = Exact.back-refused-exactly f out

  pub eighteen-back : going_back f out ≡ refused 18 0 ↔ (Accepted f × ¬ (length out ≡ old_length (N f)))
  eighteen-back = Exact.eighteen-back f out

  -- 19: the file is accepted, the output list has the right length, and i is the first credential whose serial is not its position plus one.
  pub nineteen-exact : (i : ℕ) → going_back f out ≡ refused 19 i ↔ (Accepted f × (length out ≡ old_length (N f)) × FirstOutOfPlace f i)
  nineteen-exact = Exact.nineteen-exact f out

  pub back-exact : (n : ℕ) → going_back f out ≡ done n ↔ (Accepted f × (length out ≡ old_length (N f)) × InPlace f × (n ≡ N f))
  back-exact = Exact.back-passed-exactly f out

  pub back-keeps : (n p : ℕ) → going_back f out ≡ refused n p → back_left f out ≡ out
  back-keeps = Exact.back-kept f out

module _ (f : List ℕ) (small : Bytes f) where
  -- ---- Of every accepted old file.

  module _ (a : OldAccepted f) where
    passes : OldPasses f
    passes = (old-accepted-exact f small).1 a

    -- Brought forward it is an accepted file.
    pub forward-accepted : Accepted (forward_of f)
    forward-accepted = Returned.forward-accepted f passes small

    -- Brought back it has the same bytes.
    pub back-of-forward : back_of (forward_of f) ≡ f
    back-of-forward = Returned.back-of-forward f passes small

    -- Both calls pass, given a list of the right length, which then has these bytes.
    pub forward-passes : (out : List ℕ) → length out ≡ length_for (N f) → (going_forward f out ≡ done (N f)) × (forward_left f out ≡ forward_of f)
    forward-passes out h = let e = (forward-exact f small out (N f)).1 (a, h, refl) in (e, Exact.forward-leaves f out (N f) e)

    pub back_passes : (out : List ℕ) → length out ≡ old_length (N f) → (going_back (forward_of f) out ≡ done (N f)) × (back_left (forward_of f) out ≡ f)
    back_passes out h =
        let n = (sizes-same f (Returned.old-few f passes) (Returned.old-long f passes)).2 in
        let in_place : InPlace (forward_of f) = λ i l. serial-is f (Returned.old-few f passes) (Returned.old-long f passes) i (omega arith) in
        let e = (back-exact (forward_of f) out (N f)).1 (forward-accepted, h ∙ ap old_length (sym n), in_place, sym n) in
        (e, Exact.back-leaves (forward_of f) out (N f) e ∙ back-of-forward)

    -- The old file by the old reading has the credentials of the new one by the new reading, with the same half-open periods.
    pub same-credentials : old_credentials f ≡ credentials (forward_of f)
    same-credentials = Returned.forward-credentials f passes small

    -- So both have the same memberships with the same least levels at every minute, the same ends, the same table, and the same proofs with the same levels.
    pub same-members : (m : ℕ) → members (old_credentials f) m ≡ members (credentials (forward_of f)) m
    same-members m = ap (λ (cs : List Credential). members cs m) same-credentials

    pub same-least-levels : (m : ℕ) (p : Membership) → least_level (old_credentials f) m p ≡ least_level (credentials (forward_of f)) m p
    same-least-levels m p = ap (λ (cs : List Credential). least_level cs m p) same-credentials

    pub same_ends : ends (old_credentials f) ≡ ends (credentials (forward_of f))
    same_ends = ap ends same-credentials

    pub same-table : table (old_credentials f) ≡ table (credentials (forward_of f))
    same-table = ap table same-credentials

    pub same-proofs : (m Ar X k : ℕ) (ss : List Step) → Proof (old_credentials f) m Ar X k ss ↔ Proof (credentials (forward_of f)) m Ar X k ss
    same-proofs m Ar X k ss =
        (subst (λ (cs : List Credential). Proof cs m Ar X k ss) same-credentials, subst⁻¹ (λ (cs : List Credential). Proof cs m Ar X k ss) same-credentials)

  -- ---- Of every file that goes back.

  module _ (out : List ℕ) (n : ℕ) (passed : going_back f out ≡ done n) where
    means : Accepted f × (length out ≡ old_length (N f)) × InPlace f × (n ≡ N f)
    means = (back-exact f out n).0 passed

    few : N f ≤ 256
    few = means.0.head.limits.credentials

    long : length f ≡ length_for (N f)
    long = means.0.head.whole

    small-back : Bytes (back_of f)
    small-back = Backed.small-back f few long small

    -- The reply is the count of credentials, and the list has the result.
    pub back-result : (n ≡ N f) × (back_left f out ≡ back_of f)
    back-result = (means.3, Exact.back-leaves f out n passed)

    -- The result is an accepted old file, and brought forward it has the same bytes.
    pub back-accepted : OldAccepted (back_of f)
    back-accepted = (old-accepted-exact (back_of f) small-back).0 (Returned.back-accepted f means.0 small means.2)

    pub forward-of-back : forward_of (back_of f) ≡ f
    forward-of-back = Returned.forward-of-back f means.0 small means.2

    -- By the old reading it has the credentials of the file by the new reading, with the same half-open periods.
    pub back-credentials : old_credentials (back_of f) ≡ credentials f
    back-credentials = Returned.back-credentials f means.0 small means.2

    -- Given a list of the file's own length, going forward again passes, and the list has the file.
    pub forward-again : (again : List ℕ) → length again ≡ length_for (N f) → (going_forward (back_of f) again ≡ done (N f)) × (forward_left (back_of f) again ≡ f)
    forward-again again h =
        let s = (Backed.sizes-back f few long).2 in
        let e = (forward-exact (back_of f) small-back again (N f)).1 (back-accepted, h ∙ ap length_for (sym s), sym s) in
        (e, Exact.forward-leaves (back_of f) again (N f) e ∙ forward-of-back)

-- ---- Document 01's set P, byte by byte.

pub p-forward : forward_of old_p ≡ new_p
unfolding forward_of
p-forward = refl

pub p_back : back_of new_p ≡ old_p
unfolding back_of
p_back = refl

-- Into lists of zeros: the reply, then 18, 7 before 18; going back the reply, then 19 with the first such credential, 18 before 19, 17 before 18.
pub forward-in-order :
    (going_forward old_p (replicate 66 0) ≡ done 3) × (going_forward old_p (replicate 65 0) ≡ refused 18 0)
    × (going_forward (later_p 0x00) (replicate 65 0) ≡ refused 7 2)
unfolding going_forward old_reading old_credentials
forward-in-order = (refl, refl, refl)

pub back-in-order :
    (going_back new_p (replicate 54 0) ≡ done 3) × (going_back (with_serials 0x01 0x09 0x08) (replicate 54 0) ≡ refused 19 1)
    × (going_back (with_serials 0x01 0x09 0x08) (replicate 66 0) ≡ refused 18 0) × (going_back (with_serials 0x09 0x02 0x09) (replicate 66 0) ≡ refused 17 2)
unfolding going_back reading credentials
back-in-order = (refl, refl, refl, refl)

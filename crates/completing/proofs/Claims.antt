-- When completing replies what. The laws behind each claim are in `Refusals`.
use mathlib.Core.Path.{◌≡◌, ap₂}
use mathlib.Core.Logic.{◌↔◌}
use mathlib.Core.List.{List, [], ◌∷◌, ◌++◌}
use Prim.Native.Nat.{ℕ, ◌<◌, ◌≤◌}
use lib.Dec.{ltb}
use lib.ListN.{length}
use Rattle.meaning.specs.Credentials.{Credential}
use Rattle.meaning.specs.Table.{table}
use Rattle.file.specs.Refusals.{Outcome, done, refused, first, ◌when◌}
use Rattle.file.specs.Format as F
use Rattle.file.specs.Reading as Reading
use Rattle.withdrawals.specs.List.{none}
use Rattle.withdrawals.specs.Source.{Source, ◌without◌, credentials}
use Rattle.withdrawals.specs.Conditions.{Accepted}
use Rattle.withdrawals.proofs.Claims.{uncut-credentials, uncut-first}
use Rattle.completing.specs.Completing.{Lent, lent_row, reply_to, completing}
use Rattle.completing.specs.Working.{ending_by}
use Rattle.completing.specs.Conditions.{ThreeOfOneLength, RefusedTable}
use Rattle.completing.proofs.Refusals as Refusals

module _ (f : Source) (t : Lent) where
  -- A refusal is given exactly when its condition holds and none above it does, with its place.
  pub refusals-exact : (n p : ℕ) → (completing f t).reply ≡ refused n p ↔ RefusedTable f t n p
  unfolding completing
  refusals-exact = Refusals.refused-exact f t

  -- 9: the file and its withdrawals are accepted, and the three lists are not of one length from 1 to 1,024.
  pub nine-exact : (completing f t).reply ≡ refused 9 0 ↔ (Accepted f × ¬ ThreeOfOneLength t)
  unfolding completing
  nine-exact = Refusals.nine-exact f t

  -- 10: the file and its withdrawals are accepted, the lists are of one length L from 1 to 1,024, and the table has more than L rows.
  pub ten-exact : (completing f t).reply ≡ refused 10 0 ↔ (Accepted f × ThreeOfOneLength t × (length t.roles < length (table (credentials f))))
  unfolding completing
  ten-exact = Refusals.ten-exact f t

  -- A count is replied exactly when nothing is refused; it is the number of rows.
  pub count-exact : (n : ℕ) → (completing f t).reply ≡ done n
      ↔ (Accepted f × ThreeOfOneLength t × (length (table (credentials f)) ≤ length t.roles) × (n ≡ length (table (credentials f))))
  unfolding completing
  count-exact = Refusals.counted-exact f t

-- With the list of count 0 it ends by the file's own refusals and credentials.
pub uncut-completing : (f : List ℕ) (t : Lent) → completing (f without none) t
    ≡ ending_by (F.credentials f) t
    (first (Reading.reading f ++ (lent_row t ∷ 10 when (ltb (length t.roles) (length (table (F.credentials f)))) ∷ [])) (length (table (F.credentials f))))
unfolding completing reply_to
uncut-completing f t =
    ap₂ (λ (cs : List Credential) (o : Outcome ℕ). ending_by cs t o) (uncut-credentials f)
    (uncut-first f (λ cs. lent_row t ∷ 10 when (ltb (length t.roles) (length (table cs))) ∷ []) (λ cs. length (table cs)))

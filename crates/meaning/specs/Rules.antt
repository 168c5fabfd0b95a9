-- The inference system over RT^T_+ credentials at one moment: document 003, Definition 4, rules CW1 to CW6.
use Rattle.std.specs.Prelude.{◌≡◌, ℕ, ◌^◌, T}
use mathlib.Core.List.{List, Memᴰ as Mem}
use Rattle.std.specs.Int.Bits.{bit_and, bit_or}
use Rattle.meaning.specs.Credentials.{◌·◌, Body, set, role, link, ◌∩◌, ◌⊙◌, ◌⊗◌, ◌⟵◌, Period, covers, Credential, ◌during◌}

-- `CW cs m A.r e` says that A.r ← e can be derived from the credentials cs at the minute m. In CW3, the set {C} is 2 ^ C.
pub data CW (cs : List Credential) (m : ℕ) : ℕ → Body → Type 0 where
  cw1 : {Ar : ℕ} {e : Body} {v : Period} → Mem (Ar ⟵ e during v) cs → T (covers v m) → CW cs m Ar e
  cw2 : {Ar Bs X : ℕ} → CW cs m Ar (role Bs) → CW cs m Bs (set X) → CW cs m Ar (set X)
  cw3 : {Ar Bs t X : ℕ} (C : ℕ) → CW cs m Ar (link Bs t) → CW cs m Bs (set (2 ^ C)) → CW cs m (C · t) (set X) → CW cs m Ar (set X)
  cw4 : {Ar Bs Ct X : ℕ} → CW cs m Ar (Bs ∩ Ct) → CW cs m Bs (set X) → CW cs m Ct (set X) → CW cs m Ar (set X)
  cw5 : {Ar Bs Ct X Y : ℕ} → CW cs m Ar (Bs ⊙ Ct) → CW cs m Bs (set X) → CW cs m Ct (set Y) → CW cs m Ar (set (bit_or X Y))
  cw6 : {Ar Bs Ct X Y : ℕ} → CW cs m Ar (Bs ⊗ Ct) → CW cs m Bs (set X) → CW cs m Ct (set Y) → bit_and X Y ≡ 0 → CW cs m Ar (set (bit_or X Y))

-- the set X is a member set of the role A.r at the minute
abbrev pub Derivable : List Credential → ℕ → ℕ → ℕ → Type 0
Derivable cs m Ar X = CW cs m Ar (set X)

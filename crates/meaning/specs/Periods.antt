-- Inferring the validity of a credential: document 003, section 4.1, rules CWP1 to CWP7.
use Rattle.std.specs.Prelude.{◌≡◌, Bool, ◌&&◌, ◌||◌, ℕ, ◌^◌, T}
use mathlib.Core.List.{List, Memᴰ as Mem}
use Rattle.std.specs.Int.Bits.{bit_and, bit_or}
use Rattle.meaning.specs.Credentials.{◌·◌, Body, set, role, link, ◌∩◌, ◌⊙◌, ◌⊗◌, ◌⟵◌, Period, covers, Credential, ◌during◌}

infixl 86 ◌∩ᵛ◌
infixl 85 ◌∪ᵛ◌
-- a period, and validities joined as document 003 writes them: v₁ ∩ v₂, v₁ ∪ v₂
pub data Validity : Type 0 where
  period : Period → Validity
  ◌∩ᵛ◌ ◌∪ᵛ◌ : Validity → Validity → Validity

-- the minute is in the validity
abbrev pub contains : Validity → ℕ → Bool
contains (period v) m = covers v m
contains (v ∩ᵛ w) m = contains v m && contains w m
contains (v ∪ᵛ w) m = contains v m || contains w m

-- `CWP cs v A.r e` says that A.r ← e can be inferred from the credentials cs with validity v.
pub data CWP (cs : List Credential) : Validity → ℕ → Body → Type 0 where
  cwp1 : {Ar : ℕ} {e : Body} {v : Period} → Mem (Ar ⟵ e during v) cs → CWP cs (period v) Ar e
  cwp2 : {v w : Validity} {Ar Bs X : ℕ} → CWP cs v Ar (role Bs) → CWP cs w Bs (set X) → CWP cs (v ∩ᵛ w) Ar (set X)
  cwp3 : {u v w : Validity} {Ar Bs t X : ℕ} (C : ℕ) → CWP cs u Ar (link Bs t) → CWP cs v Bs (set (2 ^ C)) → CWP cs w (C · t) (set X) → CWP cs (u ∩ᵛ v ∩ᵛ w) Ar (set X)
  cwp4 : {u v w : Validity} {Ar Bs Ct X : ℕ} → CWP cs u Ar (Bs ∩ Ct) → CWP cs v Bs (set X) → CWP cs w Ct (set X) → CWP cs (u ∩ᵛ v ∩ᵛ w) Ar (set X)
  cwp5 : {u v w : Validity} {Ar Bs Ct X Y : ℕ} → CWP cs u Ar (Bs ⊙ Ct) → CWP cs v Bs (set X) → CWP cs w Ct (set Y) → CWP cs (u ∩ᵛ v ∩ᵛ w) Ar (set (bit_or X Y))
  cwp6 : {u v w : Validity} {Ar Bs Ct X Y : ℕ} → CWP cs u Ar (Bs ⊗ Ct) → CWP cs v Bs (set X) → CWP cs w Ct (set Y) → bit_and X Y ≡ 0 → CWP cs (u ∩ᵛ v ∩ᵛ w) Ar (set (bit_or X Y))
  cwp7 : {v w : Validity} {Ar : ℕ} {e : Body} → CWP cs v Ar e → CWP cs w Ar e → CWP cs (v ∪ᵛ w) Ar e

-- no validity that can be inferred holds a minute more (Definition 5, its first condition)
abbrev pub Maximal : List Credential → Validity → ℕ → Body → Type 0
Maximal cs v Ar e = (w : Validity) → CWP cs w Ar e → (m : ℕ) → T (contains w m) → T (contains v m)

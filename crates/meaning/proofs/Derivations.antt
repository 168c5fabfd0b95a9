-- The rules CW1 to CW6 derive exactly the memberships of the sequence of Definition 3 (document 003, Theorems 1 and 2).
use mathlib.Core.Path.{refl, subst⁻¹}
use mathlib.Core.Logic.{◌↔◌}
use mathlib.Core.List.Memᴰ.{head}
use mathlib.Core.List.{List, ◌∷◌, [], Memᴰ as Mem}
use Prim.Native.Nat.{ℕ, zero, suc, ◌≤◌, max}
use native.Mathlib.Nat.{le-max_left, le-max_right}
use native.Mathlib.Decide.{le_ind}
use lib.Dec.{T}
use Rattle.meaning.specs.Lists.{only}
use Rattle.meaning.specs.Credentials.{Body, set, role, link, ◌∩◌, ◌⊙◌, ◌⊗◌, Statement, ◌⟵◌, Period, covers, Credential, ◌during◌, valid_at}
use Rattle.meaning.specs.Rules.{CW, cw1, cw2, cw3, cw4, cw5, cw6, Derivable}
use Rattle.meaning.specs.Sequence.{Gives, S}
use Rattle.meaning.proofs.ListLaws.{each_in, each-out, only-in, only_out, sole, cast}
use Rattle.meaning.proofs.Levels.{gives_more, next_more}

-- ---- the sequence grows

module _ (ss : List Statement) where
  S-next : (k Ar X : ℕ) → S ss k Ar X → S ss (suc k) Ar X
  S-next zero Ar X h = absurd h
  S-next (suc k) Ar X h = next_more ss (S-next k) Ar X h

  pub S-up : {k n : ℕ} → k ≤ n → (Ar X : ℕ) → S ss k Ar X → S ss n Ar X
  S-up {k} {n} h Ar X s = le_ind (λ (j : ℕ). S ss j Ar X) s (λ j i t. S-next j Ar X t) n h

-- ---- valid statements

pub valid-in : {cs : List Credential} (m : ℕ) {s : Statement} {v : Period} → Mem (s during v) cs → T (covers v m) → Mem s (valid_at cs m)
valid-in m {v = v} i t = each_in _ i (only-in (covers v m) t (head refl))

pub valid-out : (cs : List Credential) (m : ℕ) {s : Statement} → Mem s (valid_at cs m) → (v : Period) × Mem (s during v) cs × T (covers v m)
valid-out cs m {s} h =
    let r = each-out (λ c. only (covers c.period m) (c.statement ∷ [])) cs h in
    let o = only_out (covers r.0.period m) r.2 in
    (r.0.period, cast (λ i. record { statement = sole o.1 i; period = r.0.period }) r.1, o.0)

-- a body other than a set
abbrev Inclusion : Body → Type 0
Inclusion (set X) = ⊥
Inclusion (role Bs) = Unit {0}
Inclusion (link Bs t) = Unit {0}
Inclusion (Bs ∩ Ct) = Unit {0}
Inclusion (Bs ⊙ Ct) = Unit {0}
Inclusion (Bs ⊗ Ct) = Unit {0}

module _ (cs : List Credential) (m : ℕ) where
  abbrev ss : List Statement
  ss = valid_at cs m

  abbrev Stated : ℕ → Body → Type 0
  Stated Ar e = Mem (Ar ⟵ e) ss

  -- CW1 is the only rule that gives anything but a set
  stated : {Ar : ℕ} {e : Body} → Inclusion e → CW cs m Ar e → Stated Ar e
  stated n (cw1 i t) = valid-in m i t
  stated n (cw2 a b) = absurd n
  stated n (cw3 C a b c) = absurd n
  stated n (cw4 a b c) = absurd n
  stated n (cw5 a b c) = absurd n
  stated n (cw6 a b c o) = absurd n

  abbrev Some : ℕ → ℕ → Type 0
  Some Ar X = (k : ℕ) × S ss k Ar X

  up : {Ar X : ℕ} {e : Body} (k : ℕ) → Stated Ar e → Gives (S ss k) (S ss k) e X → Some Ar X
  up k i g = (suc k, (_, i, refl, g))

  -- both premises at the higher of their levels
  left : {Ar X : ℕ} (a : Some Ar X) (j : ℕ) → S ss (max a.0 j) Ar X
  left {Ar} {X} a j = S-up ss (le-max_left a.0 j) Ar X a.1

  right : {Ar X : ℕ} (i : ℕ) (b : Some Ar X) → S ss (max i b.0) Ar X
  right {Ar} {X} i b = S-up ss (le-max_right i b.0) Ar X b.1

  -- Theorem 1
  pub sound : {Ar X : ℕ} → Derivable cs m Ar X → Some Ar X
  sound (cw1 i t) = (1, (_, valid-in m i t, refl, refl))
  sound (cw2 d h) = let a = sound h in up a.0 (stated tt d) a.1
  sound (cw3 C d h k) = let a = sound h in let b = sound k in up (max a.0 b.0) (stated tt d) (C, left a b.0, right a.0 b)
  sound (cw4 d h k) = let a = sound h in let b = sound k in up (max a.0 b.0) (stated tt d) (left a b.0, right a.0 b)
  sound (cw5 d h k) = let a = sound h in let b = sound k in up (max a.0 b.0) (stated tt d) (_, _, left a b.0, right a.0 b, refl)
  sound (cw6 d h k e) = let a = sound h in let b = sound k in up (max a.0 b.0) (stated tt d) (_, _, left a b.0, right a.0 b, e, refl)

  abbrev Derived : ℕ → ℕ → Type 0
  Derived Ar X = Derivable cs m Ar X

  rule : {Ar X : ℕ} (e : Body) → CW cs m Ar e → Gives Derived Derived e X → Derived Ar X
  rule {Ar} (set Y) d h = subst⁻¹ (Derived Ar) h d
  rule (role Bs) d h = cw2 d h
  rule (link Bs t) d (C, h, k) = cw3 C d h k
  rule (Bs ∩ Ct) d (h, k) = cw4 d h k
  rule {Ar} (Bs ⊙ Ct) d (Y, Z, h, k, e) = subst⁻¹ (Derived Ar) e (cw5 d h k)
  rule {Ar} (Bs ⊗ Ct) d (Y, Z, h, k, o, e) = subst⁻¹ (Derived Ar) e (cw6 d h k o)

  -- Theorem 2
  pub complete : (k Ar X : ℕ) → S ss k Ar X → Derivable cs m Ar X
  complete zero Ar X h = absurd h
  complete (suc k) Ar X (s, i, h, g) =
      let v = valid-out cs m i in
      subst⁻¹ (λ r. Derived r X) h (rule s.body (cw1 v.1 v.2) (gives_more (complete k) (complete k) s.body X g))

  pub derivable : {Ar X : ℕ} → Derivable cs m Ar X ↔ Some Ar X
  derivable {Ar} {X} = (sound, λ a. complete a.0 Ar X a.1)

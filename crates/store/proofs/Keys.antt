-- A key of a role and a set gives both back.
use mathlib.Core.Path.{◌≡◌}
use Prim.Native.Nat.{ℕ, ◌^◌, ◌<◌}
use native.Mathlib.Omega.{arith}
use Rattle.store.specs.Entries.{key_of, role_in, set_in}

pub role-of-key : (Ar X : ℕ) → X < 2 ^ 32 → role_in (key_of Ar X) ≡ Ar
role-of-key Ar X h = omega arith

pub set-of-key : (Ar X : ℕ) → X < 2 ^ 32 → set_in (key_of Ar X) ≡ X
set-of-key Ar X h = omega arith

pub set_below : (key : ℕ) → set_in key < 2 ^ 32
set_below key = omega arith

pub key-of-parts : (key : ℕ) → key_of (role_in key) (set_in key) ≡ key
key-of-parts key = omega arith

-- Passes one after another.
use mathlib.Core.Bool.{Bool}
use mathlib.Core.List.{List}
use Prim.Native.Nat.{ℕ, ◌≤◌}
use native.Mathlib.Nat.{le_refl, le_trans}
use native.Mathlib.Omega.{arith}
use Rattle.closure.specs.Closure.{Held}
use Rattle.giving.specs.Giving.{Closes}
use Rattle.closing.specs.Passes.{GaveAny}

pub closes-none : {limit : ℕ} {codes valid lists keys spans slots links notes done : List ℕ} {n : ℕ} → n ≤ limit → Held keys spans slots links notes done n → Closes limit codes valid lists keys spans done n keys spans slots links notes done n
closes-none few k = record { held = λ _. k; closed = λ _ ss p c. c; over = λ l. absurd (omega arith) }

pub closes-then : {limit : ℕ} {codes valid lists keys spans done keys' spans' slots' links' notes' done' keys'' spans'' slots'' links'' notes'' done'' : List ℕ} {n r t : ℕ} → r ≤ limit → Closes limit codes valid lists keys spans done n keys' spans' slots' links' notes' done' r → Closes limit codes valid lists keys' spans' done' r keys'' spans'' slots'' links'' notes'' done'' t → Closes limit codes valid lists keys spans done n keys'' spans'' slots'' links'' notes'' done'' t
closes-then few g k =
    record {
      held = k.held;
      closed = λ l ss p c. k.closed l ss p (g.closed few ss p c);
      over = λ l ss p c. k.over l ss p (g.closed few ss p c);
    }

module _ {limit : ℕ} {codes valid lists keys spans done : List ℕ} {n : ℕ} where
  pub any_none : {slots links notes : List ℕ} (any : Bool) → n ≤ limit → Held keys spans slots links notes done n → GaveAny limit codes valid lists keys spans done n any keys spans slots links notes done n any
  any_none any few k = record { closes = closes-none few k; less = λ _. le_refl _ }

  module _ {keys' spans' slots' links' notes' done' : List ℕ} {r : ℕ} where
    pub any-then : {any any' any'' : Bool} {keys'' spans'' slots'' links'' notes'' done'' : List ℕ} {t : ℕ} → r ≤ limit → GaveAny limit codes valid lists keys spans done n any keys' spans' slots' links' notes' done' r any' → GaveAny limit codes valid lists keys' spans' done' r any' keys'' spans'' slots'' links'' notes'' done'' t any'' → GaveAny limit codes valid lists keys spans done n any keys'' spans'' slots'' links'' notes'' done'' t any''
    any-then few g k = record { closes = closes-then few g.closes k.closes; less = λ l. le_trans (k.less l) (g.less few) }

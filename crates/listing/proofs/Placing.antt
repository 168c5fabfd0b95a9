-- A body and then a head: a use is added.
use mathlib.Core.Path.{◌≡◌, ◌∙◌}
use mathlib.Core.Logic.{◌⊎◌, inl, inr}
use mathlib.Core.List.{List}
use Prim.Native.Nat.{ℕ, ◌<◌}
use native.Mathlib.Nat.{lt_of_lt_of_le}
use native.Mathlib.Omega.{arith}
use lib.ListN.{get_or}
use Rattle.meaning.specs.Table.{bit}
use Rattle.rules.specs.declared.Use.{Use}
use Rattle.rules.specs.Uses.{bodies_in, Listed, Uses, Fitting, UseAdded}
use Rattle.listing.proofs.Bodies.{Bodied, code_of}

-- the head leaves the number of bodies as it is
pub use-placed : {u : Use} {codes valid lists codes₁ lists₁ : List ℕ} {r : ℕ} → Listed codes valid lists → Bodied u codes valid lists codes₁ lists₁ r
    → {v source : ℕ} {codes₂ valid₂ lists₂ : List ℕ} → bodies_in lists₂ ≡ bodies_in lists₁ → UseAdded u v source codes₁ valid lists₁ codes₂ valid₂ lists₂
    → UseAdded u v source codes valid lists codes₂ valid₂ lists₂
use-placed {u} {codes} {valid} {lists} {codes₁} {lists₁} l d {v} {codes₂ = codes₂} same a =
    record {
      listed = a.listed;
      one = (omega (arith, d.one.1), omega (arith, a.one.1, d.none));
      more = (omega (arith, d.one.0), omega (arith, a.more.1, d.none));
      bodies = λ i k. a.bodies i (lt_of_lt_of_le k d.one.0) ∙ d.bodies i k;
      heads = λ i k. a.heads i (rw d.none k) ∙ d.heads i;
      sources = λ i k. a.sources i (rw d.none k) ∙ d.sources i (omega (arith, l.few.1));
      new = λ i k. a.new i (rw d.none k);
      coded = λ i k. codes-of i (a.coded i k);
      exact = λ w s f. ((λ x. before w s f ((a.exact w s f).0 x)), λ x. (a.exact w s f).1 (after w s f x));
    }
  where
    codes-of : (i : ℕ) → (get_or codes₂ i 0 ≡ code_of u) ⊎ ((i < bodies_in lists₁) × (get_or codes₂ i 0 ≡ get_or codes₁ i 0)) → (get_or codes₂ i 0 ≡ code_of u) ⊎ ((i < bodies_in lists) × (get_or codes₂ i 0 ≡ get_or codes i 0))
    codes-of i (inl e) = inl e
    codes-of i (inr (k, e)) = go (d.others i k)
      where
        go : (get_or codes₁ i 0 ≡ code_of u) ⊎ ((i < bodies_in lists) × (get_or codes₁ i 0 ≡ get_or codes i 0)) → (get_or codes₂ i 0 ≡ code_of u) ⊎ ((i < bodies_in lists) × (get_or codes₂ i 0 ≡ get_or codes i 0))
        go (inl q) = inl (e ∙ q)
        go (inr (j, q)) = inr (j, e ∙ q)

    before : (w : Use) (s : ℕ) → Fitting w → Uses codes₁ valid lists₁ w s ⊎ ((w ≡ u) × (bit v s ≡ 1)) → Uses codes valid lists w s ⊎ ((w ≡ u) × (bit v s ≡ 1))
    before w s f (inl x) = inl ((d.same w s f).0 x)
    before w s f (inr e) = inr e

    after : (w : Use) (s : ℕ) → Fitting w → Uses codes valid lists w s ⊎ ((w ≡ u) × (bit v s ≡ 1)) → Uses codes₁ valid lists₁ w s ⊎ ((w ≡ u) × (bit v s ≡ 1))
    after w s f (inl x) = inl ((d.same w s f).1 x)
    after w s f (inr e) = inr e

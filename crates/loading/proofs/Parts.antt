-- The first i credentials of a policy, one after another: their uses.
use mathlib.Core.Path.{◌≡◌, refl, ◌∙◌, subst}
use mathlib.Core.Logic.{◌⊎◌, inl, inr}
use mathlib.Core.List.{List}
use Prim.Native.Nat.{ℕ, ◌+◌, ◌≤◌, ◌<◌}
use native.Mathlib.Nat.{not-suc-le-zero}
use native.Mathlib.Omega.{arith}
use Rattle.policy.specs.Policy.{credential_of}
use Rattle.store.proofs.Chains.{below_or_not}
use Rattle.rules.specs.declared.Use.{Use}
use Rattle.rules.specs.Uses.{Uses, Fitting, source_of, heads_in}
use Rattle.rules.proofs.UseLaws.{listed-none, formed-none, uses-none}
use Rattle.facts.specs.Facts.{Before}
use Rattle.facts.proofs.Sets.{before-out, before-in}
use Rattle.loading.specs.Loading.{NoUses, UsedIn, Sourced, UsesLoaded}
use Rattle.loading.specs.Steps.{Room, UsesAdded, UseOf, Part}
use Rattle.loading.proofs.Adding.{head-stays}

pub part-start : {p es : List ℕ} {count : ℕ} {codes valid lists : List ℕ} → NoUses codes valid lists → Part p es count 0 codes valid lists
part-start z =
    let b = z.none 3104 (omega arith) in
    let h = z.none 3105 (omega arith) in
    record {
      listed = listed-none z.room.0 z.room.1 z.room.2 z.none;
      formed = formed-none b;
      small = (omega arith, omega arith);
      exact = λ w s f. ((λ x. absurd (uses-none b x)), λ x. absurd (not-suc-le-zero x.1));
      sourced = λ j k. absurd (omega arith);
    }

module _ {p es : List ℕ} {count i : ℕ} {codes valid lists : List ℕ} (w : Part p es count i codes valid lists) where
  pub part_room : i < 256 → Room 2 codes valid lists
  part_room l = record { listed = w.listed; formed = w.formed; few = (omega (arith, w.small.0), omega (arith, w.small.1)) }

  module _ (few : i < 256) {codes' valid' lists' : List ℕ} (a : UsesAdded 2 (UseOf es count i (credential_of p i)) codes valid lists codes' valid' lists') where
    abbrev Used : Use → ℕ → ℕ → Type 0
    Used u s j = UsedIn es count (credential_of p j) u s

    next-sourced : (j : ℕ) → j < heads_in lists' → (j < heads_in lists) ⊎ (heads_in lists ≤ j) → Sourced p (i + 1) es count codes' lists' j
    next-sourced j k (inl l) =
        let x = w.sourced j l in
        record {
          at = x.at;
          second = x.second;
          word = (a.heads j l).1 ∙ x.word;
          known = (omega (arith, x.known.0), x.known.1);
          span = x.span;
          valid = x.valid;
          which = x.which;
          used = x.used;
          coded = head-stays a w.listed j l x.coded;
        }
    next-sourced j k (inr l) =
        let x = a.new j l k in
        let y = x.2.1 in
        record {
          at = i;
          second = y.1.0;
          word = y.1.2;
          known = (omega arith, few);
          span = x.2.0;
          valid = y.0;
          which = x.0;
          used = y.1.1;
          coded = x.1;
        }

    pub part-next : Part p es count (i + 1) codes' valid' lists'
    part-next =
        record {
          listed = a.listed;
          formed = a.formed;
          small = (omega (arith, w.small.0, a.few.0), omega (arith, w.small.1, a.few.1));
          exact = λ u s f. ((λ x. before-in {P = Used u s} i (to u s f ((a.exact u s f).0 x))), λ x. (a.exact u s f).1 (from u s f (before-out {P = Used u s} i x)));
          sourced = λ j k. next-sourced j k (below_or_not j (heads_in lists));
        }
      where
        to : (u : Use) (s : ℕ) → Fitting u → Uses codes valid lists u s ⊎ ((o : ℕ) × UseOf es count i (credential_of p i) u s o) → Before i (Used u s) ⊎ Used u s i
        to u s f (inl x) = inl ((w.exact u s f).0 x)
        to u s f (inr (o, (d, (second, x, e)))) = inr ((second, x), d)

        from : (u : Use) (s : ℕ) → Fitting u → Before i (Used u s) ⊎ Used u s i → Uses codes valid lists u s ⊎ ((o : ℕ) × UseOf es count i (credential_of p i) u s o)
        from u s f (inl x) = inl ((w.exact u s f).1 x)
        from u s f (inr (x, d)) = inr (source_of x.0 i, (d, (x.0, x.1, refl)))

  pub part-whole : {n : ℕ} → i ≡ n → UsesLoaded p n es count codes valid lists
  part-whole e = subst (λ (n : ℕ). UsesLoaded p n es count codes valid lists) e record { listed = w.listed; formed = w.formed; exact = w.exact; sourced = w.sourced }

-- Uses that are added one after another: what was listed stays, exactly these uses are new, and each new head has its source.
use mathlib.Core.Path.{◌≡◌, refl, ◌∙◌, subst⁻¹}
use mathlib.Core.Logic.{◌⊎◌, inl, inr, ◌↔◌}
use mathlib.Core.List.{List}
use Prim.Native.Nat.{ℕ, ◌≤◌, ◌<◌}
use native.Mathlib.Nat.{le_refl, lt_of_lt_of_le}
use native.Mathlib.Omega.{arith}
use Rattle.meaning.specs.Table.{bit}
use Rattle.rules.specs.declared.Use.{Use}
use Rattle.rules.specs.Uses.{Uses, Listed, Fitting, Proper, Formed, HeadOf, UseAdded, body_of_head, heads_in, source_in}
use Rattle.rules.proofs.Forming.{use-formed}
use Rattle.store.proofs.Chains.{below_or_not}
use Rattle.heads.proofs.Gaining.{some-bit}
use Rattle.loading.specs.Steps.{Room, Sources, UsesAdded}

-- one use in the spans v, with its source
abbrev pub OneUse : Use → ℕ → ℕ → Sources
OneUse u v source w s o = (w ≡ u) × (bit v s ≡ 1) × (o ≡ source)

-- nothing is new
pub none-added : {n : ℕ} {New : Sources} {codes valid lists : List ℕ} → Room n codes valid lists → ((w : Use) (s o : ℕ) → New w s o → ⊥) → UsesAdded n New codes valid lists codes valid lists
none-added {New = New} {codes} {valid} {lists} r none =
    record {
      listed = r.listed;
      formed = r.formed;
      few = (omega arith, omega arith);
      more = (le_refl _, le_refl _);
      bodies = λ i _. refl;
      heads = λ i _. (refl, refl);
      new = λ i k j. absurd (omega arith);
      exact = λ w s f. (inl, back w s);
    }
  where
    back : (w : Use) (s : ℕ) → Uses codes valid lists w s ⊎ ((o : ℕ) × New w s o) → Uses codes valid lists w s
    back w s (inl x) = x
    back w s (inr (o, x)) = absurd (none w s o x)

-- one use
pub one-added : {u : Use} {v source : ℕ} {codes valid lists codes' valid' lists' : List ℕ} → Proper u → (v ≡ 0 → ⊥) → Formed codes lists → UseAdded u v source codes valid lists codes' valid' lists' → UsesAdded 1 (OneUse u v source) codes valid lists codes' valid' lists'
one-added {u} {v} {source} {codes} {valid} {lists} {codes'} {valid'} {lists'} p some formed a =
    let b = some-bit v some in
    record {
      listed = a.listed;
      formed = use-formed p formed a;
      few = a.one;
      more = a.more;
      bodies = a.bodies;
      heads = λ i k. (a.heads i k, a.sources i k);
      new = λ i k j. let x = a.new i k j in (u, x.0, (b.0, (refl, b.1, x.1)));
      exact = λ w s f. ((λ x. to w s ((a.exact w s f).0 x)), λ x. (a.exact w s f).1 (from w s x));
    }
  where
    to : (w : Use) (s : ℕ) → Uses codes valid lists w s ⊎ ((w ≡ u) × (bit v s ≡ 1)) → Uses codes valid lists w s ⊎ ((o : ℕ) × OneUse u v source w s o)
    to w s (inl x) = inl x
    to w s (inr (e, b)) = inr (source, (e, b, refl))

    from : (w : Use) (s : ℕ) → Uses codes valid lists w s ⊎ ((o : ℕ) × OneUse u v source w s o) → Uses codes valid lists w s ⊎ ((w ≡ u) × (bit v s ≡ 1))
    from w s (inl x) = inl x
    from w s (inr (o, (e, b, _))) = inr (e, b)

-- ---- what was listed stays

module _ {n : ℕ} {New : Sources} {codes valid lists codes' valid' lists' : List ℕ} (a : UsesAdded n New codes valid lists codes' valid' lists') where
  pub head-stays : Listed codes valid lists → (i : ℕ) → i < heads_in lists → {u : Use} → HeadOf codes u i → HeadOf codes' u i
  head-stays l i k x =
      let e = (a.heads i k).0 in
      record { body_coded = rw e (a.bodies (body_of_head codes i) (l.bodies i k) ∙ x.body_coded); head_coded = rw e x.head_coded }

  -- the same in other words
  pub uses-same : {m : ℕ} {New' : Sources} → n ≤ m → ((w : Use) (s o : ℕ) → New w s o ↔ New' w s o) → UsesAdded m New' codes valid lists codes' valid' lists'
  uses-same {New' = New'} l e =
      record {
        listed = a.listed;
        formed = a.formed;
        few = (omega (arith, a.few.0), omega (arith, a.few.1));
        more = a.more;
        bodies = a.bodies;
        heads = a.heads;
        new = λ i k j. let x = a.new i k j in (x.0, x.1, (x.2.0, (e x.0 x.2.0 (source_in lists' i)).0 x.2.1));
        exact = λ w s f. ((λ x. to w s ((a.exact w s f).0 x)), λ x. (a.exact w s f).1 (from w s x));
      }
    where
      to : (w : Use) (s : ℕ) → Uses codes valid lists w s ⊎ ((o : ℕ) × New w s o) → Uses codes valid lists w s ⊎ ((o : ℕ) × New' w s o)
      to w s (inl x) = inl x
      to w s (inr (o, x)) = inr (o, (e w s o).0 x)

      from : (w : Use) (s : ℕ) → Uses codes valid lists w s ⊎ ((o : ℕ) × New' w s o) → Uses codes valid lists w s ⊎ ((o : ℕ) × New w s o)
      from w s (inl x) = inl x
      from w s (inr (o, x)) = inr (o, (e w s o).1 x)

-- ---- one after the other

abbrev pub Either : Sources → Sources → Sources
Either P Q w s o = P w s o ⊎ Q w s o

module _ {P : Sources} {codes valid lists codes' valid' lists' : List ℕ} (a : UsesAdded 1 P codes valid lists codes' valid' lists') where
  pub both-added : {Q : Sources} {codes'' valid'' lists'' : List ℕ} → UsesAdded 1 Q codes' valid' lists' codes'' valid'' lists'' → UsesAdded 2 (Either P Q) codes valid lists codes'' valid'' lists''
  both-added {Q} {codes''} {valid''} {lists''} d =
      record {
        listed = d.listed;
        formed = d.formed;
        few = (omega (arith, a.few.0, d.few.0), omega (arith, a.few.1, d.few.1));
        more = (omega (arith, a.more.0, d.more.0), omega (arith, a.more.1, d.more.1));
        bodies = λ i k. d.bodies i (lt_of_lt_of_le k a.more.0) ∙ a.bodies i k;
        heads = λ i k.
            let x = a.heads i k in
            let y = d.heads i (lt_of_lt_of_le k a.more.1) in
            (y.0 ∙ x.0, y.1 ∙ x.1);
        new = λ i k j. origin i k j (below_or_not i (heads_in lists'));
        exact = λ w s f. ((λ x. to w s f ((d.exact w s f).0 x)), λ x. (d.exact w s f).1 (from w s f x));
      }
    where
      origin : (i : ℕ) → heads_in lists ≤ i → i < heads_in lists'' → (i < heads_in lists') ⊎ (heads_in lists' ≤ i) → (u : Use) × HeadOf codes'' u i × ((s : ℕ) × Either P Q u s (source_in lists'' i))
      origin i k j (inl l) =
          let x = a.new i k l in
          (x.0, head-stays d a.listed i l x.1, (x.2.0, inl (subst⁻¹ (P x.0 x.2.0) (d.heads i l).1 x.2.1)))
      origin i k j (inr l) = let x = d.new i l j in (x.0, x.1, (x.2.0, inr x.2.1))

      first : (w : Use) (s : ℕ) → Uses codes valid lists w s ⊎ ((o : ℕ) × P w s o) → Uses codes valid lists w s ⊎ ((o : ℕ) × Either P Q w s o)
      first w s (inl x) = inl x
      first w s (inr (o, x)) = inr (o, inl x)

      to : (w : Use) (s : ℕ) → Fitting w → Uses codes' valid' lists' w s ⊎ ((o : ℕ) × Q w s o) → Uses codes valid lists w s ⊎ ((o : ℕ) × Either P Q w s o)
      to w s f (inl x) = first w s ((a.exact w s f).0 x)
      to w s f (inr (o, x)) = inr (o, inr x)

      from : (w : Use) (s : ℕ) → Fitting w → Uses codes valid lists w s ⊎ ((o : ℕ) × Either P Q w s o) → Uses codes' valid' lists' w s ⊎ ((o : ℕ) × Q w s o)
      from w s f (inl x) = inl ((a.exact w s f).1 (inl x))
      from w s f (inr (o, inl x)) = inl ((a.exact w s f).1 (inr (o, x)))
      from w s f (inr (o, inr x)) = inr (o, x)

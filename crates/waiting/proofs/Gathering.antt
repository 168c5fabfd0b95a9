-- The walk of `gather` along the list of a role.
use mathlib.Core.Path.{◌≡◌, refl, ap, ◌∙◌, subst, subst⁻¹}
use mathlib.Core.Logic.{◌⊎◌, inl, inr, ◌↔◌}
use mathlib.Core.List.{List}
use Prim.Native.Nat.{ℕ, suc, ◌-◌, ◌<◌}
use native.Mathlib.Omega.{arith}
use lib.Bits.{bit_and, and_zero_r}
use lib.ListN.{length, get_or}
use Rattle.meaning.specs.Table.{bit}
use Rattle.store.specs.Entries.{key_of, role_in, set_in}
use Rattle.store.proofs.Keys.{role-of-key, set-of-key, set_below}
use Rattle.heads.specs.Gaining.{Spanned}
use Rattle.heads.specs.Walks.{On, From}
use Rattle.waiting.specs.declared.Offer.{Offer}
use Rattle.waiting.specs.declared.Pair.{Pair}
use Rattle.waiting.specs.declared.Queue.{Queue}
use Rattle.waiting.specs.Pairs.{role_of, Paired, WithPair, Pairing, pair_set, pair_spans, pair_at}
use Rattle.waiting.specs.Waiting.{RoleLists, Waiting, Waits, United, Gathers}
use Rattle.waiting.proofs.Giving.{set-low, spans-paired, spans_all, pair_one, one-pair}
use Rattle.waiting.proofs.Linking.{linked-lower, linked_on, from_back, from-both}

-- what entry j gives
abbrev pub Given : List ℕ → List ℕ → Offer → ℕ → Spanned
Given keys done o j = WithPair o.kind o.set (set_in (get_or keys j 0)) (bit_and o.spans (get_or done j 0))

-- the walk at place c: exactly what the entries passed give waits
pub record Walked (keys done : List ℕ) (o : Offer) (start : ℕ) (w : List ℕ) (count c : ℕ) : Type 0 where
  pub waiting : Waiting w count
  pub exact : (X s : ℕ) → Waits w count X s ↔ From (role_of keys) (role_of keys (start - 1)) start c (Given keys done o) X s
  pub partners : (i : ℕ) → i < count → Pairing keys done start o.kind o.set (set_in (get_or w i 0)) (role_in (get_or w i 0))
  pub on : On (role_of keys) (role_of keys (start - 1)) start c
  pub none : c ≡ start → count ≡ 0

module _ {keys done : List ℕ} {o : Offer} {start : ℕ} where
  pub walked_start : {w : List ℕ} → length w ≡ 97 → Walked keys done o start w 0 start
  walked_start {w} room =
      record {
        waiting = record { room = room; few = omega arith };
        exact = λ X s. (λ u. absurd (no_place u), λ f. absurd (no_item f));
        partners = λ i l. absurd (omega arith);
        on = λ nz. (omega arith, refl);
        none = λ e. refl;
      }
    where
      no_place : {X s : ℕ} → Waits w 0 X s → ⊥
      no_place u = omega (arith, u.low)

      no_item : {X s : ℕ} → From (role_of keys) (role_of keys (start - 1)) start start (Given keys done o) X s → ⊥
      no_item f = omega (arith, f.past, f.low)

  module _ {w : List ℕ} {count c : ℕ} (k : Walked keys done o start w count c) where
    gathered : ((start ≡ 0 → ⊥) → c < start) → Gathers keys done o start w (record { count = count; at = c })
    gathered less = record { waiting = k.waiting; exact = k.exact; partners = k.partners; on = k.on; less = less }

    pub walked_end : c ≡ 0 → Gathers keys done o start w (record { count = count; at = 0 })
    walked_end e = subst (λ (y : ℕ). Gathers keys done o start w (record { count = count; at = y })) e (gathered (λ nz. omega arith))

    pub walked-full : (c ≡ 0 → ⊥) → count ≡ 24 → Gathers keys done o start w (record { count = 24; at = c })
    walked-full nz e =
        subst (λ (y : ℕ). Gathers keys done o start w (record { count = y; at = c })) e
        (gathered (λ _. let l = (k.on nz).0 in let ne : c ≡ start → ⊥ = λ q. omega (arith, k.none q) in omega arith))

    pub walked-lower : (links : List ℕ) {d : ℕ} → RoleLists keys links start → (c ≡ 0 → ⊥) → d ≡ get_or links (c - 1) 0 → d < c
    walked-lower links {d} ln nz is = linked-lower keys links ln c d nz (k.on nz).0 is

  module _ (links : List ℕ) {w w' : List ℕ} {q q' : Queue} {x : Pair} {c d : ℕ} (ln : RoleLists keys links start) (low : o.set < 4294967296) (k : Walked keys done o start w q.count c) (nz : c ≡ 0 → ⊥) (is : d ≡ get_or links (c - 1) 0) (e : x ≡ pair_at keys done o (c - 1)) (u : United w q x w' q') where
    -- one entry further
    pub walked_next : Walked keys done o start w' q'.count d
    walked_next =
        record {
          waiting = u.waiting;
          exact = λ X s. (λ v. from-both keys links ln c d nz here is role (k.on nz).1 (Given keys done o) X s (to X s ((t.exact X s).0 v)), λ v. (t.exact X s).1 (from X s (from_back keys links ln c d nz here is role (k.on nz).1 (Given keys done o) X s v)));
          partners = λ i l. partner i (t.partners i l);
          on = linked_on keys links ln c d nz here is role (k.on nz).1;
          none = λ q. absurd (omega (arith, walked-lower k links ln nz is, here));
        }
      where
        role : ℕ
        role = role_of keys (start - 1)

        here : c - 1 < start
        here = (k.on nz).0

        y : ℕ
        y = set_in (get_or keys (c - 1) 0)

        m : ℕ
        m = bit_and o.spans (get_or done (c - 1) 0)

        t : United w q (pair_at keys done o (c - 1)) w' q'
        t = subst (λ (z : Pair). United w q z w' q') e u

        to : (X s : ℕ) → Waits w q.count X s ⊎ ((X ≡ pair_set o.kind o.set y) × (bit (pair_spans o.kind o.set y m) s ≡ 1)) → From (role_of keys) role start c (Given keys done o) X s ⊎ Given keys done o (c - 1) X s
        to X s (inl v) = inl ((k.exact X s).0 v)
        to X s (inr v) = inr (one-pair o.kind o.set y m X s v)

        from : (X s : ℕ) → From (role_of keys) role start c (Given keys done o) X s ⊎ Given keys done o (c - 1) X s → Waits w q.count X s ⊎ ((X ≡ pair_set o.kind o.set y) × (bit (pair_spans o.kind o.set y m) s ≡ 1))
        from X s (inl v) = inl ((k.exact X s).1 v)
        from X s (inr v) = inr (pair_one o.kind o.set y m X s v)

        fits : pair_set o.kind o.set y < 4294967296
        fits = set-low o.kind o.set y refl low (set_below (get_or keys (c - 1) 0))

        new : (pair_spans o.kind o.set y m ≡ 0 → ⊥) → Pairing keys done start o.kind o.set (set_in (key_of (suc (c - 1)) (pair_set o.kind o.set y))) (role_in (key_of (suc (c - 1)) (pair_set o.kind o.set y)))
        new some =
            record {
              entry = c - 1;
              low = here;
              of = (k.on nz).1;
              some = λ z. some (spans_all o.kind o.set y m some ∙ ap (bit_and o.spans) z ∙ and_zero_r o.spans);
              paired = subst⁻¹ (Paired o.kind o.set y) (set-of-key (suc (c - 1)) (pair_set o.kind o.set y) fits) (spans-paired o.kind o.set y m some);
              word = role-of-key (suc (c - 1)) (pair_set o.kind o.set y) fits;
            }

        partner : (i : ℕ) → ((i < q.count) × (get_or w' i 0 ≡ get_or w i 0)) ⊎ ((pair_spans o.kind o.set y m ≡ 0 → ⊥) × (get_or w' i 0 ≡ key_of (suc (c - 1)) (pair_set o.kind o.set y))) → Pairing keys done start o.kind o.set (set_in (get_or w' i 0)) (role_in (get_or w' i 0))
        partner i (inl (l, g)) = subst⁻¹ (λ (z : ℕ). Pairing keys done start o.kind o.set (set_in z) (role_in z)) g (k.partners i l)
        partner i (inr (some, g)) = subst⁻¹ (λ (z : ℕ). Pairing keys done start o.kind o.set (set_in z) (role_in z)) g (new some)

-- Loops along the list of a family, which add what its items give.
use mathlib.Core.Path.{◌≡◌, sym, ◌∙◌, subst}
use mathlib.Core.Logic.{◌⊎◌, inl, inr}
use mathlib.Core.List.{List}
use Prim.Native.Nat.{ℕ, ◌-◌, ◌≤◌, ◌<◌, zero-le}
use native.Mathlib.Omega.{arith}
use Rattle.store.specs.Entries.{latest}
use Rattle.store.proofs.Chains.{below_or_not, latest-below, latest-some, latest-none}
use Rattle.heads.specs.Gaining.{Spanned, Origin, Kept, Gains}
use Rattle.heads.specs.Walks.{On, From, Along}
use Rattle.heads.proofs.Gaining.{gains-none, gains-same, gains-over, gains-then}

module _ (family : ℕ → ℕ) (f count : ℕ) where
  pub on-latest : (c m : ℕ) → m ≤ count → c ≡ latest family f m → On family f count c
  on-latest c m l e nz =
      let w = latest-some family f m (c - 1) (sym e ∙ omega arith) in
      (omega arith, w.1)

  -- what is before place c comes before it
  pub lower : (c d : ℕ) → (c ≡ 0 → ⊥) → d ≡ latest family f (c - 1) → d < c
  lower c d nz e = let w = latest-below family f (c - 1) in omega arith

  -- from the place before c on: from c on, or the item at c
  pub passed : (c d i : ℕ) → (c ≡ 0 → ⊥) → d ≡ latest family f (c - 1) → d ≤ i → family i ≡ f → (c ≤ i) ⊎ (i ≡ c - 1)
  passed c d i nz e p of = go (below_or_not i (c - 1)) (below_or_not (c - 1) i)
    where
      go : (i < c - 1) ⊎ (c - 1 ≤ i) → (c - 1 < i) ⊎ (i ≤ c - 1) → (c ≤ i) ⊎ (i ≡ c - 1)
      go (inl l) o = absurd (latest-none family f (c - 1) i (omega arith) l of)
      go (inr l) (inl o) = inl (omega arith)
      go (inr l) (inr o) = inr (omega arith)

  module _ (G : ℕ → Spanned) where
    pub from-none : (c : ℕ) → c ≡ latest family f count → (k s : ℕ) → From family f count c G k s → ⊥
    from-none c e k s w = let p = w.past in latest-none family f count w.item (omega arith) w.low w.of

    pub from_next : (c d : ℕ) → (c ≡ 0 → ⊥) → d ≡ latest family f (c - 1) → (k s : ℕ) → From family f count d G k s → From family f count c G k s ⊎ G (c - 1) k s
    from_next c d nz e k s w = go (passed c d w.item nz e w.past w.of)
      where
        go : (c ≤ w.item) ⊎ (w.item ≡ c - 1) → From family f count c G k s ⊎ G (c - 1) k s
        go (inl l) = inl record { item = w.item; past = l; low = w.low; of = w.of; gives = w.gives }
        go (inr q) = inr (subst (λ (i : ℕ). G i k s) q w.gives)

    pub from_more : (c d : ℕ) → d ≤ c → (k s : ℕ) → From family f count c G k s → From family f count d G k s
    from_more c d l k s w = let p = w.past in record { item = w.item; past = omega arith; low = w.low; of = w.of; gives = w.gives }

    pub from-this : (c d : ℕ) → (c ≡ 0 → ⊥) → d ≤ c - 1 → On family f count c → (k s : ℕ) → G (c - 1) k s → From family f count d G k s
    from-this c d nz l on k s g = let o = on nz in record { item = c - 1; past = l; low = o.0; of = o.1; gives = g }

module _ {limit : ℕ} {keys spans notes : List ℕ} {n : ℕ} {family : ℕ → ℕ} {f count : ℕ} {G : ℕ → Spanned} {By : Origin} where
  pub along-start : {slots links : List ℕ} {c : ℕ} → Kept keys spans slots links notes n → n ≤ limit → c ≡ latest family f count → Along limit keys spans notes n family f count G By keys spans slots links notes n c
  along-start {c = c} kept few e =
      record { few = few; gains = gains-none kept few (from-none family f count G c e); on = on-latest family f count c count (omega arith) e }

  module _ {keys' spans' slots' links' notes' : List ℕ} {r c : ℕ} (a : Along limit keys spans notes n family f count G By keys' spans' slots' links' notes' r c) where
    pub along-end : c ≡ 0 → Gains limit keys spans notes n (From family f count 0 G) By keys' spans' slots' links' notes' r
    along-end e = subst (λ (x : ℕ). Gains limit keys spans notes n (From family f count x G) By keys' spans' slots' links' notes' r) e a.gains

    module _ {keys'' spans'' slots'' links'' notes'' : List ℕ} {t : ℕ} {New : Spanned} (nz : c ≡ 0 → ⊥) (g : Gains limit keys' spans' notes' r New By keys'' spans'' slots'' links'' notes'' t) (to : (k s : ℕ) → New k s → G (c - 1) k s) where
      part : (d : ℕ) → d ≤ c - 1 → (k s : ℕ) → From family f count c G k s ⊎ New k s → From family f count d G k s
      part d l k s (inl w) = from_more family f count G c d (omega arith) k s w
      part d l k s (inr w) = from-this family f count G c d nz l a.on k s (to k s w)

      both : Gains limit keys spans notes n (λ k s. From family f count c G k s ⊎ New k s) By keys'' spans'' slots'' links'' notes'' t
      both = gains-then a.gains a.few g

      pub along-over : limit < t → Gains limit keys spans notes n (From family f count 0 G) By keys'' spans'' slots'' links'' notes'' t
      along-over l = gains-over (part 0 zero-le) l both

      pub along-next : {d : ℕ} → ((k s : ℕ) → G (c - 1) k s → New k s) → t ≤ limit → d ≡ latest family f (c - 1) → Along limit keys spans notes n family f count G By keys'' spans'' slots'' links'' notes'' t d
      along-next {d} back l e =
          let o = a.on nz in
          record {
            few = l;
            gains = gains-same (part d (let w = lower family f count c d nz e in omega arith)) (λ k s w. split k s (from_next family f count G c d nz e k s w)) both;
            on = on-latest family f count d (c - 1) (omega arith) e;
          }
        where
          split : (k s : ℕ) → From family f count c G k s ⊎ G (c - 1) k s → From family f count c G k s ⊎ New k s
          split k s (inl w) = inl w
          split k s (inr w) = inr (back k s w)

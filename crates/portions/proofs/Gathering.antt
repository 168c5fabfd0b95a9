-- Portions of sets that wait, along the list of a role.
use mathlib.Core.Path.{◌≡◌, sym, ap, ◌∙◌, subst}
use mathlib.Core.Logic.{◌⊎◌, inl, inr}
use mathlib.Core.List.{List}
use Prim.Native.Nat.{ℕ, ◌-◌, ◌≤◌, ◌<◌, zero-le}
use native.Mathlib.Omega.{arith}
use lib.Bits.{bit_and}
use lib.ListN.{get_or}
use Rattle.store.specs.Entries.{role_in, set_in}
use Rattle.heads.specs.Gaining.{Gains}
use Rattle.heads.specs.Walks.{From}
use Rattle.heads.specs.Heads.{Headed, FromHeads}
use Rattle.heads.proofs.Gaining.{below_or_not, gains-by, gains-same, gains-over, gains-then}
use Rattle.heads.proofs.Walks.{from_more}
use Rattle.heads.proofs.Heads.{headed-more, from-heads-more}
use Rattle.waiting.specs.declared.Offer.{Offer}
use Rattle.waiting.specs.declared.Gathered.{Gathered}
use Rattle.waiting.specs.Pairs.{role_of, Paired, WithPair, Pairing}
use Rattle.waiting.specs.Waiting.{Waits, Partnered, Gathers}
use Rattle.waiting.proofs.Gathering.{Given}
use Rattle.portions.proofs.Walks.{Each, ByEach, Passed, Walked}

-- ---- the entries below c have the same keys

module _ (keys keys' done : List ℕ) (o : Offer) (c : ℕ) (nz : c ≡ 0 → ⊥) (same : (i : ℕ) → i < c → get_or keys' i 0 ≡ get_or keys i 0) where
  of-same : (i : ℕ) → i < c → role_of keys' i ≡ role_of keys' (c - 1) → role_of keys i ≡ role_of keys (c - 1)
  of-same i l e = ap role_in (sym (same i l)) ∙ e ∙ ap role_in (same (c - 1) (omega arith))

  from-same : (d X s : ℕ) → From (role_of keys') (role_of keys' (c - 1)) c d (Given keys' done o) X s → From (role_of keys) (role_of keys (c - 1)) c d (Given keys done o) X s
  from-same d X s w =
      record {
        item = w.item;
        past = w.past;
        low = w.low;
        of = of-same w.item w.low w.of;
        gives = subst (λ (y : ℕ). WithPair o.kind o.set (set_in y) (bit_and o.spans (get_or done w.item 0)) X s) (same w.item w.low) w.gives;
      }

  pairing-same : (X u : ℕ) → Pairing keys' done c o.kind o.set X u → Pairing keys done c o.kind o.set X u
  pairing-same X u w =
      record {
        entry = w.entry;
        low = w.low;
        of = of-same w.entry w.low w.of;
        some = w.some;
        paired = subst (λ (y : ℕ). Paired o.kind o.set (set_in y) X) (same w.entry w.low) w.paired;
        word = w.word;
      }

gathers_same : (keys keys' done : List ℕ) (o : Offer) (c : ℕ) → (c ≡ 0 → ⊥) → ((i : ℕ) → i < c → get_or keys' i 0 ≡ get_or keys i 0) → {w : List ℕ} {g : Gathered} → Gathers keys' done o c w g → Gathers keys done o c w g
gathers_same keys keys' done o c nz same {w} {g} h =
    record {
      waiting = h.waiting;
      exact = λ X s. (
        λ u. from-same keys keys' done o c nz same g.at X s ((h.exact X s).0 u),
        λ u. (h.exact X s).1 (from-same keys' keys done o c nz (λ i l. sym (same i l)) g.at X s u),
      );
      partners = λ i l. pairing-same keys keys' done o c nz same (set_in (get_or w i 0)) (role_in (get_or w i 0)) (h.partners i l);
      on = λ at. let p = h.on at in (p.0, of-same keys keys' done o c nz same (g.at - 1) p.0 p.1);
      less = h.less;
    }

-- ---- the loop

module _ {limit : ℕ} {keys spans notes : List ℕ} {n : ℕ} {codes valid lists : List ℕ} {body own : ℕ} {done : List ℕ} {start : ℕ} (o : Offer) {keys' spans' slots' links' notes' : List ℕ} {r c : ℕ} (a : Walked limit keys spans notes n codes valid lists body own done start o keys' spans' slots' links' notes' r c) (low : start ≤ n) (nz : c ≡ 0 → ⊥) {w : List ℕ} {g : Gathered} (now : Gathers keys' done o c w g) where
  on : (c - 1 < start) × (role_of keys (c - 1) ≡ role_of keys (start - 1))
  on = a.on nz

  h : Gathers keys done o c w g
  h = gathers_same keys keys' done o c nz (λ i l. (a.gains.grown a.few).same i (omega (arith, on.0))) now

  pairing : (i : ℕ) → i < g.count → Pairing keys done start o.kind o.set (set_in (get_or w i 0)) (role_in (get_or w i 0))
  pairing i l =
      let p = h.partners i l in
      record { entry = p.entry; low = omega (arith, p.low, on.0); of = p.of ∙ on.1; some = p.some; paired = p.paired; word = p.word }

  -- a partner is an entry
  pub partner-low : (i : ℕ) → i < g.count → role_in (get_or w i 0) ≤ r
  partner-low i l = let p = pairing i l in omega (arith, p.word, p.low, (a.gains.grown a.few).more)

  module _ {keys'' spans'' slots'' links'' notes'' : List ℕ} {t : ℕ} (b : Gains limit keys' spans' notes' r (Headed codes valid lists body (Waits w g.count)) (FromHeads codes lists body own (Partnered w g.count)) keys'' spans'' slots'' links'' notes'' t) where
    by : (X u : ℕ) → Partnered w g.count X u → Pairing keys done start o.kind o.set X u
    by X u p = rw (p.set, p.word) (pairing p.place p.low)

    both : Gains limit keys spans notes n (λ k s. Passed codes valid lists body keys done start o c k s ⊎ Headed codes valid lists body (Waits w g.count) k s) (ByEach codes lists body own keys done start o) keys'' spans'' slots'' links'' notes'' t
    both = gains-then a.gains a.few (gains-by (from-heads-more by) b)

    to : (k s : ℕ) → Passed codes valid lists body keys done start o c k s ⊎ Headed codes valid lists body (Waits w g.count) k s → Passed codes valid lists body keys done start o g.at k s
    to k s (inl u) = from_more (role_of keys) (role_of keys (start - 1)) start (Each codes valid lists body keys done o) c g.at (omega (arith, h.less nz)) k s u
    to k s (inr u) =
        let p = (h.exact u.set s).0 u.given in
        record {
          item = p.item;
          past = p.past;
          low = omega (arith, p.low, on.0);
          of = p.of ∙ on.1;
          gives = record { head = u.head; low = u.low; of = u.of; spans = u.spans; set = u.set; given = p.gives; key = u.key };
        }

    back : (k s : ℕ) → Passed codes valid lists body keys done start o g.at k s → Passed codes valid lists body keys done start o c k s ⊎ Headed codes valid lists body (Waits w g.count) k s
    back k s u = go (below_or_not u.item c)
      where
        go : (u.item < c) ⊎ (c ≤ u.item) → Passed codes valid lists body keys done start o c k s ⊎ Headed codes valid lists body (Waits w g.count) k s
        go (inl l) = inr (headed-more (λ X z p. (h.exact X z).1 record { item = u.item; past = u.past; low = l; of = u.of ∙ sym on.1; gives = p }) k s u.gives)
        go (inr l) = inl record { item = u.item; past = l; low = u.low; of = u.of; gives = u.gives }

    pub portion-over : limit < t → Gains limit keys spans notes n (Passed codes valid lists body keys done start o 0) (ByEach codes lists body own keys done start o) keys'' spans'' slots'' links'' notes'' t
    portion-over l = gains-over (λ k s u. from_more (role_of keys) (role_of keys (start - 1)) start (Each codes valid lists body keys done o) g.at 0 zero-le k s (to k s u)) l both

    pub portion-next : t ≤ limit → Walked limit keys spans notes n codes valid lists body own done start o keys'' spans'' slots'' links'' notes'' t g.at
    portion-next l =
        record {
          few = l;
          gains = gains-same to back both;
          on = λ at. let p = h.on at in (omega (arith, p.0, on.0), p.1 ∙ on.1);
        }

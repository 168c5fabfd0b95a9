-- A body with one head: what the head gives from a pair, and the loop along the list of a role.
use mathlib.Core.Path.{◌≡◌, refl, sym, ap, ◌∙◌, subst}
use mathlib.Core.List.{List}
use Prim.Native.Nat.{ℕ, suc, ◌-◌, ◌≤◌}
use native.Mathlib.Omega.{arith}
use lib.Bits.{bit_and}
use lib.ListN.{get_or}
use Rattle.meaning.specs.Table.{bit}
use Rattle.store.specs.Entries.{key_of, set_in, latest, Has}
use Rattle.rules.specs.Uses.{head_of}
use Rattle.heads.specs.Gaining.{Origin, Gains}
use Rattle.heads.specs.Heads.{ByHead, Headed, FromHead}
use Rattle.heads.proofs.Gaining.{gains-same}
use Rattle.heads.proofs.Walks.{along-next}
use Rattle.heads.proofs.Heads.{bit-both, bit-left, bit-right, no-bit}
use Rattle.waiting.specs.declared.Offer.{Offer}
use Rattle.waiting.specs.declared.Pair.{Pair}
use Rattle.waiting.specs.Pairs.{role_of, WithPair, pair_set, pair_spans, pair_at, Pairing}
use Rattle.waiting.proofs.Giving.{pair_one, one-pair}
use Rattle.pairs.specs.Pairs.{OnlyHead, AllThere}
use Rattle.pairs.proofs.Gaining.{gains-there, gains-by-new}
use Rattle.portions.proofs.Walks.{Each, ByEach, Walked}

module _ {codes lists : List ℕ} {body head : ℕ} (only : OnlyHead codes lists body head) (valid : List ℕ) (kind x y m : ℕ) where
  pub head-given : (k s : ℕ) → ByHead codes valid (pair_set kind x y) (pair_spans kind x y m) head k s → Headed codes valid lists body (WithPair kind x y m) k s
  head-given k s (e, b) =
      record {
        head = head;
        low = only.low;
        of = only.of;
        spans = bit-right (pair_spans kind x y m) (get_or valid head 0) s b;
        set = pair_set kind x y;
        given = one-pair kind x y m (pair_set kind x y) s (refl, bit-left (pair_spans kind x y m) (get_or valid head 0) s b);
        key = e;
      }

  pub given-head : (k s : ℕ) → Headed codes valid lists body (WithPair kind x y m) k s → ByHead codes valid (pair_set kind x y) (pair_spans kind x y m) head k s
  given-head k s w =
      let e = only.only w.head w.low w.of in
      let o = pair_one kind x y m w.set s w.given in
      (w.key ∙ ap (λ (i : ℕ). key_of (head_of codes i) w.set) e ∙ ap (key_of (head_of codes head)) o.0, bit-both (pair_spans kind x y m) (get_or valid head 0) s o.1 (subst (λ (i : ℕ). bit (get_or valid i 0) s ≡ 1) e w.spans))

module _ {limit : ℕ} {keys spans notes : List ℕ} {n : ℕ} {codes valid lists : List ℕ} {body head own : ℕ} {done : List ℕ} {start : ℕ} (o : Offer) (only : OnlyHead codes lists body head) {keys' spans' slots' links' notes' : List ℕ} {r c : ℕ} (a : Walked limit keys spans notes n codes valid lists body own done start o keys' spans' slots' links' notes' r c) (low : start ≤ n) (nz : c ≡ 0 → ⊥) where
  abbrev x : Pair
  x = pair_at keys' done o (c - 1)

  -- the pair at place c is what it was
  was : x ≡ pair_at keys done o (c - 1)
  was = ap pair_of ((a.gains.grown a.few).same (c - 1) (let w = a.on nz in omega arith))
    where
      pair_of : ℕ → Pair
      pair_of y = record { set = pair_set o.kind o.set (set_in y); spans = pair_spans o.kind o.set (set_in y) (bit_and o.spans (get_or done (c - 1) 0)); other = suc (c - 1) }

  to : (k s : ℕ) → ByHead codes valid x.set x.spans head k s → Each codes valid lists body keys done o (c - 1) k s
  to k s w =
      head-given only valid o.kind o.set (set_in (get_or keys (c - 1) 0)) (bit_and o.spans (get_or done (c - 1) 0)) k s
      (subst (λ (p : Pair). ByHead codes valid p.set p.spans head k s) was w)

  back : (k s : ℕ) → Each codes valid lists body keys done o (c - 1) k s → ByHead codes valid x.set x.spans head k s
  back k s w =
      subst (λ (p : Pair). ByHead codes valid p.set p.spans head k s) (sym was)
      (given-head only valid o.kind o.set (set_in (get_or keys (c - 1) 0)) (bit_and o.spans (get_or done (c - 1) 0)) k s w)

  -- the head has it already
  pub entry-there : {role v : ℕ} {By : Origin} → role ≡ head_of codes head → v ≡ get_or valid head 0 → AllThere keys' spans' r role x v → Gains limit keys' spans' notes' r (Each codes valid lists body keys done o (c - 1)) By keys' spans' slots' links' notes' r
  entry-there e f all = gains-same to back (gains-there (a.gains.kept a.few) a.few there)
    where
      there : (k s : ℕ) → ByHead codes valid x.set x.spans head k s → Has keys' spans' r k s
      there k s (q, b) =
          subst (λ (y : ℕ). Has keys' spans' r y s) (ap (λ (y : ℕ). key_of y x.set) e ∙ sym q)
          (all s (subst (λ (y : ℕ). bit (bit_and x.spans y) s ≡ 1) (sym f) b))

  -- it is added to the head
  pub entry-added : {keys'' spans'' slots'' links'' notes'' : List ℕ} {t : ℕ} → Gains limit keys' spans' notes' r (ByHead codes valid x.set x.spans head) (FromHead codes lists own x.other x.set head) keys'' spans'' slots'' links'' notes'' t → Gains limit keys' spans' notes' r (Each codes valid lists body keys done o (c - 1)) (ByEach codes lists body own keys done start o) keys'' spans'' slots'' links'' notes'' t
  entry-added w = gains-same to back (gains-by-new by w)
    where
      pairing : (s : ℕ) → bit x.spans s ≡ 1 → Pairing keys done start o.kind o.set x.set x.other
      pairing s b =
          let w = one-pair o.kind o.set (set_in (get_or keys (c - 1) 0)) (bit_and o.spans (get_or done (c - 1) 0)) x.set s (ap (λ (p : Pair). p.set) was, ap (λ (p : Pair). bit p.spans s) (sym was) ∙ b) in
          record {
            entry = c - 1;
            low = (a.on nz).0;
            of = (a.on nz).1;
            some = λ z. no-bit (get_or done (c - 1) 0) s z (bit-right o.spans (get_or done (c - 1) 0) s w.1);
            paired = w.0;
            word = refl;
          }

      by : (k s at first second : ℕ) → ByHead codes valid x.set x.spans head k s → FromHead codes lists own x.other x.set head k at first second → ByEach codes lists body own keys done start o k at first second
      by k s at first second w f =
          record { head = head; low = only.low; of = only.of; set = x.set; other = x.other; given = pairing s (bit-left x.spans (get_or valid head 0) s w.1); from = f }

  -- the walk goes on at the place before
  pub walked_next : {keys'' spans'' slots'' links'' notes'' : List ℕ} {t d : ℕ} → Gains limit keys' spans' notes' r (Each codes valid lists body keys done o (c - 1)) (ByEach codes lists body own keys done start o) keys'' spans'' slots'' links'' notes'' t → t ≤ limit → d ≡ latest (role_of keys) (role_of keys (start - 1)) (c - 1) → Walked limit keys spans notes n codes valid lists body own done start o keys'' spans'' slots'' links'' notes'' t d
  walked_next g = along-next a nz g (λ k s w. w) (λ k s w. w)

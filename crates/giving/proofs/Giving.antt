-- An entry gives: what it adds is given by the statements, and what the statements give from the done spans is then there.
use mathlib.Core.Path.{◌≡◌, refl, sym, ap, ◌∙◌, subst}
use mathlib.Core.Logic.{◌⊎◌, inl, inr}
use mathlib.Core.List.{List, Memᴰ as Mem}
use Prim.Native.Nat.{ℕ, ◌+◌, ◌%◌, ◌^◌, ◌≤◌, ◌<◌}
use native.Mathlib.Omega.{arith}
use lib.Bits.{bit_xor}
use lib.ListN.{length, get_or, set, length-set}
use lib.Seq.{get_or-set_same, get_or-set_other}
use Rattle.meaning.specs.Credentials.{Statement}
use Rattle.meaning.specs.Sequence.{Gives}
use Rattle.meaning.specs.Table.{bit}
use Rattle.meaning.proofs.Levels.{gives_more}
use Rattle.store.specs.Entries.{key_of, role_in, set_in, Has}
use Rattle.store.proofs.Chains.{equal_or_not}
use Rattle.store.proofs.Keys.{role-of-key, set-of-key}
use Rattle.store.proofs.Stores.{grown-has}
use Rattle.heads.specs.Gaining.{Origin, Gains}
use Rattle.heads.proofs.Gaining.{below_or_not, over-more}
use Rattle.heads.proofs.Heads.{no-bit}
use Rattle.closure.specs.Closure.{Found, Held, Policy, Given, TooMany, Closed}
use Rattle.premises.specs.Combining.{Combined}
use Rattle.premises.specs.Moves.{Firing}
use Rattle.firing.specs.Firing.{Fires}
use Rattle.firing.proofs.Firings.{found_before}
use Rattle.giving.specs.declared.Visit.{Visit}
use Rattle.giving.specs.Giving.{LastDone, FiresBoth, FromEntry, Gave}
use Rattle.giving.proofs.Falling.{xor-or, xor-within, lefts-fall}
use Rattle.giving.proofs.Premises.{Within, combined-below, use-gives, use-head, Some, next_level, Fired, gives-or}
use Rattle.giving.proofs.Families.{held_after}

-- the key of a membership
key-given : (ss : ℕ → List Statement) (s Ar X : ℕ) → X < 2 ^ 32 → Some (ss s) Ar X → Given ss (key_of Ar X) s
key-given ss s Ar X l (j, w) = (j, rw (role-of-key Ar X l, set-of-key Ar X l) w)

given-key : (ss : ℕ → List Statement) (s Ar X : ℕ) → X < 2 ^ 32 → Given ss (key_of Ar X) s → Some (ss s) Ar X
given-key ss s Ar X l (j, w) = (j, rw (role-of-key Ar X l, set-of-key Ar X l) at w)

module _ {keys spans slots links notes done : List ℕ} {n : ℕ} (h : Held keys spans slots links notes done n) (v : Visit) (low : v.e < n) where
  abbrev i : ℕ
  i = v.e

  abbrev e : ℕ
  e = get_or keys i 0

  abbrev d : ℕ
  d = bit_xor (get_or spans i 0) (get_or done i 0)

  abbrev done' : List ℕ
  done' = set done i (get_or spans i 0)

  room : i < length done
  room = omega (arith, h.room, h.kept.stored.few)

  done-here : get_or done' i 0 ≡ get_or spans i 0
  done-here = get_or-set_same done i (get_or spans i 0) 0 room

  done-other : (j : ℕ) → (j ≡ i → ⊥) → get_or done' j 0 ≡ get_or done j 0
  done-other j ne = get_or-set_other done i j (get_or spans i 0) 0 ne

  done-fresh : (j : ℕ) → n ≤ j → get_or done' j 0 ≡ 0
  done-fresh j l = done-other j (λ q. omega arith) ∙ h.fresh j l

  pub done_held : Held keys spans slots links notes done' n
  done_held = record { kept = h.kept; room = simp length-set h.room; fresh = done-fresh }

  pub done-firing : {m limit : ℕ} → LastDone done v → Firing done' n (record { limit = limit; e = i; last = v.last; spans = m })
  done-firing last =
      record {
        low = low;
        some = λ z. h.kept.some i low (sym done-here ∙ z);
        last = λ q j l. done-other j (λ f. omega arith) ∙ last q j l;
      }

  -- the done spans are those from before, or new ones of entry i
  has_split : (k s : ℕ) → Has keys done' n k s → Has keys done n k s ⊎ ((bit d s ≡ 1) × (e ≡ k))
  has_split k s (j, l, q, v) = go (equal_or_not j i)
    where
      new : (j ≡ i) → (bit (get_or done i 0) s ≡ 1) ⊎ (bit d s ≡ 1) → Has keys done n k s ⊎ ((bit d s ≡ 1) × (e ≡ k))
      new f (inl w) = inl (i, low, ap (λ (x : ℕ). get_or keys x 0) (sym f) ∙ q, w)
      new f (inr w) = inr (w, ap (λ (x : ℕ). get_or keys x 0) (sym f) ∙ q)

      go : (j ≡ i) ⊎ (j ≡ i → ⊥) → Has keys done n k s ⊎ ((bit d s ≡ 1) × (e ≡ k))
      go (inl f) = new f (xor-or (get_or spans i 0) (get_or done i 0) s (ap (λ (x : ℕ). bit x s) (sym (ap (λ (x : ℕ). get_or done' x 0) f ∙ done-here)) ∙ v))
      go (inr ne) = inl (j, l, q, ap (λ (x : ℕ). bit x s) (sym (done-other j ne)) ∙ v)

  found-split : (s Ar X : ℕ) → Found keys done' n s Ar X → Found keys done n s Ar X ⊎ ((bit d s ≡ 1) × (role_in e ≡ Ar) × (set_in e ≡ X))
  found-split s Ar X (a, b, w) = go (has_split (key_of Ar X) s w)
    where
      go : Has keys done n (key_of Ar X) s ⊎ ((bit d s ≡ 1) × (e ≡ key_of Ar X)) → Found keys done n s Ar X ⊎ ((bit d s ≡ 1) × (role_in e ≡ Ar) × (set_in e ≡ X))
      go (inl w) = inl (a, b, w)
      go (inr (w, q)) = inr (w, ap role_in q ∙ role-of-key Ar X b, ap set_in q ∙ set-of-key Ar X b)

  module _ {ss : ℕ → List Statement} {codes valid lists : List ℕ} (p : Policy ss codes valid lists) (c : Closed ss keys spans done n) where
    done-within : (j s : ℕ) → j < n → bit (get_or done' j 0) s ≡ 1 → bit (get_or spans j 0) s ≡ 1
    done-within j s l v = go (equal_or_not j i)
      where
        go : (j ≡ i) ⊎ (j ≡ i → ⊥) → bit (get_or spans j 0) s ≡ 1
        go (inl f) = rw f (ap (λ (x : ℕ). bit x s) (sym (ap (λ (x : ℕ). get_or done' x 0) f ∙ done-here)) ∙ v)
        go (inr ne) = c.within j s l (ap (λ (x : ℕ). bit x s) (sym (done-other j ne)) ∙ v)

    own : (s : ℕ) → bit d s ≡ 1 → Given ss e s
    own s w = c.sound e s (i, low, refl, xor-within (get_or spans i 0) (get_or done i 0) s (c.within i s low) w)

    found-given : (s : ℕ) → Within (Found keys done' n s) (Some (ss s))
    found-given s Ar X (a, l, (j, m, q, v)) = given-key ss s Ar X l (c.sound (key_of Ar X) s (j, m, q, done-within j s m v))

    fires-given : (family k s : ℕ) → Fires codes valid lists keys done' n i d family k s → Given ss k s
    fires-given family k s w =
        let q = p.sound w.which s w.fitting w.listed in
        let st = q.0 in
        let u = subst (λ (f : ℕ). Combined (Found keys done' n s) e f w.which.kind w.which.other w.set) (sym w.here) w.combined in
        let g = use-gives (found-given s) (own s w.new) (h.kept.stored.roles i low) st.body st.head w.which (p.fitting st s q.1) q.2 u in
        let t = next_level (ss s) st w.set q.1 g in
        let l = combined-below (λ Ar X f. f.1) w.combined in
        let f : k ≡ key_of st.head w.set = w.key ∙ ap (λ (x : ℕ). key_of x w.set) (use-head st.body st.head w.which q.2) in
        subst (λ (x : ℕ). Given ss x s) (sym f) (key-given ss s st.head w.set l t)

    -- the use is listed, so the set is added
    fired-new : (st : Statement) (s X : ℕ) → Mem st (ss s) → bit d s ≡ 1 → Fired (Found keys done' n s) e st.body st.head X → FiresBoth codes valid lists keys done' n i d (key_of st.head X) s
    fired-new st s X m new f = go f.family
      where
        fires : (family : ℕ) → f.which.family ≡ family → Fires codes valid lists keys done' n i d family (key_of st.head X) s
        fires family q =
            record {
              new = new;
              which = f.which;
              fitting = p.fitting st s m f.which f.used;
              here = q;
              listed = p.complete st s m f.which f.used;
              set = X;
              combined = subst (λ (x : ℕ). Combined (Found keys done' n s) e x f.which.kind f.which.other X) q f.by;
              key = ap (λ (x : ℕ). key_of x X) (sym (use-head st.body st.head f.which f.used));
            }

        go : (f.which.family ≡ role_in e) ⊎ (f.which.family ≡ 1024 + role_in e % 32) → FiresBoth codes valid lists keys done' n i d (key_of st.head X) s
        go (inl q) = inl (fires (role_in e) q)
        go (inr q) = inr (fires (1024 + role_in e % 32) q)

    module _ {limit r : ℕ} {keys' spans' slots' links' notes' : List ℕ} {By : Origin} (g : Gains limit keys spans notes n (FiresBoth codes valid lists keys done' n i d) By keys' spans' slots' links' notes' r) where
      each-given : (k s : ℕ) → Has keys spans n k s ⊎ FiresBoth codes valid lists keys done' n i d k s → Given ss k s
      each-given k s (inl w) = c.sound k s w
      each-given k s (inr (inl w)) = fires-given (role_in e) k s w
      each-given k s (inr (inr w)) = fires-given (1024 + role_in e % 32) k s w

      still-within : r ≤ limit → (j s : ℕ) → bit (get_or done' j 0) s ≡ 1 → (j < n) ⊎ (n ≤ j) → bit (get_or spans' j 0) s ≡ 1
      still-within l j s v (inl m) = (g.grown l).kept j s m (done-within j s m v)
      still-within l j s v (inr m) = absurd (no-bit (get_or done' j 0) s (done-fresh j m) v)

      found-old : r ≤ limit → (s Ar X : ℕ) → Found keys spans n s Ar X → Found keys' spans' r s Ar X
      found-old l s Ar X (a, x, w) = (a, x, grown-has (g.grown l) (key_of Ar X) s w)

      still-closed : r ≤ limit → (st : Statement) (s X : ℕ) → Mem st (ss s) → Gives (Found keys' done' r s) (Found keys' done' r s) st.body X → Found keys' spans' r s st.head X
      still-closed l st s X m w = go (gives-or e (bit d s ≡ 1) (found-split s) st.head X st.body (p.fitting st s m) (gives_more back back st.body X w))
        where
          back : Within (Found keys' done' r s) (Found keys done' n s)
          back = found_before done' (g.grown l) done-fresh s

          go : Gives (Found keys done n s) (Found keys done n s) st.body X ⊎ ((bit d s ≡ 1) × Fired (Found keys done' n s) e st.body st.head X) → Found keys' spans' r s st.head X
          go (inl q) = found-old l s st.head X (c.closed st s X m q)
          go (inr (new, f)) = (
            rw (← use-head st.body st.head f.which f.used) (p.fitting st s m f.which f.used).head,
            combined-below (λ Ar X f. f.1) f.by,
            (g.exact l (key_of st.head X) s).1 (inr (fired-new st s X m new f)),
          )

      gave-closed : r ≤ limit → Closed ss keys' spans' done' r
      gave-closed l =
          record {
            sound = λ k s w. each-given k s ((g.exact l k s).0 w);
            within = λ j s m v. still-within l j s v (below_or_not j n);
            closed = still-closed l;
          }

      gave-over : limit < r → TooMany ss limit
      gave-over l = over-more (λ k w. (w.0, each-given k w.0 w.1)) (g.over l)

  -- the spans x are the new ones
  module _ (codes valid lists : List ℕ) (few : n ≤ v.limit) (other : get_or done i 0 ≡ get_or spans i 0 → ⊥) (fits : get_or spans i 0 < 18446744073709551616) where
    pub gains-gave : {x r : ℕ} {keys' spans' slots' links' notes' : List ℕ} → x ≡ d → Gains v.limit keys spans notes n (FiresBoth codes valid lists keys done' n i x) (FromEntry codes lists keys done' n i) keys' spans' slots' links' notes' r → Gave codes valid lists keys spans notes done n v keys' spans' slots' links' notes' done' r
    gains-gave {r} {keys'} {spans'} {slots'} {links'} {notes'} new f =
        let g = subst (λ (y : ℕ). Gains v.limit keys spans notes n (FiresBoth codes valid lists keys done' n i y) (FromEntry codes lists keys done' n i) keys' spans' slots' links' notes' r) new f in
        record {
          closes = record {
            held = held_after done_held g;
            closed = λ l ss p c. gave-closed p c g l;
            over = λ l ss p c. gave-over p c g l;
          };
          less = λ l. lefts-fall (g.grown l) done h.fresh i v.limit low few room other fits;
          grown = g.grown;
          marked = refl;
          noted = g.noted;
        }

-- The loop at entry e: the entries before it gave, levels never fall, and what statements of one span give from entries before e is there.
use mathlib.Core.Path.{◌≡◌, refl, sym, ap, ◌∙◌, subst, subst⁻¹, subst₃}
use mathlib.Core.Logic.{◌⊎◌, inl, inr}
use mathlib.Core.Bool.{Bool}
use mathlib.Core.List.{List, Memᴰ as Mem}
use Prim.Native.Nat.{ℕ, suc, ◌+◌, ◌≤◌, ◌<◌, max}
use native.Mathlib.Nat.{not-suc-le-zero, le_refl}
use native.Mathlib.Omega.{arith}
use lib.ListN.{get_or}
use lib.Seq.{get_or-set_same, get_or-set_other}
use Rattle.meaning.specs.Credentials.{Statement}
use Rattle.meaning.specs.Sequence.{Gives}
use Rattle.meaning.specs.Table.{bit}
use Rattle.meaning.proofs.Levels.{gives_more}
use Rattle.store.specs.Entries.{key_of, Grown}
use Rattle.store.specs.Notes.{word, level_of, SameWords}
use Rattle.store.proofs.Chains.{last-or-below, below_or_not}
use Rattle.store.proofs.Notes.{leveled-back, level-same}
use Rattle.heads.specs.Gaining.{Noted}
use Rattle.closure.specs.Closure.{Held, Found, Policy, Closed}
use Rattle.premises.specs.Combining.{Keyed}
use Rattle.giving.specs.Giving.{FromEntry, Gave}
use Rattle.levels.specs.Levels.{AtStart, Rising, NotedBy, Premises, OneSpan, HasUpTo, Leveling, FiredAll}
use Rattle.levels.proofs.Citing.{from-entry-same, given-level}
use Rattle.levels.proofs.Spans.{has_span, keyed-found}

-- for statements of one span: what gave is done in it, and what it gives is there
pub record InSpan (ss : List Statement) (keys notes done : List ℕ) (r e : ℕ) : Type 0 where
  pub gave : (i : ℕ) → i < e → bit (get_or done i 0) 0 ≡ 1
  pub leveling : Leveling ss keys notes r e

pub record Passed (limit : ℕ) (codes valid lists keys₀ spans₀ notes₀ done₀ : List ℕ) (n : ℕ) (keys spans slots links notes done : List ℕ) (r e : ℕ) : Type 0 where
  pub few : r ≤ limit
  pub held : Held keys spans slots links notes done r
  pub ahead : (i : ℕ) → e ≤ i → get_or done i 0 ≡ 0
  pub rising : Rising notes r
  pub under : e < r → (i : ℕ) → i < r → level_of notes i ≤ suc (level_of notes e)
  pub more : n ≤ r
  pub keys_same : (i : ℕ) → i < n → get_or keys i 0 ≡ get_or keys₀ i 0
  pub notes_same : SameWords notes₀ n notes
  pub noted : (i : ℕ) → n ≤ i → i < r → NotedBy codes lists keys notes i
  pub closed : (ss : ℕ → List Statement) → Policy ss codes valid lists → Closed ss keys₀ spans₀ done₀ n → Closed ss keys spans done r
  pub one : (ss : ℕ → List Statement) → OneSpan ss → Policy ss codes valid lists → Closed ss keys₀ spans₀ done₀ n → InSpan (ss 0) keys notes done r e

module _ {limit : ℕ} {codes valid lists keys₀ spans₀ notes₀ done₀ : List ℕ} {n : ℕ} where
  pub passed_start : {slots₀ links₀ : List ℕ} → AtStart keys₀ spans₀ slots₀ links₀ notes₀ done₀ codes valid lists n → n ≤ limit → Passed limit codes valid lists keys₀ spans₀ notes₀ done₀ n keys₀ spans₀ slots₀ links₀ notes₀ done₀ n 0
  passed_start s few =
      record {
        few = few;
        held = s.held;
        ahead = λ i _. s.fresh i;
        rising = λ i j l o. omega (arith, s.one i (omega arith), s.one j o);
        under = λ l i o. omega (arith, s.one i o);
        more = le_refl n;
        keys_same = λ i _. refl;
        notes_same = λ i k _ _. refl;
        noted = λ i l o. absurd (omega arith);
        closed = λ ss _ c. c;
        one = λ ss _ _ _. record { gave = λ i l. absurd (not-suc-le-zero l); leveling = λ st m i j X l. absurd (not-suc-le-zero l) };
      }

  module _ {keys spans slots links notes done : List ℕ} {r e : ℕ} (p : Passed limit codes valid lists keys₀ spans₀ notes₀ done₀ n keys spans slots links notes done r e) where
    pub passed-end : r ≤ e → FiredAll limit codes valid lists keys₀ spans₀ notes₀ done₀ n keys spans slots links notes done r
    passed-end end =
        record {
          held = λ _. p.held;
          keys_same = λ _. p.keys_same;
          notes_same = λ _. p.notes_same;
          rising = λ _. p.rising;
          more = λ _. p.more;
          noted = λ _. p.noted;
          closed = λ _. p.closed;
          leveling = λ _ ss o q c st m i j X k l. (p.one ss o q c).leveling st m i j X (omega arith) (omega arith);
          over = λ l. absurd (omega (arith, p.few));
        }

    module _ (low : e < r) where
      -- entry e has spans, none of which is done
      pub not_done : get_or done e 0 ≡ get_or spans e 0 → ⊥
      not_done q = p.held.kept.some e low (sym q ∙ p.ahead e (le_refl e))

      module _ {last : Bool} {keys' spans' slots' links' notes' done' : List ℕ} {t : ℕ} (g : Gave codes valid lists keys spans notes done r (record { limit = limit; e = e; last = last }) keys' spans' slots' links' notes' done' t) where
        pub passed_over : limit < t → FiredAll limit codes valid lists keys₀ spans₀ notes₀ done₀ n keys' spans' slots' links' notes' done' t
        passed_over o =
            record {
              held = λ l. absurd (omega arith);
              keys_same = λ l. absurd (omega arith);
              notes_same = λ l. absurd (omega arith);
              rising = λ l. absurd (omega arith);
              more = λ l. absurd (omega arith);
              noted = λ l. absurd (omega arith);
              closed = λ l. absurd (omega arith);
              leveling = λ l. absurd (omega arith);
              over = λ _ ss q c. g.closes.over o ss q (p.closed ss q c);
            }

        module _ (l : t ≤ limit) where
          held' : Held keys' spans' slots' links' notes' done' t
          held' = g.closes.held l

          grown : Grown keys spans r keys' spans' t
          grown = g.grown l

          noted : Noted notes r (FromEntry codes lists keys done' r e) keys' notes' t
          noted = g.noted l

          -- ---- what is done

          done-here : get_or done' e 0 ≡ get_or spans e 0
          done-here = ap (λ (x : List ℕ). get_or x e 0) g.marked ∙ get_or-set_same done e (get_or spans e 0) 0 (omega (arith, p.held.room, p.held.kept.stored.few))

          done-other : (i : ℕ) → (i ≡ e → ⊥) → get_or done' i 0 ≡ get_or done i 0
          done-other i ne = ap (λ (x : List ℕ). get_or x i 0) g.marked ∙ get_or-set_other done e i (get_or spans e 0) 0 ne

          ahead' : (i : ℕ) → e + 1 ≤ i → get_or done' i 0 ≡ 0
          ahead' i o = done-other i (λ q. omega arith) ∙ p.ahead i (omega arith)

          upto : (i : ℕ) → (get_or done' i 0 ≡ 0 → ⊥) → i ≤ e
          upto i nz = go (below_or_not e i)
            where
              go : (e < i) ⊎ (i ≤ e) → i ≤ e
              go (inl o) = absurd (nz (ahead' i (omega arith)))
              go (inr o) = o

          -- ---- levels

          level-old : (i : ℕ) → i < r → level_of notes' i ≡ level_of notes i
          level-old = level-same notes notes' r noted.same (leveled-back notes r p.held.kept.leveled)

          rising-here : (i : ℕ) → i ≤ e → level_of notes' i ≤ level_of notes' e
          rising-here i o = omega (arith, level-old i (omega arith), level-old e low, p.rising i e o low)

          level-new : (i : ℕ) → r ≤ i → i < t → level_of notes' i ≡ suc (level_of notes' e)
          level-new i o m = given-level notes' upto rising-here (held'.kept.leveled i m) (noted.by i o m)

          under' : (i : ℕ) → i < t → level_of notes' i ≤ suc (level_of notes' e)
          under' i m = go (below_or_not i r)
            where
              go : (i < r) ⊎ (r ≤ i) → level_of notes' i ≤ suc (level_of notes' e)
              go (inl o) = omega (arith, level-old i o, level-old e low, p.under low i o)
              go (inr o) = omega (arith, level-new i o m)

          rising' : (i j : ℕ) → i ≤ j → j < t → level_of notes' i ≤ level_of notes' j
          rising' i j k m = go (below_or_not j r)
            where
              go : (j < r) ⊎ (r ≤ j) → level_of notes' i ≤ level_of notes' j
              go (inl o) = omega (arith, level-old i (omega arith), level-old j o, p.rising i j k o)
              go (inr o) = omega (arith, level-new j o m, under' i (omega arith))

          -- ---- notes

          noted-old : (i : ℕ) → i < r → NotedBy codes lists keys notes i → NotedBy codes lists keys' notes' i
          noted-old i o v =
              record {
                e = v.e;
                low = v.low;
                done = v.done;
                upto = v.upto;
                n = v.n;
                few = v.few;
                from = subst₃ (FromEntry codes lists keys' v.done v.n v.e (get_or keys' i 0)) (sym (same 0 (omega arith))) (sym (same 1 (omega arith))) (sym (same 2 (omega arith)))
                    (subst⁻¹ (λ (k : ℕ). FromEntry codes lists keys' v.done v.n v.e k (word notes i 0) (word notes i 1) (word notes i 2)) (grown.same i o)
                    (from-entry-same (grown.same v.e (omega (arith, v.low))) (λ j m. grown.same j (omega (arith, v.few))) v.from));
              }
            where
              same : (k : ℕ) → k < 3 → word notes' i k ≡ word notes i k
              same k m = noted.same i k o m

          noted-new : (i : ℕ) → r ≤ i → i < t → NotedBy codes lists keys' notes' i
          noted-new i o m =
              record {
                e = e;
                low = omega arith;
                done = done';
                upto = λ j k. ahead' j (omega arith);
                n = r;
                few = o;
                from = from-entry-same (grown.same e low) grown.same (noted.by i o m);
              }

          noted' : (i : ℕ) → n ≤ i → i < t → NotedBy codes lists keys' notes' i
          noted' i k m = go (below_or_not i r)
            where
              go : (i < r) ⊎ (r ≤ i) → NotedBy codes lists keys' notes' i
              go (inl o) = noted-old i o (p.noted i k o)
              go (inr o) = noted-new i o m

          -- ---- statements of one span

          module _ {ss : ℕ → List Statement} (one : OneSpan ss) (q : Policy ss codes valid lists) (c : Closed ss keys₀ spans₀ done₀ n) where
            gave' : (i : ℕ) → i < e + 1 → bit (get_or done' i 0) 0 ≡ 1
            gave' i o = go (last-or-below (omega arith))
              where
                go : (i ≡ e) ⊎ (i < e) → bit (get_or done' i 0) 0 ≡ 1
                go (inl z) = rw (z, done-here) (has_span one (p.closed ss q c) e low (p.held.kept.some e low))
                go (inr m) = rw (done-other i (λ z. omega arith)) ((p.one ss one q c).gave i m)

            found : (i : ℕ) → i < e + 1 → (Ar X : ℕ) → Keyed (get_or keys' i 0) Ar X → Found keys' done' t 0 Ar X
            found i o = let m : i < t = omega (arith, grown.more) in keyed-found keys' done' i 0 m (held'.kept.stored.roles i m) (gave' i o)

            -- entry e is a premise
            new-there : (st : Statement) → Mem st (ss 0) → (i j X : ℕ) → i < e + 1 → j < e + 1 → (i ≡ e) ⊎ (j ≡ e) → Gives (Keyed (get_or keys' i 0)) (Keyed (get_or keys' j 0)) st.body X → HasUpTo keys' notes' t (suc (max (level_of notes' i) (level_of notes' j))) (key_of st.head X)
            new-there st m i j X o k z w =
                let f = ((g.closes.closed l ss q (p.closed ss q c)).closed st 0 X m (gives_more (found i o) (found j k) st.body X w)).2 in
                (f.0, f.1, f.2, bound z (under' f.0 f.1))
              where
                bound : {x : ℕ} → (i ≡ e) ⊎ (j ≡ e) → x ≤ suc (level_of notes' e) → x ≤ suc (max (level_of notes' i) (level_of notes' j))
                bound (inl z) h = let y = ap (level_of notes') z in omega arith
                bound (inr z) h = let y = ap (level_of notes') z in omega arith

            -- both were there before
            old-there : (st : Statement) → Mem st (ss 0) → (i j X : ℕ) → i < e → j < e → Premises st.body i j → Gives (Keyed (get_or keys' i 0)) (Keyed (get_or keys' j 0)) st.body X → HasUpTo keys' notes' t (suc (max (level_of notes' i) (level_of notes' j))) (key_of st.head X)
            old-there st m i j X o k u w =
                let v = subst (λ (x : ℕ). Gives (Keyed x) (Keyed (get_or keys j 0)) st.body X) (grown.same i (omega arith)) (subst (λ (x : ℕ). Gives (Keyed (get_or keys' i 0)) (Keyed x) st.body X) (grown.same j (omega arith)) w) in
                let f = (p.one ss one q c).leveling st m i j X o k u v in
                (f.0, omega (arith, f.1, grown.more), grown.same f.0 f.1 ∙ f.2, omega (arith, f.3, level-old f.0 f.1, level-old i (omega arith), level-old j (omega arith)))

            in_span : InSpan (ss 0) keys' notes' done' t (e + 1)
            in_span = record { gave = gave'; leveling = λ st m i j X o k u w. go st m i j X o k u w (last-or-below (omega arith)) (last-or-below (omega arith)) }
              where
                go : (st : Statement) → Mem st (ss 0) → (i j X : ℕ) → i < e + 1 → j < e + 1 → Premises st.body i j → Gives (Keyed (get_or keys' i 0)) (Keyed (get_or keys' j 0)) st.body X → (i ≡ e) ⊎ (i < e) → (j ≡ e) ⊎ (j < e) → HasUpTo keys' notes' t (suc (max (level_of notes' i) (level_of notes' j))) (key_of st.head X)
                go st m i j X o k u w (inl z) y = new-there st m i j X o k (inl z) w
                go st m i j X o k u w (inr z) (inl y) = new-there st m i j X o k (inr y) w
                go st m i j X o k u w (inr z) (inr y) = old-there st m i j X z y u w

          pub passed-next : Passed limit codes valid lists keys₀ spans₀ notes₀ done₀ n keys' spans' slots' links' notes' done' t (e + 1)
          passed-next =
              record {
                few = l;
                held = held';
                ahead = ahead';
                rising = rising';
                under = λ o i m. omega (arith, under' i m, rising' e (e + 1) (omega arith) o);
                more = omega (arith, p.more, grown.more);
                keys_same = λ i m. grown.same i (omega (arith, p.more)) ∙ p.keys_same i m;
                notes_same = λ i k m o. noted.same i k (omega (arith, p.more)) o ∙ p.notes_same i k m o;
                noted = noted';
                closed = λ ss q c. g.closes.closed l ss q (p.closed ss q c);
                one = λ ss o q c. in_span o q c;
              }

-- What all bodies of a family give is what their uses give, and entries that are added on the way change nothing of it.
use mathlib.Core.Path.{◌≡◌, sym, ap, ◌∙◌, subst, subst⁻¹}
use mathlib.Core.Logic.{◌⊎◌, inl, inr}
use mathlib.Core.List.{List}
use Prim.Native.Nat.{ℕ, ◌+◌, ◌-◌, ◌%◌, ◌≤◌, ◌<◌, zero-le}
use native.Mathlib.Nat.{lt_of_not-le}
use native.Mathlib.Numerals.{add-one}
use native.Mathlib.Omega.{arith}
use lib.ListN.{get_or}
use Rattle.store.specs.Entries.{key_of, role_in, latest, Grown}
use Rattle.rules.specs.Uses.{Listed, family_in, kind_in, other_in, family_of, kind_of, other_of, bodies_in}
use Rattle.rules.proofs.UseLaws.{use_at, use-at-fits, use-at, use-family, use-kind, use-other, use-body, use-head}
use Rattle.heads.specs.Gaining.{Spanned, Origin, Gains}
use Rattle.heads.specs.Walks.{On, From, Along}
use Rattle.heads.specs.Heads.{Headed, FromHeads}
use Rattle.heads.proofs.Gaining.{Within, gains-by, gains-same}
use Rattle.heads.proofs.Walks.{along-next, along-over}
use Rattle.heads.proofs.Heads.{no-bit, from-heads-more, headed-more}
use Rattle.closure.specs.Closure.{Found}
use Rattle.premises.specs.declared.Turn.{Turn}
use Rattle.premises.specs.Combining.{Combined, InFamily, ByCode, Keyed, Offers}
use Rattle.premises.specs.Moves.{Firing}
use Rattle.premises.proofs.Combining.{combined-more}
use Rattle.firing.specs.Firing.{Fires, FromFamily}

-- what the heads of body i give from entry e in the spans d
abbrev pub ByBody : List ℕ → List ℕ → List ℕ → List ℕ → List ℕ → ℕ → ℕ → ℕ → ℕ → Spanned
ByBody codes valid lists keys done n e d i = Headed codes valid lists i (ByCode keys done n e d (get_or codes i 0))

-- ---- the list of a family's bodies

pub family-low : (keys : List ℕ) (e family : ℕ) → role_in (get_or keys e 0) < 1024 → InFamily keys e family → family < 1056
family-low keys e family l (inl q) = omega arith
family-low keys e family l (inr q) = omega arith

module _ {codes valid lists : List ℕ} (l : Listed codes valid lists) where
  pub bodies-start : (f c : ℕ) → f < 1056 → c ≡ get_or lists (512 + f) 0 → c ≡ latest (family_of codes) f (bodies_in lists)
  bodies-start f c k e = e ∙ l.by_family.lasts f k

  pub bodies-next : (f c d : ℕ) → (c ≡ 0 → ⊥) → On (family_of codes) f (bodies_in lists) c → d ≡ get_or lists (c - 1) 0 → d ≡ latest (family_of codes) f (c - 1)
  bodies-next f c d nz on e =
      let o = on nz in
      e ∙ l.by_family.prevs (c - 1) o.0 ∙ ap (λ (x : ℕ). latest (family_of codes) x (c - 1)) o.1

  -- ---- bodies and uses

  module _ {keys done : List ℕ} {n e d family : ℕ} where
    fires : (k s : ℕ) → From (family_of codes) family (bodies_in lists) 0 (ByBody codes valid lists keys done n e d) k s → Fires codes valid lists keys done n e d family k s
    fires k s w =
        let g = w.gives in
        let i = w.item in
        record {
          new = g.given.0;
          which = use_at codes i g.head;
          fitting = use-at-fits l i g.head w.low;
          here = w.of;
          listed = use-at codes valid lists i g.head s w.low g.low g.of g.spans;
          set = g.set;
          combined = subst (λ (x : ℕ). Combined (Found keys done n s) (get_or keys e 0) x (kind_of codes i) (other_of codes i) g.set) w.of g.given.1;
          key = g.key;
        }

    fired : (k s : ℕ) → Fires codes valid lists keys done n e d family k s → From (family_of codes) family (bodies_in lists) 0 (ByBody codes valid lists keys done n e d) k s
    fired k s w =
        let f = w.fitting in
        let u = w.listed in
        let of : family_of codes u.body ≡ family = use-family f u ∙ w.here in
        record {
          item = u.body;
          past = zero-le;
          low = u.low.0;
          of = of;
          gives = record {
            head = u.head;
            low = u.low.1;
            of = use-body f u;
            spans = u.spans;
            set = w.set;
            given = (w.new, rw (of, use-kind f u, use-other f u) w.combined);
            key = w.key ∙ ap (λ (x : ℕ). key_of x w.set) (sym (use-head f u));
          };
        }

    pub all-fires : {limit : ℕ} {spans notes keys' spans' slots' links' notes' : List ℕ} {r : ℕ} {By : Origin} → Gains limit keys spans notes n (From (family_of codes) family (bodies_in lists) 0 (ByBody codes valid lists keys done n e d)) By keys' spans' slots' links' notes' r → Gains limit keys spans notes n (Fires codes valid lists keys done n e d family) By keys' spans' slots' links' notes' r
    all-fires = gains-same fires fired

-- ---- new entries have no done spans

module _ (done : List ℕ) {keys spans keys' spans' : List ℕ} {n r : ℕ} (g : Grown keys spans n keys' spans' r) (fresh : (i : ℕ) → n ≤ i → get_or done i 0 ≡ 0) where
  old-entry : (i : ℕ) → (get_or done i 0 ≡ 0 → ⊥) → i < n
  old-entry i some = lt_of_not-le (λ m. some (fresh i m))

  pub found_before : (s Ar X : ℕ) → Found keys' done r s Ar X → Found keys done n s Ar X
  found_before s Ar X (a, b, (i, l, e, v)) =
      let m = old-entry i (λ z. no-bit (get_or done i 0) s z v) in
      (a, b, (i, m, sym (g.same i m) ∙ e, v))

  pub found_after : (s Ar X : ℕ) → Found keys done n s Ar X → Found keys' done r s Ar X
  found_after s Ar X (a, b, (i, l, e, v)) = (a, b, (i, (let m = g.more in omega arith), g.same i l ∙ e, v))

  module _ (e : ℕ) (low : e < n) where
    combined-before : (s family kind other X : ℕ) → Combined (Found keys' done r s) (get_or keys' e 0) family kind other X → Combined (Found keys done n s) (get_or keys e 0) family kind other X
    combined-before s family kind other X w =
        subst (λ (x : ℕ). Combined (Found keys done n s) x family kind other X) (g.same e low) (combined-more (Found keys' done r s) (Found keys done n s) (found_before s) w)

    combined-after : (s family kind other X : ℕ) → Combined (Found keys done n s) (get_or keys e 0) family kind other X → Combined (Found keys' done r s) (get_or keys' e 0) family kind other X
    combined-after s family kind other X w =
        subst⁻¹ (λ (x : ℕ). Combined (Found keys' done r s) x family kind other X) (g.same e low) (combined-more (Found keys done n s) (Found keys' done r s) (found_after s) w)

    pub offers-before : (code X w : ℕ) → Offers keys' done r e code X w → Offers keys done n e code X w
    offers-before code X w o =
        let i = o.entry in
        let m = old-entry i o.some in
        record {
          entry = i;
          low = m;
          some = o.some;
          single = o.single;
          double = o.double;
          partner =
              subst (λ (x : ℕ). Combined (Keyed x) (get_or keys e 0) (family_in code) (kind_in code) (other_in code) X) (g.same i m)
              (subst (λ (x : ℕ). Combined (Keyed (get_or keys' i 0)) x (family_in code) (kind_in code) (other_in code) X) (g.same e low) o.partner);
        }

    -- ---- by a body, and by the uses of a family

    module _ (codes valid lists : List ℕ) (d : ℕ) where
      body-before : (i k s : ℕ) → ByBody codes valid lists keys' done r e d i k s → ByBody codes valid lists keys done n e d i k s
      body-before i = headed-more (λ X s w. (w.0, combined-before s _ _ _ X w.1))

      body-after : (i k s : ℕ) → ByBody codes valid lists keys done n e d i k s → ByBody codes valid lists keys' done r e d i k s
      body-after i = headed-more (λ X s w. (w.0, combined-after s _ _ _ X w.1))

      pub fires-before : (family k s : ℕ) → Fires codes valid lists keys' done r e d family k s → Fires codes valid lists keys done n e d family k s
      fires-before family k s w =
          record {
            new = w.new;
            which = w.which;
            fitting = w.fitting;
            here = w.here;
            listed = w.listed;
            set = w.set;
            combined = combined-before s _ _ _ _ w.combined;
            key = w.key;
          }

      pub fires-after : (family k s : ℕ) → Fires codes valid lists keys done n e d family k s → Fires codes valid lists keys' done r e d family k s
      fires-after family k s w =
          record {
            new = w.new;
            which = w.which;
            fitting = w.fitting;
            here = w.here;
            listed = w.listed;
            set = w.set;
            combined = combined-after s _ _ _ _ w.combined;
            key = w.key;
          }

    -- ---- how it is noted

    module _ {codes lists : List ℕ} {family : ℕ} where
      from-body : {body : ℕ} → body < bodies_in lists → family_of codes body ≡ family → Within (FromHeads codes lists body (e + 1) (Offers keys' done r e (get_or codes body 0))) (FromFamily codes lists keys done n e family)
      from-body {body} l of k at first second w =
          record {
            body = body;
            low = l;
            of = of;
            from = subst (λ (x : ℕ). FromHeads codes lists body x (Offers keys done n e (get_or codes body 0)) k at first second) (add-one e) (from-heads-more (offers-before (get_or codes body 0)) k at first second w);
          }

      pub from-family-before : Within (FromFamily codes lists keys' done r e family) (FromFamily codes lists keys done n e family)
      from-family-before k at first second w =
          record { body = w.body; low = w.low; of = w.of; from = from-heads-more (offers-before (get_or codes w.body 0)) k at first second w.from }

-- ---- the entry can still give, in the same families

module _ {keys spans keys' spans' : List ℕ} {n r : ℕ} (g : Grown keys spans n keys' spans' r) where
  pub firing-after : {done : List ℕ} {t : Turn} → Firing done n t → Firing done r t
  firing-after f = record { low = (let m = g.more in let l = f.low in omega arith); some = f.some; last = f.last }

  pub family-after : (e family : ℕ) → e < n → InFamily keys e family → InFamily keys' e family
  family-after e family low = subst⁻¹ (λ (x : ℕ). (family ≡ role_in x) ⊎ (family ≡ 1024 + role_in x % 32)) (g.same e low)

-- ---- a turn of the loop along the bodies of a family

module _ {limit : ℕ} {keys spans notes : List ℕ} {n : ℕ} {codes valid lists done : List ℕ} {e family : ℕ} (d : ℕ) (fresh : (i : ℕ) → n ≤ i → get_or done i 0 ≡ 0) (low : e < n) {keys' spans' slots' links' notes' : List ℕ} {r c : ℕ} (a : Along limit keys spans notes n (family_of codes) family (bodies_in lists) (ByBody codes valid lists keys done n e d) (FromFamily codes lists keys done n e family) keys' spans' slots' links' notes' r c) (nz : c ≡ 0 → ⊥) {keys'' spans'' slots'' links'' notes'' : List ℕ} {t : ℕ} (b : Gains limit keys' spans' notes' r (ByBody codes valid lists keys' done r e d (c - 1)) (FromHeads codes lists (c - 1) (e + 1) (Offers keys' done r e (get_or codes (c - 1) 0))) keys'' spans'' slots'' links'' notes'' t) where
  grown : Grown keys spans n keys' spans' r
  grown = a.gains.grown a.few

  by : Gains limit keys' spans' notes' r (ByBody codes valid lists keys' done r e d (c - 1)) (FromFamily codes lists keys done n e family) keys'' spans'' slots'' links'' notes'' t
  by = gains-by (from-body done grown fresh e low (a.on nz).0 (a.on nz).1) b

  pub fired-over : limit < t → Gains limit keys spans notes n (From (family_of codes) family (bodies_in lists) 0 (ByBody codes valid lists keys done n e d)) (FromFamily codes lists keys done n e family) keys'' spans'' slots'' links'' notes'' t
  fired-over = along-over a nz by (body-before done grown fresh e low codes valid lists d (c - 1))

  pub fired-next : {p : ℕ} → t ≤ limit → p ≡ latest (family_of codes) family (c - 1) → Along limit keys spans notes n (family_of codes) family (bodies_in lists) (ByBody codes valid lists keys done n e d) (FromFamily codes lists keys done n e family) keys'' spans'' slots'' links'' notes'' t p
  fired-next = along-next a nz by (body-before done grown fresh e low codes valid lists d (c - 1)) (body-after done grown fresh e low codes valid lists d (c - 1))

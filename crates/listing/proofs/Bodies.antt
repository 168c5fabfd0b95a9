-- What placing a body makes of the lists and of the uses.
use mathlib.Core.Path.{◌≡◌, refl, sym, ap, ◌∙◌}
use mathlib.Core.Logic.{◌⊎◌, inl, inr, ◌↔◌}
use mathlib.Core.List.{List}
use Prim.Native.Nat.{ℕ, suc, ◌+◌, ◌≤◌, ◌<◌}
use native.Mathlib.Nat.{zero-add, le_refl}
use native.Mathlib.Numerals.{add-one}
use native.Mathlib.Omega.{arith}
use lib.ListN.{get_or, set, length-set}
use lib.Seq.{get_or-set_same, get_or-set_other}
use Rattle.store.specs.Entries.{Chained}
use Rattle.store.proofs.Chains.{last-or-below, chained_same}
use Rattle.rules.specs.declared.Use.{Use}
use Rattle.rules.specs.Uses.{body_code, family_in, body_in, family_of, body_of_head, source_in, bodies_in, heads_in, Listed, Uses, Fitting}
use Rattle.listing.specs.Places.{linked, with_body, BodyPlaced}
use Rattle.rules.proofs.CodeLaws.{family-in-code, body-in-code}
use Rattle.listing.proofs.Linking.{linked-length, linked-other, linked-chained}

abbrev pub code_of : Use → ℕ
code_of u = body_code u.family u.kind u.other

family-of : (u : Use) → Fitting u → family_in (code_of u) ≡ u.family
family-of u f = family-in-code u.family u.kind u.other f.kind f.other

-- ---- a body is placed

-- the same uses, with the body at place r
pub record Bodied (u : Use) (codes valid lists codes' lists' : List ℕ) (r : ℕ) : Type 0 where
  pub listed : Listed codes' valid lists'
  pub low : r < bodies_in lists'
  pub coded : get_or codes' r 0 ≡ code_of u
  pub same : (w : Use) (s : ℕ) → Fitting w → Uses codes' valid lists' w s ↔ Uses codes valid lists w s
  pub others : (i : ℕ) → i < bodies_in lists' → (get_or codes' i 0 ≡ code_of u) ⊎ ((i < bodies_in lists) × (get_or codes' i 0 ≡ get_or codes i 0))
  pub one : (bodies_in lists ≤ bodies_in lists') × (bodies_in lists' ≤ bodies_in lists + 1)
  pub none : heads_in lists' ≡ heads_in lists
  pub bodies : (i : ℕ) → i < bodies_in lists → get_or codes' i 0 ≡ get_or codes i 0
  pub heads : (i : ℕ) → get_or codes' (512 + i) 0 ≡ get_or codes (512 + i) 0
  pub sources : (i : ℕ) → i < 512 → source_in lists' i ≡ source_in lists i

module _ (u : Use) (fit : Fitting u) {codes valid lists : List ℕ} (l : Listed codes valid lists) (few : bodies_in lists < 512) where
  body-known : (r : ℕ) → r < bodies_in lists → get_or codes r 0 ≡ code_of u → Bodied u codes valid lists codes lists r
  body-known r k e =
      record {
        listed = l;
        low = k;
        coded = e;
        same = λ w s f. ((λ x. x), λ x. x);
        others = λ i j. inr (j, refl);
        one = (omega arith, omega arith);
        none = refl;
        bodies = λ i _. refl;
        heads = λ i. refl;
        sources = λ i _. refl;
      }

  abbrev b : ℕ
  b = bodies_in lists

  codes' : List ℕ
  codes' = set codes b (code_of u)

  lists' : List ℕ
  lists' = with_body lists u.family

  at_body : get_or codes' b 0 ≡ code_of u
  unfolding codes'
  at_body = get_or-set_same codes b (code_of u) 0 (omega arith)

  at_other : (i : ℕ) → (i ≡ b → ⊥) → get_or codes' i 0 ≡ get_or codes i 0
  unfolding codes'
  at_other i ne = get_or-set_other codes b i (code_of u) 0 ne

  -- all but the number of bodies is as in `linked`
  list-linked : (p : ℕ) → (p ≡ 3104 → ⊥) → get_or lists' p 0 ≡ get_or (linked lists 0 512 b u.family) p 0
  unfolding lists'
  list-linked p n = get_or-set_other (linked lists 0 512 b u.family) 3104 p (b + 1) 0 n

  list-other : (p : ℕ) → (p ≡ 3104 → ⊥) → (p ≡ b → ⊥) → (p ≡ 512 + u.family → ⊥) → get_or lists' p 0 ≡ get_or lists p 0
  list-other p c n m = list-linked p c ∙ linked-other lists 0 512 b u.family p (λ q. n (q ∙ zero-add b)) m

  -- the places after the lists of the bodies are as they were
  list-after : (p : ℕ) → 1568 ≤ p → (p ≡ 3104 → ⊥) → get_or lists' p 0 ≡ get_or lists p 0
  list-after p k c = list-other p c (λ q. omega arith) (λ q. omega (arith, fit.family))

  one_more : bodies_in lists' ≡ suc b
  unfolding lists'
  one_more = get_or-set_same (linked lists 0 512 b u.family) 3104 (b + 1) 0 (omega (arith, linked-length lists 0 512 b u.family, l.room.2)) ∙ add-one b

  same-heads : heads_in lists' ≡ heads_in lists
  same-heads = list-after 3105 (omega arith) (λ q. omega arith)

  new-families : (i : ℕ) → (i ≡ b) ⊎ (i < b) → family_of codes' i < 1056
  new-families i (inl e) = rw (e, at_body, family-of u fit) fit.family
  new-families i (inr k) = rw (at_other i (λ q. omega arith)) (l.families i k)

  new-lists : Chained (family_of codes') 1056 (suc b) (λ r. get_or lists' (512 + r) 0) (λ i. get_or lists' i 0)
  new-lists =
      chained_same (family_of codes') (λ r. get_or lists' (512 + r) 0) (λ i. get_or lists' i 0)
      (linked-chained lists 0 512 u.family (family_of codes')
      (chained_same (family_of codes) (λ r. get_or lists (512 + r) 0) (λ i. get_or lists (0 + i) 0) l.by_family (λ i k. refl) (λ r k. refl)
      (λ i k. ap (λ (x : ℕ). get_or lists x 0) (zero-add i)))
      (λ i k. ap family_in (at_other i (λ q. omega arith)))
      (ap family_in at_body ∙ family-of u fit)
      fit.family (omega arith) (omega (arith, l.room.2)))
      (λ i k. refl)
      (λ r k. list-linked (512 + r) (λ q. omega arith))
      (λ i k. list-linked i (λ q. omega arith) ∙ ap (λ (x : ℕ). get_or (linked lists 0 512 b u.family) x 0) (sym (zero-add i)))

  new-listed : Listed codes' valid lists'
  unfolding codes' lists'
  new-listed =
      record {
        room = (
          length-set codes b (code_of u) ∙ l.room.0,
          l.room.1,
          length-set (linked lists 0 512 b u.family) 3104 (b + 1) ∙ linked-length lists 0 512 b u.family ∙ l.room.2,
        );
        few = (rw one_more few, rw same-heads l.few.1);
        families = λ i k. new-families i (last-or-below (rw one_more at k));
        bodies = λ i k.
            let q = l.bodies i (rw same-heads at k) in
            let e = ap body_in (at_other (512 + i) (λ q. omega arith)) in
            omega (arith, one_more);
        by_family = rw one_more new-lists;
        by_body =
            rw same-heads
            (chained_same (body_of_head codes') (λ r. get_or lists' (2080 + r) 0) (λ i. get_or lists' (1568 + i) 0) l.by_body
            (λ i k. ap body_in (at_other (512 + i) (λ q. omega arith)))
            (λ r k. list-after (2080 + r) (omega arith) (λ q. omega arith))
            (λ i k. list-after (1568 + i) (omega arith) (λ q. omega (arith, l.few.1))));
      }

  -- a head's body was there before
  new-same : (w : Use) (s : ℕ) → Fitting w → Uses codes' valid lists' w s ↔ Uses codes valid lists w s
  new-same w s f = (back, to)
    where
      back : Uses codes' valid lists' w s → Uses codes valid lists w s
      back x =
          let e = sym (at_other (512 + x.head) (λ q. omega arith)) ∙ x.head_coded in
          let h : x.head < heads_in lists = rw same-heads at x.low.1 in
          let low = l.bodies x.head h in
          let g = ap body_in e ∙ body-in-code x.body w.head f.head in
          record {
            body = x.body;
            head = x.head;
            low = (omega arith, h);
            body_coded = sym (at_other x.body (λ q. omega arith)) ∙ x.body_coded;
            head_coded = e;
            spans = x.spans;
          }

      to : Uses codes valid lists w s → Uses codes' valid lists' w s
      to x =
          record {
            body = x.body;
            head = x.head;
            low = (omega (arith, one_more, x.low.0), rw same-heads x.low.1);
            body_coded = at_other x.body (λ q. omega arith) ∙ x.body_coded;
            head_coded = at_other (512 + x.head) (λ q. omega arith) ∙ x.head_coded;
            spans = x.spans;
          }

  new_others : (i : ℕ) → (i ≡ b) ⊎ (i < b) → (get_or codes' i 0 ≡ code_of u) ⊎ ((i < b) × (get_or codes' i 0 ≡ get_or codes i 0))
  new_others i (inl e) = inl (ap (λ (x : ℕ). get_or codes' x 0) e ∙ at_body)
  new_others i (inr k) = inr (k, at_other i (λ q. omega arith))

  body_new : Bodied u codes valid lists codes' lists' b
  body_new =
      record {
        listed = new-listed;
        low = rw one_more (le_refl (suc b));
        coded = at_body;
        same = new-same;
        others = λ i k. new_others i (last-or-below (rw one_more at k));
        one = (omega (arith, one_more), omega (arith, one_more));
        none = same-heads;
        bodies = λ i k. at_other i (λ q. omega arith);
        heads = λ i. at_other (512 + i) (λ q. omega arith);
        sources = λ i k. list-after (2592 + i) (omega arith) (λ q. omega arith);
      }

  pub body-placed : {codes₁ lists₁ : List ℕ} {r : ℕ} → BodyPlaced codes lists u.family (code_of u) codes₁ lists₁ r → Bodied u codes valid lists codes₁ lists₁ r
  unfolding codes' lists'
  body-placed {codes₁} {lists₁} {r} p = go p.placed
    where
      go : ((r < b) × (get_or codes r 0 ≡ code_of u) × (codes₁ ≡ codes) × (lists₁ ≡ lists)) ⊎ ((r ≡ b) × (codes₁ ≡ codes') × (lists₁ ≡ lists')) → Bodied u codes valid lists codes₁ lists₁ r
      go (inl (k, e, f, g)) = rw (f, g) (body-known r k e)
      go (inr (e, f, g)) = rw (e, f, g) body_new

-- What placing a head makes of the lists and of the uses.
use mathlib.Core.Path.{◌≡◌, refl, sym, ap, ◌∙◌, subst⁻¹}
use mathlib.Core.Logic.{◌⊎◌, inl, inr, ◌↔◌}
use mathlib.Core.List.{List}
use Prim.Native.Nat.{ℕ, suc, ◌+◌, ◌%◌, ◌≤◌, ◌<◌}
use native.Mathlib.Nat.{le_refl}
use native.Mathlib.Numerals.{add-one}
use native.Mathlib.Omega.{arith}
use lib.Bits.{bit_or}
use lib.ListN.{length, get_or, set, length-set}
use lib.Seq.{get_or-set_same, get_or-set_other}
use Rattle.meaning.specs.Table.{bit}
use Rattle.meaning.proofs.Bits.{union_left, union_right, union-cases}
use Rattle.store.specs.Entries.{Chained}
use Rattle.store.proofs.Chains.{last-or-below, equal_or_not, chained_same}
use Rattle.rules.specs.declared.Use.{Use}
use Rattle.rules.specs.Uses.{head_code, family_in, body_in, family_of, body_of_head, bodies_in, heads_in, source_in, Listed, Uses, Fitting, HeadOf, UseAdded}
use Rattle.listing.specs.Places.{linked, with_head, Widened, HeadPlaced}
use Rattle.rules.proofs.CodeLaws.{body-in-code, head-in-code, same-use}
use Rattle.listing.proofs.Linking.{linked-length, linked-other, linked-chained}
use Rattle.listing.proofs.Bodies.{code_of}

module _ (u : Use) (fit : Fitting u) (v source : ℕ) {codes valid lists : List ℕ} {body : ℕ} (l : Listed codes valid lists) (few : heads_in lists < 512) (low : body < bodies_in lists) (coded : get_or codes body 0 ≡ code_of u) where
  abbrev h : ℕ
  h = heads_in lists

  -- a use with the head's code is the one of the head
  its-use : (w : Use) → Fitting w → (c : ℕ) → get_or codes c 0 ≡ code_of w → head_code c w.head ≡ head_code body u.head → w ≡ u
  its-use w f c e g =
      let p = sym (body-in-code c w.head f.head) ∙ ap body_in g ∙ body-in-code body u.head fit.head in
      let q = sym (head-in-code c w.head f.head) ∙ ap (λ (x : ℕ). x % 1024) g ∙ head-in-code body u.head fit.head in
      same-use u w fit f (sym e ∙ ap (λ (x : ℕ). get_or codes x 0) p ∙ coded) q

  module _ (k : ℕ) (is : k < h) (code : get_or codes (512 + k) 0 ≡ head_code body u.head) where
    wider : List ℕ
    wider = set valid k (bit_or (get_or valid k 0) v)

    at-wider : get_or wider k 0 ≡ bit_or (get_or valid k 0) v
    unfolding wider
    at-wider = get_or-set_same valid k (bit_or (get_or valid k 0) v) 0 (omega arith)

    beside-wider : (i : ℕ) → (i ≡ k → ⊥) → get_or wider i 0 ≡ get_or valid i 0
    unfolding wider
    beside-wider i ne = get_or-set_other valid k i (bit_or (get_or valid k 0) v) 0 ne

    wider-exact : (w : Use) (s : ℕ) → Fitting w → Uses codes wider lists w s ↔ (Uses codes valid lists w s ⊎ ((w ≡ u) × (bit v s ≡ 1)))
    wider-exact w s f = (λ x. from x (equal_or_not x.head k), to)
      where
        kept : (x : Uses codes wider lists w s) → bit (get_or valid x.head 0) s ≡ 1 → Uses codes valid lists w s
        kept x e = record { body = x.body; head = x.head; low = x.low; body_coded = x.body_coded; head_coded = x.head_coded; spans = e }

        from : (x : Uses codes wider lists w s) → (x.head ≡ k) ⊎ (x.head ≡ k → ⊥) → Uses codes valid lists w s ⊎ ((w ≡ u) × (bit v s ≡ 1))
        from x (inr ne) = inl (kept x (rw (beside-wider x.head ne) at x.spans))
        from x (inl e) = split (union-cases (get_or valid k 0) v s (sym (ap (λ (y : ℕ). bit y s) (ap (λ (y : ℕ). get_or wider y 0) e ∙ at-wider)) ∙ x.spans))
          where
            split : (bit (get_or valid k 0) s ≡ 1) ⊎ (bit v s ≡ 1) → Uses codes valid lists w s ⊎ ((w ≡ u) × (bit v s ≡ 1))
            split (inl q) = inl (kept x (ap (λ (y : ℕ). bit (get_or valid y 0) s) e ∙ q))
            split (inr q) = inr (its-use w f x.body x.body_coded (sym x.head_coded ∙ ap (λ (y : ℕ). get_or codes (512 + y) 0) e ∙ code), q)

        widened : (x : Uses codes valid lists w s) → (x.head ≡ k) ⊎ (x.head ≡ k → ⊥) → bit (get_or wider x.head 0) s ≡ 1
        widened x (inl e) =
            ap (λ (y : ℕ). bit (get_or wider y 0) s) e ∙ ap (λ (y : ℕ). bit y s) at-wider
            ∙ union_left (get_or valid k 0) v s (ap (λ (y : ℕ). bit (get_or valid y 0) s) (sym e) ∙ x.spans)
        widened x (inr ne) = ap (λ (y : ℕ). bit y s) (beside-wider x.head ne) ∙ x.spans

        to : Uses codes valid lists w s ⊎ ((w ≡ u) × (bit v s ≡ 1)) → Uses codes wider lists w s
        to (inl x) =
            record { body = x.body; head = x.head; low = x.low; body_coded = x.body_coded; head_coded = x.head_coded; spans = widened x (equal_or_not x.head k) }
        to (inr (e, q)) =
            record {
              body = body;
              head = k;
              low = (low, is);
              body_coded = coded ∙ ap code_of (sym e);
              head_coded = code ∙ ap (λ (x : Use). head_code body x.head) (sym e);
              spans = ap (λ (y : ℕ). bit y s) at-wider ∙ union_right (get_or valid k 0) v s q;
            }

    head-known : UseAdded u v source codes valid lists codes wider lists
    unfolding wider
    head-known =
        record {
          listed =
              record {
                room = (l.room.0, length-set valid k (bit_or (get_or valid k 0) v) ∙ l.room.1, l.room.2);
                few = l.few;
                families = l.families;
                bodies = l.bodies;
                by_family = l.by_family;
                by_body = l.by_body;
              };
          one = (omega arith, omega arith);
          more = (omega arith, omega arith);
          bodies = λ i _. refl;
          heads = λ i _. refl;
          sources = λ i _. refl;
          new = λ i k j. absurd (omega arith);
          coded = λ i k. inr (k, refl);
          exact = wider-exact;
        }

  codes'' : List ℕ
  codes'' = set codes (512 + h) (head_code body u.head)

  valid'' : List ℕ
  valid'' = set valid h v

  lists'' : List ℕ
  lists'' = with_head lists body source

  -- before the heads are counted
  former : List ℕ
  former = set (linked lists 1568 2080 h body) (2592 + h) source

  at_head : get_or codes'' (512 + h) 0 ≡ head_code body u.head
  unfolding codes''
  at_head = get_or-set_same codes (512 + h) (head_code body u.head) 0 (omega arith)

  beside_head : (i : ℕ) → (i ≡ 512 + h → ⊥) → get_or codes'' i 0 ≡ get_or codes i 0
  unfolding codes''
  beside_head i ne = get_or-set_other codes (512 + h) i (head_code body u.head) 0 ne

  at-spans : get_or valid'' h 0 ≡ v
  unfolding valid''
  at-spans = get_or-set_same valid h v 0 (omega arith)

  beside-spans : (i : ℕ) → i < h → get_or valid'' i 0 ≡ get_or valid i 0
  unfolding valid''
  beside-spans i k = get_or-set_other valid h i v 0 (λ q. omega arith)

  former-room : length former ≡ 3106
  unfolding former
  former-room = length-set (linked lists 1568 2080 h body) (2592 + h) source ∙ linked-length lists 1568 2080 h body ∙ l.room.2

  list-former : (p : ℕ) → (p ≡ 3105 → ⊥) → get_or lists'' p 0 ≡ get_or former p 0
  unfolding lists'' former
  list-former p n = get_or-set_other former 3105 p (h + 1) 0 n

  -- all but the number of heads and the new source is as in `linked`
  list-linked : (p : ℕ) → (p ≡ 3105 → ⊥) → (p ≡ 2592 + h → ⊥) → get_or lists'' p 0 ≡ get_or (linked lists 1568 2080 h body) p 0
  unfolding former
  list-linked p n m = list-former p n ∙ get_or-set_other (linked lists 1568 2080 h body) (2592 + h) p source 0 m

  -- the places before the lists of the heads, and after them, are as they were
  list-before : (p : ℕ) → p < 1568 → get_or lists'' p 0 ≡ get_or lists p 0
  list-before p k = list-linked p (λ q. omega arith) (λ q. omega arith) ∙ linked-other lists 1568 2080 h body p (λ q. omega arith) (λ q. omega arith)

  list-after : (p : ℕ) → 2592 ≤ p → (p ≡ 3105 → ⊥) → (p ≡ 2592 + h → ⊥) → get_or lists'' p 0 ≡ get_or lists p 0
  list-after p k n m = list-linked p n m ∙ linked-other lists 1568 2080 h body p (λ q. omega arith) (λ q. omega (arith, l.few.0))

  one_more : heads_in lists'' ≡ suc h
  unfolding lists'' former
  one_more = get_or-set_same former 3105 (h + 1) 0 (omega (arith, former-room)) ∙ add-one h

  same-bodies : bodies_in lists'' ≡ bodies_in lists
  same-bodies = list-after 3104 (omega arith) (λ q. omega arith) (λ q. omega arith)

  own-source : source_in lists'' h ≡ source
  unfolding former
  own-source = list-former (2592 + h) (λ q. omega arith) ∙ get_or-set_same (linked lists 1568 2080 h body) (2592 + h) source 0 (omega (arith, linked-length lists 1568 2080 h body, l.room.2))

  new-bodies : (i : ℕ) → (i ≡ h) ⊎ (i < h) → body_of_head codes'' i < bodies_in lists
  new-bodies i (inl e) = rw (e, at_head, body-in-code body u.head fit.head) low
  new-bodies i (inr k) = rw (beside_head (512 + i) (λ q. omega arith)) (l.bodies i k)

  new-lists : Chained (body_of_head codes'') 512 (suc h) (λ r. get_or lists'' (2080 + r) 0) (λ i. get_or lists'' (1568 + i) 0)
  new-lists =
      chained_same (body_of_head codes'') (λ r. get_or lists'' (2080 + r) 0) (λ i. get_or lists'' (1568 + i) 0)
      (linked-chained lists 1568 2080 body (body_of_head codes'') l.by_body
      (λ i k. ap body_in (beside_head (512 + i) (λ q. omega arith)))
      (ap body_in at_head ∙ body-in-code body u.head fit.head)
      (omega (arith, l.few.0)) (omega arith) (omega (arith, l.room.2)))
      (λ i k. refl)
      (λ r k. list-linked (2080 + r) (λ q. omega arith) (λ q. omega arith))
      (λ i k. list-linked (1568 + i) (λ q. omega arith) (λ q. omega arith))

  head-listed : Listed codes'' valid'' lists''
  unfolding codes'' valid'' lists'' former
  head-listed =
      record {
        room = (
          length-set codes (512 + h) (head_code body u.head) ∙ l.room.0,
          length-set valid h v ∙ l.room.1,
          length-set former 3105 (h + 1) ∙ former-room,
        );
        few = (rw same-bodies l.few.0, rw one_more few);
        families = λ i k. rw (beside_head i (λ q. omega (arith, l.few.0, same-bodies))) (l.families i (rw same-bodies at k));
        bodies = λ i k. rw same-bodies (new-bodies i (last-or-below (rw one_more at k)));
        by_family =
            rw same-bodies
            (chained_same (family_of codes'') (λ r. get_or lists'' (512 + r) 0) (λ i. get_or lists'' i 0) l.by_family
            (λ i k. ap family_in (beside_head i (λ q. omega (arith, l.few.0))))
            (λ r k. list-before (512 + r) (omega arith))
            (λ i k. list-before i (omega (arith, l.few.0))));
        by_body = rw one_more new-lists;
      }

  head-exact : (w : Use) (s : ℕ) → Fitting w → Uses codes'' valid'' lists'' w s ↔ (Uses codes valid lists w s ⊎ ((w ≡ u) × (bit v s ≡ 1)))
  head-exact w s f = (λ x. from x (rw same-bodies at x.low.0) (last-or-below (rw one_more at x.low.1)), to)
    where
      from : (x : Uses codes'' valid'' lists'' w s) → x.body < bodies_in lists → (x.head ≡ h) ⊎ (x.head < h) → Uses codes valid lists w s ⊎ ((w ≡ u) × (bit v s ≡ 1))
      from x j (inl e) =
          inr (
            its-use w f x.body (sym (beside_head x.body (λ q. omega arith)) ∙ x.body_coded)
                (sym x.head_coded ∙ ap (λ (y : ℕ). get_or codes'' (512 + y) 0) e ∙ at_head),
            sym (ap (λ (y : ℕ). bit y s) (ap (λ (y : ℕ). get_or valid'' y 0) e ∙ at-spans)) ∙ x.spans,
          )
      from x j (inr k) =
          inl record {
            body = x.body;
            head = x.head;
            low = (j, k);
            body_coded = sym (beside_head x.body (λ q. omega arith)) ∙ x.body_coded;
            head_coded = sym (beside_head (512 + x.head) (λ q. omega arith)) ∙ x.head_coded;
            spans = sym (ap (λ (y : ℕ). bit y s) (beside-spans x.head k)) ∙ x.spans;
          }

      to : Uses codes valid lists w s ⊎ ((w ≡ u) × (bit v s ≡ 1)) → Uses codes'' valid'' lists'' w s
      to (inl x) =
          record {
            body = x.body;
            head = x.head;
            low = (rw same-bodies x.low.0, omega (arith, one_more, x.low.1));
            body_coded = beside_head x.body (λ q. omega arith) ∙ x.body_coded;
            head_coded = beside_head (512 + x.head) (λ q. omega arith) ∙ x.head_coded;
            spans = ap (λ (y : ℕ). bit y s) (beside-spans x.head x.low.1) ∙ x.spans;
          }
      to (inr (e, q)) =
          record {
            body = body;
            head = h;
            low = (rw same-bodies low, rw one_more (le_refl (suc h)));
            body_coded = beside_head body (λ q. omega arith) ∙ coded ∙ ap code_of (sym e);
            head_coded = at_head ∙ ap (λ (x : Use). head_code body x.head) (sym e);
            spans = ap (λ (y : ℕ). bit y s) at-spans ∙ q;
          }

  own-head : HeadOf codes'' u h
  own-head =
      let e : body_in (get_or codes'' (512 + h) 0) ≡ body = ap body_in at_head ∙ body-in-code body u.head fit.head in
      record {
        body_coded = ap (λ (x : ℕ). get_or codes'' x 0) e ∙ beside_head body (λ q. omega arith) ∙ coded;
        head_coded = at_head ∙ ap (λ (x : ℕ). head_code x u.head) (sym e);
      }

  head-new : UseAdded u v source codes valid lists codes'' valid'' lists''
  head-new =
      record {
        listed = head-listed;
        one = (omega (arith, same-bodies), omega (arith, one_more));
        more = (omega (arith, same-bodies), omega (arith, one_more));
        bodies = λ i k. beside_head i (λ q. omega (arith, l.few.0));
        heads = λ i k. beside_head (512 + i) (λ q. omega arith);
        sources = λ i k. list-after (2592 + i) (omega arith) (λ q. omega arith) (λ q. omega arith);
        new = λ i k j. let e : i ≡ h = omega (arith, one_more) in (subst⁻¹ (HeadOf codes'' u) e own-head, ap (source_in lists'') e ∙ own-source);
        coded = λ i k. inr (rw same-bodies at k, beside_head i (λ q. omega (arith, l.few.0, same-bodies)));
        exact = head-exact;
      }

  pub head-placed : {codes₁ valid₁ lists₁ : List ℕ} → HeadPlaced codes valid lists body (head_code body u.head) v source codes₁ valid₁ lists₁ → (bodies_in lists₁ ≡ bodies_in lists) × UseAdded u v source codes valid lists codes₁ valid₁ lists₁
  unfolding wider codes'' valid'' lists''
  head-placed {codes₁} {valid₁} {lists₁} p = go p.placed
    where
      go : ((codes₁ ≡ codes) × (lists₁ ≡ lists) × Widened codes valid h (head_code body u.head) v valid₁)
          ⊎ ((codes₁ ≡ codes'') × (lists₁ ≡ lists'') × (valid₁ ≡ valid''))
          → (bodies_in lists₁ ≡ bodies_in lists) × UseAdded u v source codes valid lists codes₁ valid₁ lists₁
      go (inl (f, g, w)) = rw (f, g, w.spans) (refl, head-known w.head w.low w.coded)
      go (inr (f, g, i)) = rw (f, g, i) (same-bodies, head-new)

-- More distinct keys than the limit, each of a membership at the minute, are more memberships than the limit.
use mathlib.Core.Path.{◌≡◌, refl, sym, ap, ◌∙◌}
use mathlib.Core.List.Memᴰ.{head}
use mathlib.Core.List.Memᴰ.{tail}
use mathlib.Core.List.{List, [], ◌∷◌, Memᴰ as Mem}
use Prim.Native.Nat.{ℕ, zero, suc, ◌<◌, ◌≤◌, Ordering}
use native.Mathlib.Omega.{arith}
use lib.ListN.{length}
use Rattle.meaning.specs.Lists.{placed, insert, sort}
use Rattle.meaning.specs.Credentials.{Credential, valid_at, FitsAll}
use Rattle.meaning.specs.Sequence.{S}
use Rattle.meaning.specs.Members.{Membership, member, order, Before, members}
use Rattle.meaning.proofs.ListLaws.{cast}
use Rattle.meaning.proofs.SortLaws.{Says, Within, sort-out, sort-ascending, within-length}
use Rattle.meaning.proofs.OrderLaws.{memberships}
use Rattle.meaning.proofs.Fixpoint.{closure-all}
use Rattle.meaning.proofs.Rows.{valid-fits, members-ascending}
use Rattle.store.specs.Entries.{key_of, role_in, set_in}
use Rattle.store.proofs.Keys.{key-of-parts}
use Rattle.heads.specs.Gaining.{Over}

-- a new element makes a sorted list longer
insert-length : (x : Membership) (l : List Membership) → (Mem x l → ⊥) → length (insert order x l) ≡ suc (length l)
insert-length x [] h = refl
insert-length x (y ∷ l) h = go (order x y) (memberships.says x y) (insert-length x l (λ m. h (tail m)))
  where
    go : (o : Ordering) → Says Before x y o → length (insert order x l) ≡ suc (length l) → length (placed o x y l (insert order x l)) ≡ suc (suc (length l))
    go Ordering.lt s rec = refl
    go Ordering.eq s rec = absurd (h (head s))
    go Ordering.gt s rec = ap suc rec

module _ (f : ℕ → Membership) where
  abbrev firsts : ℕ → List Membership
  firsts zero = []
  firsts (suc n) = f n ∷ firsts n

  first_out : (n : ℕ) {x : Membership} → Mem x (firsts n) → (i : ℕ) × (i < n) × (x ≡ f i)
  first_out zero m = elim m [ ]
  first_out (suc n) (head e) = (n, omega arith, e)
  first_out (suc n) (tail m) = let r = first_out n m in (r.0, omega (arith, r.1), r.2)

  firsts-length : (n : ℕ) → ((i j : ℕ) → i < n → j < n → f i ≡ f j → i ≡ j) → length (sort order (firsts n)) ≡ n
  firsts-length zero d = refl
  firsts-length (suc n) d =
      insert-length (f n) (sort order (firsts n))
      (λ m. let r = first_out n (sort-out memberships (firsts n) m) in let e = d n r.0 (omega arith) (omega (arith, r.1)) r.2 in omega (arith, r.1))
      ∙ ap suc (firsts-length n (λ i j a b. d i j (omega arith) (omega arith)))

  -- n of them, all in an ascending list
  at_least : (cs : List Credential) (m n : ℕ) → FitsAll cs → ((i j : ℕ) → i < n → j < n → f i ≡ f j → i ≡ j) → ((i : ℕ) → i < n → Mem (f i) (members cs m)) → n ≤ length (members cs m)
  at_least cs m n w d h =
      let k = sort order (firsts n) in
      let within : Within k (members cs m) = λ x i. let r = first_out n (sort-out memberships (firsts n) i) in cast r.2 (h r.0 r.1) in
      let l = (within-length memberships k (members cs m) (sort-ascending memberships (firsts n)) (members-ascending cs w m) within).0 in
      omega (arith, firsts-length n d)

module _ (cs : List Credential) (m limit : ℕ) (fits : FitsAll cs) (o : Over limit (λ k. (level : ℕ) × S (valid_at cs m) level (role_in k) (set_in k))) where
  abbrev nth : ℕ → Membership
  nth i = member (role_in (o.keys i)) (set_in (o.keys i))

  same_key : (i j : ℕ) → nth i ≡ nth j → o.keys i ≡ o.keys j
  same_key i j e = sym (key-of-parts (o.keys i)) ∙ ap (λ (y : Membership). key_of y.role y.set) e ∙ key-of-parts (o.keys j)

  pub more-members : limit < length (members cs m)
  more-members =
      at_least nth cs m (suc limit) fits (λ i j h k e. o.distinct i j (omega arith) (omega arith) (same_key i j e))
      (λ i h. ((closure-all (valid_at cs m) (valid-fits cs fits m)).exact (role_in (o.keys i)) (set_in (o.keys i))).1 (o.each i (omega arith)))

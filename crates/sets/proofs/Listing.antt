-- Numbers with commas between them, one more at the end; the entities of a set, one after the other.
use mathlib.Core.Path.{◌≡◌, refl, sym, ap, ◌∙◌}
use mathlib.Core.Bool.{Bool, true, false, cond, ◌||◌}
use mathlib.Core.List.{List, [], ◌∷◌, ◌++◌, append-nil, append_assoc}
use Prim.Native.Nat.{ℕ, ◌+◌, ◌*◌, ◌≤◌, ◌<◌}
use native.Mathlib.Numerals.{add-one}
use native.Mathlib.Omega.{arith}
use borrow.Author.Tests.{lt-ltb}
use lib.Dec.{ltb}
use lib.ListN.{length, length-append}
use Rattle.text.specs.Lines.{decimal, field}
use Rattle.sets.specs.Sets.{has, entities_below, listed, entity_text, set_text}
use Rattle.text.proofs.Decimal.{decimal-some}

-- a number, with a comma before it if another stands there
abbrev pub next : Bool → ℕ → List ℕ
next later e = cond later (44 ∷ decimal e) (decimal e)

-- something is listed
abbrev pub some : List ℕ → Bool
some l = ltb 0 (length (listed l))

listed-some : (x : ℕ) (l : List ℕ) → 0 < length (listed (x ∷ l))
listed-some x [] = decimal-some x
listed-some x (y ∷ l) = simp length-append (omega arith)

pub listed-end : (l : List ℕ) (e : ℕ) → listed (l ++ e ∷ []) ≡ listed l ++ next (some l) e
listed-end [] e = refl
listed-end (x ∷ []) e = rw (lt-ltb _ _ (decimal-some x), append_assoc)
listed-end (x ∷ y ∷ l) e =
    let h : some (x ∷ y ∷ l) ≡ true = lt-ltb _ _ (listed-some x (y ∷ l)) in
    let k : some (y ∷ l) ≡ true = lt-ltb _ _ (listed-some y l) in
    ap (λ (t : List ℕ). field x 44 ++ t) (listed-end (y ∷ l) e ∙ ap (λ (b : Bool). listed (y ∷ l) ++ next b e) k)
    ∙ sym (append_assoc (field x 44) (listed (y ∷ l)) (next true e))
    ∙ ap (λ (b : Bool). listed (x ∷ y ∷ l) ++ next b e) (sym h)

entity-end : (b : Bool) (l : List ℕ) (e : ℕ)
    → listed (l ++ cond b (e ∷ []) []) ≡ listed l ++ cond b (next (some l) e) []
entity-end true l e = listed-end l e
entity-end false l e = rw (append-nil l, append-nil (listed l))

entity-next : (X e : ℕ) → listed (entities_below (e + 1) X) ≡ listed (entities_below e X) ++ entity_text (some (entities_below e X)) X e
entity-next X e = rw add-one (entity-end (has X e) (entities_below e X) e)

-- something is listed if an entity was, or if this one is
some-end : (b : Bool) (l : List ℕ) (e : ℕ) → some (l ++ cond b (e ∷ []) []) ≡ (some l || b)
some-end true [] e = lt-ltb _ _ (decimal-some e)
some-end true (x ∷ l) e =
    let h : some (x ∷ l) ≡ true = lt-ltb _ _ (listed-some x l) in
    let k : some (x ∷ l ++ e ∷ []) ≡ true = lt-ltb _ _ (listed-some x (l ++ e ∷ [])) in
    rw (k, h)
some-end false l e = ap some (append-nil l) ∙ or-false (some l)
  where
    or-false : (b : Bool) → b ≡ (b || false)
    or-false true = refl
    or-false false = refl

-- after the entities of X below e, which were put at the end of `start`; `comma` says that there were any
pub record Below (X e : ℕ) (start out : List ℕ) (comma : Bool) : Type 0 where
  pub text : out ≡ start ++ listed (entities_below e X)
  pub any : comma ≡ some (entities_below e X)
  pub within : length out ≤ length start + 3 * e

-- one entity more
pub more : {start out new : List ℕ} {comma : Bool} (X e : ℕ) → Below X e start out comma → new ≡ out ++ entity_text comma X e → length new ≤ length out + 3
    → Below X (e + 1) start new (comma || has X e)
more {start} {out} {new} {comma} X e p h n =
    let l = entities_below e X in
    record {
      text =
          h
          ∙ ap (λ (o : List ℕ). o ++ entity_text comma X e) p.text
          ∙ append_assoc start (listed l) (entity_text comma X e)
          ∙ ap (λ (b : Bool). start ++ (listed l ++ entity_text b X e)) p.any
          ∙ ap (λ (t : List ℕ). start ++ t) (sym (entity-next X e));
      any = ap (λ (b : Bool). b || has X e) p.any ∙ sym (some-end (has X e) l e) ∙ rw add-one;
      within = omega (arith, p.within);
    }

-- all entities between the braces
pub whole : (start : List ℕ) {mid out new : List ℕ} {comma : Bool} (X e : ℕ) → e ≡ 32 → mid ≡ start ++ 123 ∷ [] → Below X e mid out comma → new ≡ out ++ 125 ∷ []
    → new ≡ start ++ set_text X
unfolding set_text
whole start X e h o p q =
    let l = listed (entities_below e X) in
    q
    ∙ ap (λ (t : List ℕ). t ++ 125 ∷ []) (p.text ∙ ap (λ (t : List ℕ). t ++ l) o)
    ∙ append_assoc (start ++ 123 ∷ []) l (125 ∷ [])
    ∙ append_assoc start (123 ∷ []) (l ++ 125 ∷ [])
    ∙ ap (λ (n : ℕ). start ++ (123 ∷ (listed (entities_below n X) ++ 125 ∷ []))) h

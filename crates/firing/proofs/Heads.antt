-- What the heads of a body give by a move is what they give from the entry.
use mathlib.Core.Path.{◌≡◌, subst}
use mathlib.Core.Logic.{◌↔◌}
use mathlib.Core.Bool.{Bool, true, false}
use mathlib.Core.List.{List}
use Prim.Native.Nat.{ℕ}
use lib.Bits.{bit_and}
use lib.ListN.{get_or}
use Rattle.heads.specs.Gaining.{Gains}
use Rattle.heads.specs.Heads.{Headed, Covering, FromHeads}
use Rattle.heads.proofs.Gaining.{gains-same, gains-by}
use Rattle.heads.proofs.Heads.{bit-both, bit-left, no-bit, from-heads-more, headed-more}
use Rattle.portions.specs.Plans.{WithEach}
use Rattle.premises.specs.declared.Move.{Move}
use Rattle.premises.specs.Combining.{ByCode, Offers}
use Rattle.premises.specs.Moves.{MoveSets, MoveWords, Planned}

-- ---- only spans in which some head of the body is valid count

module _ (codes valid lists : List ℕ) (body all : ℕ) (cover : Covering codes valid lists body all) (keys done : List ℕ) (n e d code : ℕ) where
  narrow : (k s : ℕ) → Headed codes valid lists body (ByCode keys done n e d code) k s → Headed codes valid lists body (ByCode keys done n e (bit_and d all) code) k s
  narrow k s w =
      record {
        head = w.head;
        low = w.low;
        of = w.of;
        spans = w.spans;
        set = w.set;
        given = (bit-both d all s w.given.0 (cover w.head s w.low w.of w.spans), w.given.1);
        key = w.key;
      }

  widen : (k s : ℕ) → Headed codes valid lists body (ByCode keys done n e (bit_and d all) code) k s → Headed codes valid lists body (ByCode keys done n e d code) k s
  widen = headed-more (λ X s w. (bit-left d all s w.0, w.1))

  pub narrow-none : bit_and d all ≡ 0 → (k s : ℕ) → Headed codes valid lists body (ByCode keys done n e d code) k s → ⊥
  narrow-none z k s w = no-bit (bit_and d all) s z (narrow k s w).given.0

  -- ---- a move

  module _ {m : Move} (p : Planned keys done n e code (bit_and d all) m) where
    -- in no spans it gives nothing
    pub move-none : m.offer.spans ≡ 0 → (k s : ℕ) → Headed codes valid lists body (ByCode keys done n e d code) k s → ⊥
    move-none z k s w = let v = narrow k s w in none m.each v.set ((p.exact v.set s).1 v.given)
      where
        none : (b : Bool) (X : ℕ) → MoveSets b keys done m X s → ⊥
        none false X u = no-bit m.offer.spans s z u.1
        none true X u = no-bit m.offer.spans s z (bit-left m.offer.spans (get_or done u.item 0) s u.gives.1)

    -- the heads get its sets, with the words of their partners
    pub move-gains : {limit : ℕ} {spans notes keys' spans' slots' links' notes' : List ℕ} {own r : ℕ} (b : Bool) → m.each ≡ b → (m.offer.spans ≡ 0 → ⊥) → Gains limit keys spans notes n (Headed codes valid lists body (MoveSets b keys done m)) (FromHeads codes lists body own (MoveWords b keys done m)) keys' spans' slots' links' notes' r → Gains limit keys spans notes n (Headed codes valid lists body (ByCode keys done n e d code)) (FromHeads codes lists body own (Offers keys done n e code)) keys' spans' slots' links' notes' r
    move-gains b q some g =
        gains-by (from-heads-more words)
        (gains-same (λ k s w. widen k s (headed-more (λ X s u. (exact X s).0 u) k s w)) (λ k s w. headed-more (λ X s u. (exact X s).1 u) k s (narrow k s w)) g)
      where
        exact : (X s : ℕ) → MoveSets b keys done m X s ↔ ByCode keys done n e (bit_and d all) code X s
        exact = subst (λ (x : Bool). (X s : ℕ) → MoveSets x keys done m X s ↔ ByCode keys done n e (bit_and d all) code X s) q p.exact

        words : (X w : ℕ) → MoveWords b keys done m X w → Offers keys done n e code X w
        words = subst (λ (x : Bool). (X w : ℕ) → MoveWords x keys done m X w → Offers keys done n e code X w) q (p.words some)

-- ---- each entry of a role

module _ (codes valid lists : List ℕ) (body : ℕ) (keys done : List ℕ) (m : Move) where
  each-sets : (k s : ℕ) → WithEach codes valid lists body keys done m.start m.offer.kind m.offer.set m.offer.spans k s → Headed codes valid lists body (MoveSets true keys done m) k s
  each-sets k s w =
      let g = w.gives in
      record {
        head = g.head;
        low = g.low;
        of = g.of;
        spans = g.spans;
        set = g.set;
        given = record { item = w.item; past = w.past; low = w.low; of = w.of; gives = g.given };
        key = g.key;
      }

  sets-each : (k s : ℕ) → Headed codes valid lists body (MoveSets true keys done m) k s → WithEach codes valid lists body keys done m.start m.offer.kind m.offer.set m.offer.spans k s
  sets-each k s w =
      let g = w.given in
      record {
        item = g.item;
        past = g.past;
        low = g.low;
        of = g.of;
        gives = record { head = w.head; low = w.low; of = w.of; spans = w.spans; set = w.set; given = g.gives; key = w.key };
      }

  pub each-gains : {limit : ℕ} {spans notes keys' spans' slots' links' notes' : List ℕ} {n own r : ℕ} → Gains limit keys spans notes n (WithEach codes valid lists body keys done m.start m.offer.kind m.offer.set m.offer.spans) (FromHeads codes lists body own (MoveWords true keys done m)) keys' spans' slots' links' notes' r → Gains limit keys spans notes n (Headed codes valid lists body (MoveSets true keys done m)) (FromHeads codes lists body own (MoveWords true keys done m)) keys' spans' slots' links' notes' r
  each-gains = gains-same each-sets sets-each

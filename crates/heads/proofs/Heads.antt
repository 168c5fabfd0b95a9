-- The heads of a body: the loops along their list, what they give, and how it is noted.
use mathlib.Core.Path.{◌≡◌, refl, ap, ◌∙◌}
use mathlib.Core.Logic.{◌⊎◌, inl, inr}
use mathlib.Core.Bool.{Bool, true, false}
use mathlib.Core.List.{List}
use Prim.Native.Nat.{ℕ, ◌+◌, ◌-◌, ◌/◌, ◌%◌, ◌≤◌, ◌<◌, zero-le}
use native.Mathlib.Omega.{arith}
use lib.Bits.{bit_and, bit_or}
use lib.Dec.{eqb}
use lib.ListN.{get_or}
use Rattle.meaning.specs.Lists.{if}
use Rattle.meaning.specs.Table.{bit}
use Rattle.meaning.proofs.Bits.{bit-and, bit-or, bit-below-two, bit-of-zero}
use Rattle.store.specs.Entries.{key_of, latest}
use Rattle.store.proofs.Chains.{latest-none}
use Rattle.rules.specs.Uses.{Listed, body_of_head, head_of, heads_in}
use Rattle.heads.specs.Gaining.{Spanned, Origin, Kept, Gains}
use Rattle.heads.specs.Walks.{On, From, Along}
use Rattle.heads.specs.Heads.{One, ByHead, Headed, Coverings, first_by, second_by, FromHead, FromHeads, TheOne}
use Rattle.heads.proofs.Gaining.{Within, gains-none, gains-by, gains-same}
use Rattle.heads.proofs.Walks.{on-latest, passed, along-next, along-over}

-- ---- bits of both numbers

pub bit-both : (a b s : ℕ) → bit a s ≡ 1 → bit b s ≡ 1 → bit (bit_and a b) s ≡ 1
bit-both a b s e f = omega (arith, bit-and a b s)

pub bit-left : (a b s : ℕ) → bit (bit_and a b) s ≡ 1 → bit a s ≡ 1
bit-left a b s e = omega (arith, bit-and a b s, bit-below-two a s)

pub bit-right : (a b s : ℕ) → bit (bit_and a b) s ≡ 1 → bit b s ≡ 1
bit-right a b s e = omega (arith, bit-and a b s, bit-below-two b s)

pub no-bit : (m s : ℕ) → m ≡ 0 → bit m s ≡ 1 → ⊥
no-bit m s z e = let f = ap (λ (x : ℕ). bit x s) z ∙ bit-of-zero s in omega arith

-- ---- the list of the heads

module _ {codes valid lists : List ℕ} (l : Listed codes valid lists) where
  pub heads-start : (body c : ℕ) → body < 512 → c ≡ get_or lists (2080 + body) 0 → c ≡ latest (body_of_head codes) body (heads_in lists)
  heads-start body c k e = e ∙ l.by_body.lasts body k

  pub heads-next : (body c d : ℕ) → (c ≡ 0 → ⊥) → On (body_of_head codes) body (heads_in lists) c → d ≡ get_or lists (1568 + (c - 1)) 0 → d ≡ latest (body_of_head codes) body (c - 1)
  heads-next body c d nz on e =
      let o = on nz in
      e ∙ l.by_body.prevs (c - 1) o.0 ∙ ap (λ (x : ℕ). latest (body_of_head codes) x (c - 1)) o.1

-- ---- their spans

-- a loop at place c: `all` has the spans of the heads passed
pub record Covers (codes valid lists : List ℕ) (body c all : ℕ) : Type 0 where
  pub on : On (body_of_head codes) body (heads_in lists) c
  pub bits : (i s : ℕ) → c ≤ i → i < heads_in lists → body_of_head codes i ≡ body → bit (get_or valid i 0) s ≡ 1 → bit all s ≡ 1

-- whatever codes the lists are of
abbrev pub AllCover : List ℕ → List ℕ → ℕ → ℕ → ℕ → Type 0
AllCover valid lists body c all = (codes : List ℕ) → Listed codes valid lists → Covers codes valid lists body c all

module _ {valid lists : List ℕ} {body : ℕ} where
  pub covers-start : (c : ℕ) → body < 512 → c ≡ get_or lists (2080 + body) 0 → AllCover valid lists body c 0
  covers-start c k e codes l =
      let q = heads-start l body c k e in
      record {
        on = on-latest (body_of_head codes) body (heads_in lists) c (heads_in lists) (omega arith) q;
        bits = λ i s p o f v. absurd (latest-none (body_of_head codes) body (heads_in lists) i (omega arith) o f);
      }

  pub covers-next : (c d all : ℕ) → AllCover valid lists body c all → (c ≡ 0 → ⊥) → d ≡ get_or lists (1568 + (c - 1)) 0 → AllCover valid lists body d (bit_or all (get_or valid (c - 1) 0))
  covers-next c d all a nz e codes l =
      let w = a codes l in
      let o = w.on nz in
      let q = heads-next l body c d nz w.on e in
      record {
        on = on-latest (body_of_head codes) body (heads_in lists) d (c - 1) (omega arith) q;
        bits = λ i s p o f v. join i s o f v (passed (body_of_head codes) body (heads_in lists) c d i nz q p f);
      }
    where
      join : (i s : ℕ) → i < heads_in lists → body_of_head codes i ≡ body → bit (get_or valid i 0) s ≡ 1 → (c ≤ i) ⊎ (i ≡ c - 1) → bit (bit_or all (get_or valid (c - 1) 0)) s ≡ 1
      join i s o f v (inl p) = let u = (a codes l).bits i s p o f v in omega (arith, bit-or all (get_or valid (c - 1) 0) s, bit-below-two (get_or valid (c - 1) 0) s)
      join i s o f v (inr q) = let u = ap (λ (x : ℕ). bit (get_or valid x 0) s) q in omega (arith, bit-or all (get_or valid (c - 1) 0) s, bit-below-two all s)

  pub covers-end : (all c : ℕ) → AllCover valid lists body c all → c ≡ 0 → Coverings valid lists body all
  covers-end all c a z codes l i s o f v = (a codes l).bits i s (omega arith) o f v

-- ---- how it is noted

-- what is cited is the entry that gives, or its partner
pub cited-low : (source own other n : ℕ) → own ≤ n → other ≤ n → (first_by source own other ≤ n) × (second_by source own other ≤ n)
cited-low source own other n h k = go (eqb (source / 256 % 2) 0)
  where
    go : (b : Bool) → (if b own other ≤ n) × (if b other own ≤ n)
    go true = (h, k)
    go false = (k, h)

module _ {codes lists : List ℕ} {body own : ℕ} where
  pub from-head : {set other i : ℕ} → i < heads_in lists → body_of_head codes i ≡ body → Within (FromHead codes lists own other set i) (FromHeads codes lists body own (TheOne set other))
  from-head {set} {other} {i} l of k at first second w = record { head = i; low = l; of = of; set = set; other = other; given = (refl, refl); from = w }

  pub from-heads-more : {P Q : ℕ → ℕ → Type 0} → ((X w : ℕ) → P X w → Q X w) → Within (FromHeads codes lists body own P) (FromHeads codes lists body own Q)
  from-heads-more f k at first second w =
      record { head = w.head; low = w.low; of = w.of; set = w.set; other = w.other; given = f w.set w.other w.given; from = w.from }

-- ---- what they give

module _ {codes valid lists : List ℕ} {body : ℕ} where
  pub headed-more : {P Q : Spanned} → ((X s : ℕ) → P X s → Q X s) → (k s : ℕ) → Headed codes valid lists body P k s → Headed codes valid lists body Q k s
  headed-more f k s w =
      record { head = w.head; low = w.low; of = w.of; spans = w.spans; set = w.set; given = f w.set s w.given; key = w.key }

  -- from one or the other
  pub headed-split : {P Q R : Spanned} → ((X s : ℕ) → R X s → P X s ⊎ Q X s) → (k s : ℕ) → Headed codes valid lists body R k s → Headed codes valid lists body P k s ⊎ Headed codes valid lists body Q k s
  headed-split {P} {Q} f k s w = go (f w.set s w.given)
    where
      go : P w.set s ⊎ Q w.set s → Headed codes valid lists body P k s ⊎ Headed codes valid lists body Q k s
      go (inl u) = inl record { head = w.head; low = w.low; of = w.of; spans = w.spans; set = w.set; given = u; key = w.key }
      go (inr u) = inr record { head = w.head; low = w.low; of = w.of; spans = w.spans; set = w.set; given = u; key = w.key }

  pub headed-join : {P Q R : Spanned} → ((X s : ℕ) → P X s ⊎ Q X s → R X s) → (k s : ℕ) → Headed codes valid lists body P k s ⊎ Headed codes valid lists body Q k s → Headed codes valid lists body R k s
  headed-join f k s (inl w) = headed-more (λ X t u. f X t (inl u)) k s w
  headed-join f k s (inr w) = headed-more (λ X t u. f X t (inr u)) k s w

  module _ {limit : ℕ} {keys spans notes : List ℕ} {n : ℕ} {By : Origin} where
    pub headed-none : {slots links : List ℕ} {P : Spanned} → Kept keys spans slots links notes n → n ≤ limit → ((X s : ℕ) → P X s → ⊥) → Gains limit keys spans notes n (Headed codes valid lists body P) By keys spans slots links notes n
    headed-none kept few none = gains-none kept few (λ k s w. none w.set s w.given)

    module _ {keys' spans' slots' links' notes' : List ℕ} {r : ℕ} where
      -- the loop along the heads
      pub headed-all : (set m : ℕ) → Gains limit keys spans notes n (From (body_of_head codes) body (heads_in lists) 0 (ByHead codes valid set m)) By keys' spans' slots' links' notes' r → Gains limit keys spans notes n (Headed codes valid lists body (One set m)) By keys' spans' slots' links' notes' r
      headed-all set m =
          gains-same
          (λ k s w. record { head = w.item; low = w.low; of = w.of; spans = bit-right m (get_or valid w.item 0) s w.gives.1; set = set; given = (refl, bit-left m (get_or valid w.item 0) s w.gives.1); key = w.gives.0 })
          (λ k s w. record { item = w.head; past = zero-le; low = w.low; of = w.of; gives = (w.key ∙ ap (key_of (head_of codes w.head)) w.given.0, bit-both m (get_or valid w.head 0) s w.given.1 w.spans) })

-- a turn of that loop
module _ {limit : ℕ} {keys spans notes : List ℕ} {n : ℕ} {codes lists : List ℕ} {body own other : ℕ} (valid : List ℕ) (set m : ℕ) {keys' spans' slots' links' notes' : List ℕ} {r c : ℕ} (a : Along limit keys spans notes n (body_of_head codes) body (heads_in lists) (ByHead codes valid set m) (FromHeads codes lists body own (TheOne set other)) keys' spans' slots' links' notes' r c) (nz : c ≡ 0 → ⊥) {keys'' spans'' slots'' links'' notes'' : List ℕ} {t : ℕ} (b : Gains limit keys' spans' notes' r (ByHead codes valid set m (c - 1)) (FromHead codes lists own other set (c - 1)) keys'' spans'' slots'' links'' notes'' t) where
  by : Gains limit keys' spans' notes' r (ByHead codes valid set m (c - 1)) (FromHeads codes lists body own (TheOne set other)) keys'' spans'' slots'' links'' notes'' t
  by = gains-by (from-head (a.on nz).0 (a.on nz).1) b

  pub heads-over : limit < t → Gains limit keys spans notes n (Headed codes valid lists body (One set m)) (FromHeads codes lists body own (TheOne set other)) keys'' spans'' slots'' links'' notes'' t
  heads-over l = headed-all set m (along-over a nz by (λ k s w. w) l)

  pub heads-turn : {p : ℕ} → t ≤ limit → p ≡ latest (body_of_head codes) body (c - 1) → Along limit keys spans notes n (body_of_head codes) body (heads_in lists) (ByHead codes valid set m) (FromHeads codes lists body own (TheOne set other)) keys'' spans'' slots'' links'' notes'' t p
  heads-turn = along-next a nz by (λ k s w. w) (λ k s w. w)

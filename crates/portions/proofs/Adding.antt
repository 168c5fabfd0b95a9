-- All sets that wait are added to the heads of a body, one after the other.
use mathlib.Core.Path.{◌≡◌, sym, ap, ◌∙◌, subst}
use mathlib.Core.Logic.{◌⊎◌, inl, inr}
use mathlib.Core.List.{List}
use Prim.Native.Nat.{ℕ, ◌+◌, ◌≤◌, ◌<◌}
use native.Mathlib.Omega.{arith}
use lib.ListN.{get_or}
use Rattle.meaning.specs.Table.{bit}
use Rattle.store.specs.Entries.{role_in, set_in}
use Rattle.store.proofs.Chains.{equal_or_not}
use Rattle.heads.specs.Gaining.{Gains}
use Rattle.heads.specs.Heads.{One, Headed, FromHeads, TheOne}
use Rattle.heads.proofs.Gaining.{gains-by, gains-same, gains-over, gains-then}
use Rattle.heads.proofs.Heads.{headed-more, headed-split, headed-join, from-heads-more}
use Rattle.waiting.specs.Waiting.{Waits, Partnered}

module _ (places : List ℕ) where
  -- place i is the last
  waits-next : (i X s : ℕ) → Waits places (i + 1) X s → Waits places i X s ⊎ One (set_in (get_or places i 0)) (get_or places (24 + i) 0) X s
  waits-next i X s w = go (equal_or_not w.place i)
    where
      go : (w.place ≡ i) ⊎ (w.place ≡ i → ⊥) → Waits places i X s ⊎ One (set_in (get_or places i 0)) (get_or places (24 + i) 0) X s
      go (inl q) = inr (w.set ∙ ap (λ (j : ℕ). set_in (get_or places j 0)) q, subst (λ (j : ℕ). bit (get_or places (24 + j) 0) s ≡ 1) q w.spans)
      go (inr ne) = inl record { place = w.place; low = let l = w.low in omega arith; set = w.set; spans = w.spans }

  next-waits : (i X s : ℕ) → Waits places i X s ⊎ One (set_in (get_or places i 0)) (get_or places (24 + i) 0) X s → Waits places (i + 1) X s
  next-waits i X s (inl w) = record { place = w.place; low = let l = w.low in omega arith; set = w.set; spans = w.spans }
  next-waits i X s (inr (e, b)) = record { place = i; low = omega arith; set = e; spans = b }

  waits-more : (i count : ℕ) → i ≤ count → (X s : ℕ) → Waits places i X s → Waits places count X s
  waits-more i count l X s w = record { place = w.place; low = let k = w.low in omega arith; set = w.set; spans = w.spans }

  module _ {limit : ℕ} {keys spans notes : List ℕ} {n : ℕ} {codes valid lists : List ℕ} {body own count : ℕ} {keys' spans' slots' links' notes' keys'' spans'' slots'' links'' notes'' : List ℕ} {r t : ℕ} {set other : ℕ} (i : ℕ) (low : i < count) (e : set ≡ set_in (get_or places i 0)) (f : other ≡ role_in (get_or places i 0)) (g : Gains limit keys spans notes n (Headed codes valid lists body (Waits places i)) (FromHeads codes lists body own (Partnered places count)) keys' spans' slots' links' notes' r) (few : r ≤ limit) (a : Gains limit keys' spans' notes' r (Headed codes valid lists body (One set (get_or places (24 + i) 0))) (FromHeads codes lists body own (TheOne set other)) keys'' spans'' slots'' links'' notes'' t) where
    -- the set at place i, with its partner
    this : Gains limit keys' spans' notes' r (Headed codes valid lists body (One (set_in (get_or places i 0)) (get_or places (24 + i) 0))) (FromHeads codes lists body own (Partnered places count)) keys'' spans'' slots'' links'' notes'' t
    this =
        gains-same (headed-more (λ X s w. (w.0 ∙ e, w.1))) (headed-more (λ X s w. (w.0 ∙ sym e, w.1)))
        (gains-by (from-heads-more (λ X w q. record { place = i; low = low; set = q.0 ∙ e; word = q.1 ∙ f })) a)

    pub added_next : Gains limit keys spans notes n (Headed codes valid lists body (Waits places (i + 1))) (FromHeads codes lists body own (Partnered places count)) keys'' spans'' slots'' links'' notes'' t
    added_next = gains-same (headed-join (next-waits i)) (headed-split (waits-next i)) (gains-then g few this)

    pub added-over : limit < t → Gains limit keys spans notes n (Headed codes valid lists body (Waits places count)) (FromHeads codes lists body own (Partnered places count)) keys'' spans'' slots'' links'' notes'' t
    added-over m = gains-over (headed-more (waits-more (i + 1) count (omega arith))) m added_next

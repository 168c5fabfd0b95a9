-- The walkers of one file: a credential stands at each place below the limit, and the end at the limit.
use mathlib.Core.Path.{◌≡◌, refl, sym, ap, ◌∙◌}
use mathlib.Core.Bool.{Bool, true, false}
use mathlib.Core.Logic.{dite}
use mathlib.Core.List.{List}
use Prim.Native.Nat.{ℕ, suc, ◌<◌, ◌≤◌}
use native.Mathlib.Decide.{dec_lt}
use native.Mathlib.Numerals.{add-one}
use native.Mathlib.Omega.{arith}
use lib.Dec.{eqb}
use denote.Ref.{Bor}
use Rattle.meaning.specs.Lists.{if}
use Rattle.file.specs.Format.{N}
use Rattle.file.specs.Refusals.{done, refused}
use Rattle.file.specs.Reading.{read, reading}
use Rattle.file.specs.Values.{found_in, refusal_of}
use Rattle.file.specs.Conditions.{Accepted}
use Rattle.file.specs.declared.Found.{Found}
use Rattle.file.specs.declared.Found.TheVariants.{Credential, End}
use Rattle.file.specs.declared.Refusal.{Refusal}
use Rattle.file.proofs.First.{outcome_of, first-refusal}
use Rattle.file.proofs.Refusals.{accepted-exact}
use Rattle.file.proofs.Accepted.{accepted-found, accepted-end}
use Rattle.file.proofs.Rows.{reading-numbered}
use Rattle.walker.specs.Walking.{opened, found_at, following, next_of}
use Rattle.walker.specs.declared.Walker.{Walker}
use Rattle.walker.proofs.Places.{found_below}
use Rattle.walks.specs.Walks.{stands, counted_as, count_out, count_in}

-- the walker of a file at place k
abbrev pub walker_on : Bor (List ℕ) → ℕ → Walker
walker_on s k = record { file = s; at = k; number = (opened s.now).number; place = (opened s.now).place }

-- the place of the end: N, and 0 where the file is refused
abbrev pub limit : List ℕ → ℕ
limit f = if (eqb (opened f).number 0) (N f) 0

-- what a walker finds at place k
abbrev pub found_on : List ℕ → ℕ → Found
found_on f k = found_at f k (opened f).number

not-both : {b : Bool} → b ≡ true → b ≡ false → ⊥
not-both p q = let z : true ≡ false = sym p ∙ q in let n : ◌≡◌ {A = ℕ} 0 1 = cc in absurd (omega arith)

module _ (f : List ℕ) where
  by-refusal : {A : Type 0} (a : A) → read f a ≡ outcome_of (opened f) a
  unfolding reading
  by-refusal a = first-refusal (reading f) a (reading-numbered f)

  module _ (z : eqb (opened f).number 0 ≡ true) where
    accepted : Accepted f
    accepted = (accepted-exact {A = ℕ} 0 f).0 (by-refusal 0 ∙ rw z refl)

    found-at : (k : ℕ) → found_on f k ≡ found_in f k
    found-at k = ap (λ (b : Bool). if b (found_in f k) End) z

  -- a credential stands only below the limit
  pub standing : (k : ℕ) → stands (found_on f k) ≡ true → k < limit f
  standing k s = go (eqb (opened f).number 0) refl
    where
      go : (b : Bool) → eqb (opened f).number 0 ≡ b → k < limit f
      go true z =
          let l : limit f ≡ N f = ap (λ (b : Bool). if b (N f) 0) z in
          dite (dec_lt k (N f)) (λ h. omega arith) (λ h. absurd (not-both s (ap stands (found-at z k ∙ accepted-end f (accepted z) k (omega arith)))))
      go false z = absurd (not-both s (ap (λ (b : Bool). stands (if b (found_in f k) End)) z))

  -- and at every place below it
  pub ended : (k : ℕ) → k ≤ limit f → stands (found_on f k) ≡ false → k ≡ limit f
  ended k h s = go (eqb (opened f).number 0) refl
    where
      go : (b : Bool) → eqb (opened f).number 0 ≡ b → k ≡ limit f
      go true z =
          let l : limit f ≡ N f = ap (λ (b : Bool). if b (N f) 0) z in
          dite (dec_lt k (N f)) (λ low. absurd (not-both (ap stands (found-at z k ∙ (accepted-found f (accepted z) k low).found)) s)) (λ high. omega arith)
      go false z = let l : limit f ≡ 0 = ap (λ (b : Bool). if b (N f) 0) z in omega arith

  -- a walk has at most 256 steps
  pub standing-low : (k : ℕ) → stands (found_on f k) ≡ true → k < 256
  standing-low k s = go (found_on f k) refl
    where
      go : (x : Found) → found_on f k ≡ x → k < 256
      go (Credential c) e = found_below f k (opened f).number c e
      go End e = absurd (not-both s (ap stands e))

  -- number and place of the refusal, and the place of the end, are what is counted
  pub count-read : counted_as (opened f) (limit f) ≡ count_in f
  count-read = go (eqb (opened f).number 0) refl ∙ sym (ap count_out (by-refusal (N f)))
    where
      go : (b : Bool) → eqb (opened f).number 0 ≡ b → counted_as (opened f) (limit f) ≡ count_out (outcome_of (opened f) (N f))
      go true z =
          let o : opened f ≡ record { number = 0; place = 0 } = ap (refusal_of {A = ℕ}) (by-refusal 0 ∙ ap (λ (b : Bool). if b (done 0) (refused (opened f).number (opened f).place)) z) in
          ap (λ (b : Bool). counted_as (opened f) (if b (N f) 0)) z ∙ ap (λ (r : Refusal). counted_as r (N f)) o
          ∙ sym (ap (λ (b : Bool). count_out (if b (done (N f)) (refused (opened f).number (opened f).place))) z)
      go false z =
          ap (λ (b : Bool). counted_as (opened f) (if b (N f) 0)) z
          ∙ sym (ap (λ (b : Bool). count_out (if b (done (N f)) (refused (opened f).number (opened f).place))) z)

-- where a credential stands, the next walker is at the next place
pub moved_on : (s : Bor (List ℕ)) (k : ℕ) → stands (found_on s.now k) ≡ true → next_of (walker_on s k) ≡ walker_on s (suc k)
moved_on s k h = go (found_on s.now k) refl
  where
    at_place : Found → Walker
    at_place x = walker_on s (following x k)

    go : (x : Found) → found_on s.now k ≡ x → next_of (walker_on s k) ≡ walker_on s (suc k)
    go (Credential c) e = ap at_place e ∙ ap (walker_on s) (add-one k)
    go End e = absurd (not-both h (ap stands e))

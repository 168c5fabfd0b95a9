-- What walking a file is shown to mean: an accepted file's credentials one after the other, and then the end; a refused one's refusal and the end.
-- Other crates have the walkers that `walk` gives, and those that `next` gives from them: `steps k (walker_of f)`.
use mathlib.Core.Path.{◌≡◌, refl, ap, ◌∙◌}
use mathlib.Core.List.{List}
use Prim.Native.Nat.{ℕ, zero, suc, ◌<◌, ◌≤◌}
use native.Mathlib.Nat.{le_refl}
use native.Mathlib.Numerals.{add-one}
use native.Mathlib.Omega.{arith}
use borrow.Author.Tests.{ne_eqb}
use denote.Ref.{Bor}
use Rattle.file.specs.Refusals.{Outcome, number_of, place_of}
use Rattle.file.specs.Format.{N}
use Rattle.file.specs.Values.{found_in, refusal_of, Read}
use Rattle.file.specs.Conditions.{Accepted, Refused}
use Rattle.file.specs.declared.Found.{Found}
use Rattle.file.specs.declared.Found.TheVariants.{End}
use Rattle.file.proofs.Refusals.{refused-read, accepted-read}
use Rattle.file.proofs.Accepted.{accepted-found, accepted-end}
use Rattle.walker.specs.Walking.{walker_of, following, next_of, credential_of, refusal_in}
use Rattle.walker.specs.declared.Walker.{Walker}

-- a walker that is not refused, at place k
abbrev pub walker_at : Bor (List ℕ) → ℕ → Walker
walker_at f k = record { file = f; at = k; number = 0; place = 0 }

-- a walker after k steps
abbrev pub steps : ℕ → Walker → Walker
steps zero w = w
steps (suc k) w = next_of (steps k w)

-- each step keeps the refusal
kept : (k : ℕ) (w : Walker) → refusal_in (steps k w) ≡ refusal_in w
kept zero w = refl
kept (suc k) w = kept k w

module _ (f : Bor (List ℕ)) where
  module _ (a : Accepted f.now) where
    starts : walker_of f ≡ walker_at f 0
    starts = ap (λ (o : Outcome ℕ). record { file = f; at = 0; number = number_of o; place = place_of o }) (accepted-read 0 f.now a)

    moves : (k : ℕ) → k < N f.now → next_of (walker_at f k) ≡ walker_at f (suc k)
    moves k h =
        let c = accepted-found f.now a k h in
        ap (λ (x : Found). walker_at f (following x k)) c.found ∙ ap (walker_at f) (add-one k)

    -- From the start, k steps lead to credential k, for k up to N.
    pub walked_to : (k : ℕ) → k ≤ N f.now → steps k (walker_of f) ≡ walker_at f k
    walked_to zero h = starts
    walked_to (suc k) h = ap next_of (walked_to k (omega arith)) ∙ moves k h

    -- At place k below N stands credential k of the file.
    pub walked-credential : (k : ℕ) → k < N f.now → (credential_of (walker_at f k) ≡ found_in f.now k) × Read f.now k
    walked-credential k h = (refl, accepted-found f.now a k h)

    -- Place N is the end.
    pub walked_end : credential_of (walker_at f (N f.now)) ≡ End
    walked_end = accepted-end f.now a (N f.now) (le_refl (N f.now))

    -- An accepted file's walkers carry number 0 and place 0.
    pub accepted-walker : (k : ℕ) → refusal_in (steps k (walker_of f)) ≡ record { number = 0; place = 0 }
    accepted-walker k = kept k (walker_of f) ∙ ap refusal_of (accepted-read 0 f.now a)

  -- A refused file's walkers carry exactly the refusal's number and place.
  pub refused-walker : {n p : ℕ} → Refused f.now n p → (k : ℕ) → refusal_in (steps k (walker_of f)) ≡ record { number = n; place = p }
  refused-walker r k = kept k (walker_of f) ∙ ap refusal_of (refused-read 0 f.now r)

-- A walker that carries a refusal is at its end.
pub refused_end : (w : Walker) → ((refusal_in w).number ≡ 0 → ⊥) → credential_of w ≡ End
refused_end w h = rw (ne_eqb w.number 0 h) refl

-- At the end, of any walker, the next walker is the same walker.
pub end_stays : (w : Walker) → credential_of w ≡ End → next_of w ≡ w
end_stays w e = ap (λ (x : Found). record { file = w.file; at = following x w.at; number = w.number; place = w.place }) e

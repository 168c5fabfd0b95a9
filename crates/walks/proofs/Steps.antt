-- A walker's turn, by its place: what it finds there, and the walker at the next place.
use mathlib.Core.Path.{◌≡◌, sym, ap, ◌∙◌}
use mathlib.Core.Bool.{true}
use mathlib.Core.List.{List}
use Prim.Native.Nat.{ℕ, ◌+◌}
use native.Mathlib.Numerals.{add-one}
use denote.Ref.{Bor}
use Rattle.file.specs.declared.Refusal.{Refusal}
use Rattle.walker.specs.Walking.{opened, next_of, credential_of, refusal_in}
use Rattle.walker.specs.declared.Walker.{Walker}
use Rattle.walks.specs.Walks.{stands}
use Rattle.walks.proofs.Places.{walker_on, found_on, moved_on}

module _ (w : Walker) (f : List ℕ) (n : ℕ) (at : w ≡ walker_on w.file n) (same : w.file.now ≡ f) where
  pub stands-at : stands (credential_of w) ≡ stands (found_on f n)
  stands-at = ap (λ (v : Walker). stands (credential_of v)) at ∙ ap (λ (g : List ℕ). stands (found_on g n)) same

  pub refusal-at : refusal_in w ≡ opened f
  refusal-at = ap refusal_in at ∙ ap opened same

  pub moved : (v : Walker) → v ≡ next_of w → stands (found_on f n) ≡ true → (v ≡ walker_on v.file (n + 1)) × (v.file.now ≡ f)
  moved v q h =
      let s : Bor (List ℕ) = w.file in
      let e : v ≡ walker_on s (n + 1) = q ∙ ap next_of at ∙ moved_on s n (ap (λ (g : List ℕ). stands (found_on g n)) same ∙ h) ∙ ap (walker_on s) (sym (add-one n)) in
      let file : v.file ≡ s = ap (λ (u : Walker). u.file) e in
      (e ∙ ap (λ (t : Bor (List ℕ)). walker_on t (n + 1)) (sym file), ap (λ (t : Bor (List ℕ)). t.now) file ∙ same)

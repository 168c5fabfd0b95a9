-- An entry gives by both its families, one after the other.
use mathlib.Core.Path.{◌≡◌, ap, ◌∙◌}
use mathlib.Core.Logic.{◌⊎◌, inl, inr}
use mathlib.Core.List.{List}
use Prim.Native.Nat.{ℕ, ◌+◌, ◌%◌, ◌≤◌, ◌<◌, zero-le}
use native.Mathlib.Omega.{arith}
use lib.ListN.{get_or}
use Rattle.store.specs.Entries.{role_in}
use Rattle.rules.specs.Uses.{Listed}
use Rattle.rules.proofs.UseLaws.{first_body, use-family}
use Rattle.heads.specs.Gaining.{Spanned, Origin, Kept, Gains}
use Rattle.heads.proofs.Gaining.{gains-by, gains-none, gains-same, gains-over, gains-then}
use Rattle.closure.specs.Closure.{Held}
use Rattle.firing.specs.Firing.{Fires, FromFamily}
use Rattle.firing.proofs.Firings.{fires-before, fires-after, from-family-before}
use Rattle.giving.specs.Giving.{FiresBoth, FromEntry}

-- what is added keeps the done spans in order
pub held_after : {limit : ℕ} {keys spans slots links notes done keys' spans' slots' links' notes' : List ℕ} {n r : ℕ} {New : Spanned} {By : Origin} → Held keys spans slots links notes done n → Gains limit keys spans notes n New By keys' spans' slots' links' notes' r → r ≤ limit → Held keys' spans' slots' links' notes' done r
held_after h g l = record { kept = g.kept l; room = h.room; fresh = λ j m. h.fresh j (let f = (g.grown l).more in omega arith) }

-- a family without bodies adds nothing
pub no-bodies : {limit e x family c n : ℕ} {keys spans slots links notes done codes valid lists : List ℕ} → Listed codes valid lists → Kept keys spans slots links notes n → n ≤ limit → family < 1056 → c ≡ get_or lists (512 + family) 0 → c ≡ 0 → Gains limit keys spans notes n (Fires codes valid lists keys done n e x family) (FromFamily codes lists keys done n e family) keys spans slots links notes n
no-bodies {family} l kept few low q z =
    let w = first_body l family low in
    gains-none kept few (λ k s f. w.none f.listed.body (rw (← q, z) zero-le) f.listed.low.0 (use-family f.fitting f.listed ∙ f.here))

-- the role's family gave, or there was no room
module _ {keys spans slots links notes done : List ℕ} {n : ℕ} (h : Held keys spans slots links notes done n) (e : ℕ) (low : e < n) {codes valid lists : List ℕ} {limit d role : ℕ} (own : role ≡ role_in (get_or keys e 0)) {keys' spans' slots' links' notes' : List ℕ} {r : ℕ} (g : Gains limit keys spans notes n (Fires codes valid lists keys done n e d role) (FromFamily codes lists keys done n e role) keys' spans' slots' links' notes' r) where
  -- too many already
  pub families-over : limit < r → Gains limit keys spans notes n (FiresBoth codes valid lists keys done n e d) (FromEntry codes lists keys done n e) keys' spans' slots' links' notes' r
  families-over o = gains-over (λ k s w. inl (rw own at w)) o g

  -- and links by its name
  pub families-both : r ≤ limit → {keys'' spans'' slots'' links'' notes'' : List ℕ} {t : ℕ} → Gains limit keys' spans' notes' r (Fires codes valid lists keys' done r e d (1024 + role % 32)) (FromFamily codes lists keys' done r e (1024 + role % 32)) keys'' spans'' slots'' links'' notes'' t → Gains limit keys spans notes n (FiresBoth codes valid lists keys done n e d) (FromEntry codes lists keys done n e) keys'' spans'' slots'' links'' notes'' t
  families-both m l =
      gains-same to from
      (gains-then (gains-by (λ k at first second w. (role, inl own, w)) g) m
      (gains-by (λ k at first second w. (1024 + role % 32, inr (ap (λ (x : ℕ). 1024 + x % 32) own), from-family-before done (g.grown m) h.fresh e low k at first second w))
      (gains-same (fires-before done (g.grown m) h.fresh e low codes valid lists d (1024 + role % 32)) (fires-after done (g.grown m) h.fresh e low codes valid lists d (1024 + role % 32)) l)))
    where
      Parts : Spanned
      Parts k s = Fires codes valid lists keys done n e d role k s ⊎ Fires codes valid lists keys done n e d (1024 + role % 32) k s

      to : (k s : ℕ) → Parts k s → FiresBoth codes valid lists keys done n e d k s
      to k s w = rw own at w

      from : (k s : ℕ) → FiresBoth codes valid lists keys done n e d k s → Parts k s
      from k s w = rw own w

-- All slots and all links are 0, so there are no entries.
use mathlib.Core.Path.{◌≡◌, refl, ap, ◌∙◌}
use mathlib.Core.List.{List}
use Prim.Native.Nat.{ℕ}
use native.Mathlib.Nat.{not-suc-le-zero}
use Rattle.std.proofs.Common.{rules}
use lib.ListN.{length, replicate}
use Rattle.store.proofs.Stores.{empty-stored}
use Rattle.loading.proofs.Blank.{zero-at, zeros-length}
use Rattle.finding.proofs.clear.Goals as goal

zeros : (n : ℕ) (l : List ℕ) {l' : List ℕ} → length l ≡ n → l' ≡ replicate (length l) 0 → l' ≡ replicate n 0
zeros n l e z = z ∙ ap (λ (k : ℕ). replicate k 0) e

pub returns : goal.returns
returns c =
    let s = c.args.store.now in
    let slots = zeros 3072 s.slots (search rules) (c.fill.ensures.after (λ y e. search rules)) in
    let links = zeros 2048 s.links (search rules) (c.fill-2.ensures.after (λ y e. search rules)) in (
      record {
        stored = empty-stored s.keys c.fill.new.self c.fill-2.new.self (search rules) (zeros-length 3072 slots) (zeros-length 2048 links) (λ p _. zero-at 3072 slots p) (λ p _. zero-at 2048 links p);
        room = (search rules, search rules);
        some = λ i o. absurd (not-suc-le-zero o);
        leveled = λ i o. absurd (not-suc-le-zero o);
      },
      refl,
    )

-- Lists of zeros: a store without entries, and no uses.
use mathlib.Core.Path.{◌≡◌, ap, ◌∙◌}
use mathlib.Core.List.{List}
use Prim.Native.Nat.{ℕ}
use native.Mathlib.Nat.{not-suc-le-zero}
use lib.ListN.{length, get_or, replicate, length-replicate}
use Rattle.meaning.proofs.ListLaws.{zeros-at}
use Rattle.store.proofs.Stores.{empty-stored}
use Rattle.heads.specs.Gaining.{Kept}
use Rattle.loading.specs.Loading.{NoUses}

module _ {l : List ℕ} (n : ℕ) (e : l ≡ replicate n 0) where
  pub zero-at : (i : ℕ) → get_or l i 0 ≡ 0
  zero-at i = ap (λ (x : List ℕ). get_or x i 0) e ∙ zeros-at n i

  pub zeros-length : length l ≡ n
  zeros-length = ap length e ∙ length-replicate {A = ℕ} n 0

pub no-entries : {keys spans slots links notes : List ℕ} → keys ≡ replicate 1024 0 → spans ≡ replicate 1024 0 → slots ≡ replicate 3072 0 → links ≡ replicate 2048 0 → notes ≡ replicate 3072 0 → Kept keys spans slots links notes 0
no-entries {keys} {slots = slots} {links = links} k s t l w =
    record {
      stored = empty-stored keys slots links (zeros-length 1024 k) (zeros-length 3072 t) (zeros-length 2048 l) (λ p _. zero-at 3072 t p) (λ p _. zero-at 2048 l p);
      room = (zeros-length 1024 s, zeros-length 3072 w);
      some = λ i o. absurd (not-suc-le-zero o);
      leveled = λ i o. absurd (not-suc-le-zero o);
    }

pub no-uses : {codes valid lists : List ℕ} → codes ≡ replicate 1024 0 → valid ≡ replicate 512 0 → lists ≡ replicate 3106 0 → NoUses codes valid lists
no-uses c v l = record { room = (zeros-length 1024 c, zeros-length 512 v, zeros-length 3106 l); none = λ p _. zero-at 3106 l p }

-- The part of a list from an index on, when it has come back from a call that filled it with zeros.
use mathlib.Core.Path.{◌≡◌, ap, ◌∙◌}
use mathlib.Core.List.{List, ◌++◌, append-nil}
use Prim.Native.Nat.{ℕ, ◌-◌, ◌≤◌}
use native.Mathlib.Nat.{le_refl}
use lib.ListN.{length, take, replicate}
use lib.Seq.{drop-length}
use borrow.Rule.Slice.PartMut.{mid_of, put_mid, Post-is, mid_len}

-- the part from k on is zero
pub tail-cleared : (k : ℕ) (l t : List ℕ) → k ≤ length l → t ≡ replicate (length (mid_of k (length l - k) l)) 0 → put_mid k (length l - k) l t ≡ take k l ++ replicate (length l - k) 0
tail-cleared k l t h e =
    ap (λ (x : List ℕ). take k l ++ x)
    (ap (λ (x : List ℕ). t ++ x) (Post-is k (length l) l h ∙ drop-length l) ∙ append-nil t ∙ e
    ∙ ap (λ (n : ℕ). replicate n 0) (mid_len k (length l) l (le_refl (length l))))

-- Lists that agree from a place on.
use mathlib.Core.Path.{◌≡◌, sym, ap, ◌∙◌}
use mathlib.Core.List.{List}
use Prim.Native.Nat.{ℕ, ◌+◌, ◌-◌, ◌≤◌}
use native.Mathlib.Omega.{arith}
use lib.ListN.{drop}
use lib.Seq.{drop-drop}

-- lists that agree from i on agree from any later place on
pub drop-later : (i r : ℕ) (a b : List ℕ) → i ≤ r → drop i a ≡ drop i b → drop r a ≡ drop r b
drop-later i r a b h e =
    let n : i + (r - i) ≡ r = omega arith in
    let later : (l : List ℕ) → drop (r - i) (drop i l) ≡ drop r l = λ (l : List ℕ). drop-drop (r - i) i l ∙ ap (λ (k : ℕ). drop k l) n in
    sym (later a) ∙ ap (drop (r - i)) e ∙ later b

-- A body's code and a head's code: what is in them, and that fitting uses with equal codes are equal.
--
use mathlib.Core.Path.{◌≡◌, sym, ap, ◌∙◌}
use Prim.Native.Nat.{ℕ, ◌%◌, ◌<◌}
use native.Mathlib.Omega.{arith}
use Rattle.rules.specs.declared.Use.{Use}
pub use Rattle.rules.specs.Uses.{kind_in, other_in}
use Rattle.rules.specs.Uses.{use_of, body_code, head_code, family_in, body_in, Fitting}

-- the head in a code
abbrev pub head_in : ℕ → ℕ
head_in code = code % 1024

module _ (f k o : ℕ) (hk : k < 8) (ho : o < 1024) where
  pub family-in-code : family_in (body_code f k o) ≡ f
  family-in-code = omega arith

  pub kind-in-code : kind_in (body_code f k o) ≡ k
  kind-in-code = omega arith

  pub other-in-code : other_in (body_code f k o) ≡ o
  other-in-code = omega arith

module _ (b head : ℕ) (h : head < 1024) where
  pub body-in-code : body_in (head_code b head) ≡ b
  body-in-code = omega arith

  pub head-in-code : head_in (head_code b head) ≡ head
  head-in-code = omega arith

-- every number is the code of what is in it
pub body-code-of : (code : ℕ) → code ≡ body_code (family_in code) (kind_in code) (other_in code)
body-code-of code = omega arith

pub head-code-of : (code : ℕ) → code ≡ head_code (body_in code) (head_in code)
head-code-of code = omega arith

-- equal codes, equal uses
pub same-use : (u w : Use) → Fitting u → Fitting w → body_code w.family w.kind w.other ≡ body_code u.family u.kind u.other → w.head ≡ u.head → w ≡ u
same-use u w fu fw e g =
    let f : w.family ≡ u.family = sym (family-in-code w.family w.kind w.other fw.kind fw.other) ∙ ap family_in e ∙ family-in-code u.family u.kind u.other fu.kind fu.other in
    let k : w.kind ≡ u.kind = sym (kind-in-code w.family w.kind w.other fw.kind fw.other) ∙ ap kind_in e ∙ kind-in-code u.family u.kind u.other fu.kind fu.other in
    let o : w.other ≡ u.other = sym (other-in-code w.family w.kind w.other fw.kind fw.other) ∙ ap other_in e ∙ other-in-code u.family u.kind u.other fu.kind fu.other in
    let p : use_of w.family w.kind w.other w.head ≡ use_of u.family u.kind u.other u.head = rw (f, k, o, g) in
    p

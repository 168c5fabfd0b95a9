-- What the notation is shown to mean.
use mathlib.Core.Path.{◌≡◌, ap, subst}
use mathlib.Core.Bool.{Bool, true, false}
use mathlib.Core.Option.{Option, none, some}
use mathlib.Core.List.{List, [], ◌∷◌, ◌++◌}
use Prim.Native.Nat.{ℕ, ◌^◌, ◌<◌}
use native.Mathlib.Omega.{arith}
use lib.Dec.{T}
use Rattle.meaning.specs.Lists.{if}
use Rattle.meaning.specs.Members.{entity, single}
use Rattle.meaning.proofs.Bits.{trailing-entity}
use Rattle.text.specs.Lines.{decimal, field, label}
use Rattle.file.specs.Format.{field as Format·field, serial_of, from_of, to_of, role_of, body_in}
use Rattle.file.specs.Values.{period_in, readable, value_of, found_of, found_in}
use Rattle.file.specs.declared.Found.TheVariants.{Credential, End}
use Rattle.file.specs.declared.Credential as D
use Rattle.file.specs.declared.Body.{Body}
use Rattle.file.specs.declared.Body.TheVariants.{Set}
use Rattle.notation.specs.Notation.{body_text, statement_text, period_text, credential_line}

-- A body that is a set of one entity is written as that entity's number.
pub set-text : (X : ℕ) → X < 2 ^ 32 → T (single X) → body_text (Set X) ≡ decimal (entity X)
set-text X h t = ap decimal (trailing-entity X h t)

-- The period of a credential is written as from and to of the credential's own bytes.
pub dates-text : (f : List ℕ) (i : ℕ) → period_text (period_in f i) ≡ field (from_of f i) 46 ++ (46 ∷ field (to_of f i) 10)
dates-text f i = ap (λ (x : ℕ). field (from_of f i) 46 ++ (46 ∷ field x 10)) (omega arith)

-- The line of what is read at a position has, after the position and #, the serial, then head, body, from and to, all of the credential's own bytes.
pub line-text : (f : List ℕ) (i : ℕ) (c : D.Credential) → found_in f i ≡ Credential c → credential_line i c
    ≡ label i ++ ((35 ∷ (field (serial_of f i) 44 ++ 32 ∷ []))
    ++ (statement_text (role_of (Format·field f i 1) (Format·field f i 2)) c.body ++ (44 ∷ 32 ∷ (field (from_of f i) 46 ++ (46 ∷ field (to_of f i) 10)))))
line-text f i c e = by-readable (readable f i) (body_in f i) e
  where
    text : D.Credential → List ℕ → List ℕ
    text v dates =
        label i ++ ((35 ∷ (field (serial_of f i) 44 ++ 32 ∷ [])) ++ (statement_text (role_of (Format·field f i 1) (Format·field f i 2)) v.body ++ (44 ∷ 32 ∷ dates)))

    Line : D.Credential → Type 0
    Line v = credential_line i v ≡ text v (field (from_of f i) 46 ++ (46 ∷ field (to_of f i) 10))

    by-body : (o : Option Body) → found_of f i o ≡ Credential c → Line c
    by-body none e = let z : ◌≡◌ {A = ℕ} 0 1 = cc in absurd (omega arith)
    by-body (some b) e = let q : value_of f i b ≡ c = cc in subst Line q (ap (text (value_of f i b)) (dates-text f i))

    by-readable : (b : Bool) (o : Option Body) → if b (found_of f i o) End ≡ Credential c → Line c
    by-readable true o e = by-body o e
    by-readable false o e = let z : ◌≡◌ {A = ℕ} 0 1 = cc in absurd (omega arith)

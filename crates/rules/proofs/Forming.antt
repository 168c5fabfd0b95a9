-- For callers: an added use that is proper leaves the bodies formed.
use mathlib.Core.Path.{◌≡◌, ap, ◌∙◌}
use mathlib.Core.Logic.{◌⊎◌, inl, inr}
use mathlib.Core.List.{List}
use Prim.Native.Nat.{ℕ, ◌≤◌, ◌<◌}
use lib.ListN.{get_or}
use Rattle.rules.specs.declared.Use.{Use}
use Rattle.rules.specs.Uses.{body_code, family_in, kind_in, other_in, bodies_in, Proper, Formed, UseAdded}
use Rattle.rules.proofs.CodeLaws.{family-in-code, kind-in-code, other-in-code}

-- what `Formed` asks of one code
record Form (code : ℕ) : Type 0 where
  kinds : (1 ≤ kind_in code) × (kind_in code ≤ 5)
  named : 1024 ≤ family_in code → kind_in code ≡ 2
  names : kind_in code ≡ 2 → family_in code < 1024 → other_in code < 32

proper-form : (u : Use) → Proper u → (code : ℕ) → code ≡ body_code u.family u.kind u.other → Form code
proper-form u p code e =
    let f = ap family_in e ∙ family-in-code u.family u.kind u.other p.fitting.kind p.fitting.other in
    let k = ap kind_in e ∙ kind-in-code u.family u.kind u.other p.fitting.kind p.fitting.other in
    let o = ap other_in e ∙ other-in-code u.family u.kind u.other p.fitting.kind p.fitting.other in
    record { kinds = rw k p.kind; named = rw (f, k) p.named; names = rw (f, k, o) p.name }

pub use-formed : {u : Use} → Proper u → {v source : ℕ} {codes valid lists codes' valid' lists' : List ℕ} → Formed codes lists → UseAdded u v source codes valid lists codes' valid' lists' → Formed codes' lists'
use-formed {u} p {codes = codes} {lists = lists} {codes'} {lists' = lists'} formed a =
    record { kinds = λ i l. (form i l).kinds; named = λ i l. (form i l).named; names = λ i l. (form i l).names }
  where
    form : (i : ℕ) → i < bodies_in lists' → Form (get_or codes' i 0)
    form i l = go (a.coded i l)
      where
        go : (get_or codes' i 0 ≡ body_code u.family u.kind u.other) ⊎ ((i < bodies_in lists) × (get_or codes' i 0 ≡ get_or codes i 0)) → Form (get_or codes' i 0)
        go (inl e) = proper-form u p _ e
        go (inr (k, e)) = rw e record { kinds = formed.kinds i k; named = formed.named i k; names = formed.names i k }

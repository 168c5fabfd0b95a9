-- The answer for a step, by its credential.
use mathlib.Core.Path.{◌≡◌, sym, ap, ◌∙◌, subst}
use mathlib.Core.Bool.{Bool, true, false, ◌&&◌}
use mathlib.Core.List.{List}
use Prim.Native.Nat.{ℕ, ◌<◌, ◌≤◌}
use native.Mathlib.Omega.{arith}
use borrow.Author.Tests.{lt-ltb, le-ltb}
use lib.Dec.{ltb}
use lib.ListN.{length}
use Rattle.meaning.specs.Credentials.{Credential, credential_at, covers}
use Rattle.meaning.specs.Proofs.{Step, Shown, cites_first, cites_second, citable, first_of, second_of, follows, keeps, showing}
use Rattle.policy.specs.declared.Statement.{Statement}
use Rattle.policy.specs.Policy.{credential_of, credentials_of, statement_in}
use Rattle.policy.proofs.Policies.{length-of, credential-of}
use Rattle.steps.specs.Steps.{unkept, Decides, Judges}
use Rattle.steps.specs.declared.Judged.{Judged}
use Rattle.steps.proofs.Deciding.{unheld}

module _ (p : List ℕ) (n m : ℕ) (before : List Shown) (s : Step) (r : Judged) where
  abbrev cs : List Credential
  cs = credentials_of p n

  abbrev tests : Credential → Bool
  tests c = ltb s.credential (length cs) && keeps m c before s

  breaks : tests (credential_at cs s.credential) ≡ false → r ≡ unkept → Judges cs m before s r
  breaks e u =
      let h : r.holds ≡ false = ap (λ (x : Judged). x.holds) u in
      let v : r.level ≡ 0 = ap (λ (x : Judged). x.level) u in
      record { holds = h ∙ sym e; shows = λ t. unheld h t; low = omega arith }

  pub no-credential : n ≤ s.credential → r ≡ unkept → Judges cs m before s r
  no-credential l =
      let k = length-of p n in
      breaks (ap (λ (b : Bool). b && keeps m (credential_at cs s.credential) before s) (le-ltb s.credential (length cs) (omega arith)))

  module _ (l : s.credential < n) where
    abbrev c : Credential
    c = credential_of p s.credential

    named : tests (credential_at cs s.credential) ≡ keeps m c before s
    named =
        let k = length-of p n in
        ap tests (credential-of p n s.credential l) ∙ ap (λ (b : Bool). b && keeps m c before s) (lt-ltb s.credential (length cs) (omega arith))

    -- by whether the credential is valid
    at-minute : {v : Bool} → covers c.period m ≡ v
        → tests (credential_at cs s.credential)
        ≡ (v && citable (cites_first c.statement.body) before s.first && citable (cites_second c.statement.body) before s.second
        && follows c.statement.body (first_of c.statement.body before s) (second_of c.statement.body before s) s.set)
    at-minute e =
        named
        ∙ ap
        (λ (v : Bool). v && citable (cites_first c.statement.body) before s.first && citable (cites_second c.statement.body) before s.second
        && follows c.statement.body (first_of c.statement.body before s) (second_of c.statement.body before s) s.set) e

    pub not_valid : covers c.period m ≡ false → r ≡ unkept → Judges cs m before s r
    not_valid e = breaks (at-minute e)

    pub by-statement : {b : Statement} → covers c.period m ≡ true → b ≡ statement_in p s.credential → Decides b before s r → Judges cs m before s r
    by-statement v e d =
        let x = subst (λ (b : Statement). Decides b before s r) e d in
        record {
          holds = x.holds ∙ sym (at-minute v);
          shows = λ t. (λ j. record { role = x.role t j; set = s.set; level = x.level t j }) ∙ ap (λ (c : Credential). showing c before s) (sym (credential-of p n s.credential l));
          low = x.low;
        }

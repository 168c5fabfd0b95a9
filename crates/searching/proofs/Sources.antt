-- What an entry gave by a head of a body is given by the credential of the head's source, from the entries that its words cite.
use mathlib.Core.Path.{◌≡◌, refl, sym, ap, ◌∙◌, subst}
use mathlib.Core.Logic.{inl, inr}
use mathlib.Core.Bool.{Bool, true, false}
use mathlib.Core.List.{List}
use Prim.Native.Nat.{ℕ, suc, ◌+◌, ◌-◌, ◌/◌, ◌%◌, ◌^◌, ◌<◌}
use native.Mathlib.Omega.{arith}
use borrow.Author.Tests.{lt-ltb, le-ltb, eq-eqb, ne_eqb}
use lib.Dec.{T, eqb, ltb}
use lib.ListN.{get_or}
use Rattle.meaning.specs.Lists.{if}
use Rattle.meaning.specs.Credentials.{Body, covers, Credential}
use Rattle.policy.specs.Policy.{credential_of}
use Rattle.store.specs.Entries.{key_of, role_in}
use Rattle.rules.specs.declared.Use.{Use}
use Rattle.rules.specs.Uses.{UsedBy, UsedAs, Fitting, body_code, family_in, kind_in, other_in, body_of_head, head_of, source_in, source_of}
use Rattle.rules.proofs.CodeLaws.{head_in, family-in-code, kind-in-code, other-in-code, head-in-code}
use Rattle.heads.specs.Heads.{FromHead}
use Rattle.premises.specs.Combining.{Combined, Keyed, Offers}
use Rattle.giving.proofs.Premises.{By, combined-below, use-head}
use Rattle.loading.specs.Loading.{Sourced}
use Rattle.searching.proofs.Statements.{keyed-below, as_first, as-second, Takes, takes_first, takes-second}
use Rattle.searching.proofs.Reasons.{Reason}

positive : (i : ℕ) → ltb 0 (suc i) ≡ true
positive i = lt-ltb 0 (suc i) (omega arith)

-- the entry that a word cites
entry-cited : (keys : List ℕ) (w j : ℕ) → w ≡ suc j → get_or keys (w - 1) 0 ≡ get_or keys j 0
entry-cited keys w j q = let z : w - 1 ≡ j = omega arith in ap (λ (y : ℕ). get_or keys y 0) z

module _ {p : List ℕ} {n : ℕ} {es : List ℕ} {count : ℕ} {codes lists : List ℕ} {i body : ℕ} (s : Sourced p n es count codes lists i) (of : body_of_head codes i ≡ body)
    (fit : (u : Use) → UsedBy (credential_of p s.at).statement.body (credential_of p s.at).statement.head u → Fitting u) where
  abbrev u : Use
  u = s.which

  abbrev x : Credential
  x = credential_of p s.at

  abbrev body' : Body
  body' = x.statement.body

  abbrev Ar : ℕ
  Ar = x.statement.head

  fits : Fitting u
  fits = fit u (s.second, s.used)

  coded : get_or codes body 0 ≡ body_code u.family u.kind u.other
  coded = ap (λ (x : ℕ). get_or codes x 0) (sym of) ∙ s.coded.body_coded

  source-family : family_in (get_or codes body 0) ≡ u.family
  source-family = ap family_in coded ∙ family-in-code u.family u.kind u.other fits.kind fits.other

  source-kind : kind_in (get_or codes body 0) ≡ u.kind
  source-kind = ap kind_in coded ∙ kind-in-code u.family u.kind u.other fits.kind fits.other

  source-other : other_in (get_or codes body 0) ≡ u.other
  source-other = ap other_in coded ∙ other-in-code u.family u.kind u.other fits.kind fits.other

  source-head : head_of codes i ≡ Ar
  source-head = ap head_in s.coded.head_coded ∙ head-in-code (body_of_head codes i) u.head fits.head ∙ use-head body' Ar u (s.second, s.used)

  module _ (m : ℕ) {keys done : List ℕ} {n₀ e X other : ℕ} (v : T (covers x.period m)) (small : role_in (get_or keys e 0) < 1024) (o : Offers keys done n₀ e (get_or codes body 0) X other) where
    abbrev a : ℕ
    a = get_or keys e 0

    abbrev b : ℕ
    b = get_or keys o.entry 0

    by : By (Keyed b) a X u
    by =
        subst (λ (y : ℕ). Combined (Keyed b) a y u.kind u.other X) source-family
        (subst (λ (y : ℕ). Combined (Keyed b) a (family_in (get_or codes body 0)) y u.other X) source-kind
        (subst (λ (y : ℕ). Combined (Keyed b) a (family_in (get_or codes body 0)) (kind_in (get_or codes body 0)) y X) source-other o.partner))

    low : X < 2 ^ 32
    low = combined-below (keyed-below b) o.partner

    double : (u.kind ≡ 1 → ⊥) → other ≡ suc o.entry
    double ne = o.double (λ q. ne (sym source-kind ∙ q))

    -- e is the first premise
    first-reason : UsedAs false body' Ar u → Reason m keys x (suc e) other (key_of Ar X)
    first-reason w = go (takes_first body' Ar u w).1
      where
        go : Takes body' u.kind → Reason m keys x (suc e) other (key_of Ar X)
        go (inl (k, z)) =
            let q : other ≡ 0 = o.single (source-kind ∙ k) in
            record {
              a = a;
              b = b;
              set = X;
              valid = v;
              firsts = (takes_first body' Ar u w).0 ∙ sym (positive e);
              seconds = z ∙ sym (le-ltb 0 other (omega arith));
              one = λ _. entry-cited keys (suc e) e refl;
              two = λ l. absurd (omega arith);
              gives = as_first a b X small body' Ar u fit w by;
              low = low;
              is = refl;
            }
        go (inr (k, z)) =
            let q : other ≡ suc o.entry = double k in
            record {
              a = a;
              b = b;
              set = X;
              valid = v;
              firsts = (takes_first body' Ar u w).0 ∙ sym (positive e);
              seconds = z ∙ sym (lt-ltb 0 other (omega arith));
              one = λ _. entry-cited keys (suc e) e refl;
              two = λ _. entry-cited keys other o.entry q;
              gives = as_first a b X small body' Ar u fit w by;
              low = low;
              is = refl;
            }

    -- e is the second
    second-reason : UsedAs true body' Ar u → Reason m keys x other (suc e) (key_of Ar X)
    second-reason w =
        let k = takes-second body' Ar u w in
        let q : other ≡ suc o.entry = double k.2 in
        record {
          a = b;
          b = a;
          set = X;
          valid = v;
          firsts = k.0 ∙ sym (lt-ltb 0 other (omega arith));
          seconds = k.1 ∙ sym (positive e);
          one = λ _. entry-cited keys other o.entry q;
          two = λ _. entry-cited keys (suc e) e refl;
          gives = as-second a b X small body' Ar u w by;
          low = low;
          is = refl;
        }

    -- by the source's word
    pub source-reason : {k at first second : ℕ} → FromHead codes lists (suc e) other X i k at first second → (at ≡ s.at) × Reason m keys x first second k
    source-reason {k} {at} {first} {second} f = go s.second refl
      where
        is : k ≡ key_of Ar X
        is = f.key ∙ ap (λ (y : ℕ). key_of y X) source-head

        go : (d : Bool) → s.second ≡ d → (at ≡ s.at) × Reason m keys x first second k
        go false z =
            let w : source_in lists i ≡ s.at = s.word ∙ ap (λ (d : Bool). source_of d s.at) z in
            let k : source_in lists i < 256 = omega (arith, s.known.1) in
            let l : eqb (source_in lists i / 256 % 2) 0 ≡ true = eq-eqb (source_in lists i / 256 % 2) 0 (omega arith) in
            let a : at ≡ s.at = f.credential ∙ omega arith in
            let b : first ≡ suc e = f.cited ∙ ap (λ (d : Bool). if d (suc e) other) l in
            let c : second ≡ other = f.partner ∙ ap (λ (d : Bool). if d other (suc e)) l in
            (a, rw (is, b, c) (first-reason (subst (λ (d : Bool). UsedAs d body' Ar u) z s.used)))
        go true z =
            let w : source_in lists i ≡ s.at + 256 = s.word ∙ ap (λ (d : Bool). source_of d s.at) z in
            let k : s.at < 256 = omega (arith, s.known.1) in
            let l : eqb (source_in lists i / 256 % 2) 0 ≡ false = ne_eqb (source_in lists i / 256 % 2) 0 (λ o. omega arith) in
            let a : at ≡ s.at = f.credential ∙ omega arith in
            let b : first ≡ other = f.cited ∙ ap (λ (d : Bool). if d (suc e) other) l in
            let c : second ≡ suc e = f.partner ∙ ap (λ (d : Bool). if d other (suc e)) l in
            (a, rw (is, b, c) (second-reason (subst (λ (d : Bool). UsedAs d body' Ar u) z s.used)))

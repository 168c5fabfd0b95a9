-- A policy cut by one withdrawal after the other, from the file's own to that of the whole list.
use mathlib.Core.Path.{◌≡◌, sym, ap, ◌∙◌, subst, subst⁻¹}
use mathlib.Core.Logic.{◌⊎◌, inl, inr, dite}
use mathlib.Core.Bool.{Bool, true, false}
use mathlib.Core.List.{List, [], ◌∷◌, map}
use Prim.Native.Nat.{ℕ, suc, ◌+◌, ◌<◌, min}
use native.Mathlib.Numerals.{add-one}
use native.Mathlib.Omega.{arith}
use native.Mathlib.Decide.{ℕ_discrete}
use lib.Dec.{eqb}
use Rattle.meaning.specs.Lists.{any, below}
use Rattle.meaning.specs.Credentials.{Credential, Period, ◌during◌, credential_at}
use Rattle.file.specs.declared.Period as D
use Rattle.file.specs.Format as F
use Rattle.file.specs.Format.{serial_of}
use Rattle.file.specs.Refusals.{◌when◌}
use Rattle.file.specs.Values.{first_number}
use Rattle.file.specs.Conditions.{Head, GoodBelow}
use Rattle.file.proofs.Credentials as File
use Rattle.file.proofs.Accepted.{distinct-serials}
use Rattle.policy.specs.Policy as P
use Rattle.policy.specs.Policy.{credential_of, credentials_of, period_in, PeriodPut}
use Rattle.policy.proofs.Policies.{credential-of}
use Rattle.policy.proofs.Words.{map_same}
use Rattle.withdrawals.specs.List.{count, serial_at, minute_at}
use Rattle.withdrawals.specs.Cut.{cut, cut_to}
use Rattle.withdrawals.specs.Source.{Source, ◌without◌, N, credential_in, credentials}
use Rattle.withdrawals.specs.Conditions.{Founded, Twice, Unknown}
use Rattle.withdrawals.proofs.Cuts.{cut-this, cut-other}
use Rattle.withdrawals.proofs.Tests.{unfounded-true, unfounded-false}
use Rattle.withdrawals.proofs.Searching.{some-found, none_found}
use Rattle.serials.specs.Serials.{FirstWith}
use Rattle.cutting.specs.Policy.{PolicyOf}
use Rattle.cutting.specs.Cutting.{CutAll, Placed, CutAt, CutTo}

-- the period read, cut and put back
pub cut_at : {p p' : List ℕ} {i minute : ℕ} {v u : D.Period} → v ≡ period_in p i → u ≡ record { from = v.from; until = min v.until minute } → PeriodPut p p' i u → CutAt p p' i minute
cut_at {p} {p'} {i} {minute} {v} {u} e d put = record {
  here = put.here ∙ ap (λ (x : D.Period). (credential_of p i).statement during record { from = x.from; until = x.until }) d
      ∙ ap (λ (x : D.Period). (credential_of p i).statement during record { from = x.from; until = min x.until minute }) e;
  others = put.others;
  words = put.words;
}

module _ (s : Source) (h : Head s.file) (good : GoodBelow s.file (N s)) (n : ℕ) where
  abbrev f : List ℕ
  f = s.file

  abbrev w : List ℕ
  w = s.withdrawals

  -- before the first withdrawal
  pub cut-start : {p : List ℕ} → P.PolicyOf f p n → CutTo s p n 0
  cut-start {p} o = record {
    decoded = o.decoded;
    each = λ i l. sym (credential-of p n i l) ∙ ap (λ (cs : List Credential). credential_at cs i) o.means ∙ File.credential-at f i (let e = o.count in omega arith);
    known = λ j l. absurd (omega arith);
    once = λ i j l m. absurd (omega arith);
  }

  module _ (few : n ≡ N s) (k : ℕ) where
    -- one more
    pub cut-more : {p p' : List ℕ} {i : ℕ} → i < n → CutTo s p n k → Placed s n k i → CutAt p p' i (minute_at w k) → CutTo s p' n (k + 1)
    cut-more {p} {p'} {i} l c at t = subst⁻¹ (CutTo s p' n) (add-one k) (record {
      decoded = record { few = c.decoded.few; fits = λ j m. subst⁻¹ P.WordFits (t.words j) (c.decoded.fits j m) };
      each = λ j m. dite (ℕ_discrete j i) (λ e. subst⁻¹ Cut e this) (λ d. others j m d);
      known = λ j m. dite (ℕ_discrete j k) (λ e. (i, omega arith, (at.found l).0 ∙ ap (serial_at w) (sym e))) (λ d. c.known j (omega arith));
      once = λ a b m q. dite (ℕ_discrete b k) (λ e. subst⁻¹ (λ (x : ℕ). ¬ (serial_at w a ≡ serial_at w x)) e ((at.found l).1 a (omega arith))) (λ d. c.once a b m (omega arith));
    })
      where
        Cut : ℕ → Type 0
        Cut j = credential_of p' j ≡ (F.credential_in f j).statement during cut_to w (serial_of f j) (F.credential_in f j).period (suc k)

        this : Cut i
        this =
            t.here ∙ ap (λ (x : Credential). x.statement during cut x.period (minute_at w k)) (c.each i l)
            ∙ ap (λ (v : Period). (F.credential_in f i).statement during v) (sym (cut-this w (serial_of f i) (F.credential_in f i).period k (sym (at.found l).0)))

        others : (j : ℕ) → j < n → ¬ (j ≡ i) → Cut j
        others j m d =
            t.others j d ∙ c.each j m
            ∙ ap (λ (v : Period). (F.credential_in f j).statement during v)
            (sym (cut-other w (serial_of f j) (F.credential_in f j).period k
            (λ e. d ((distinct-serials f h good).1 j i (omega arith) (omega arith) (sym e ∙ sym (at.found l).0)))))

    -- the next one is not founded
    pub cut-wrong : {p : List ℕ} {i : ℕ} → k < count w → i ≡ n → Placed s n k i → CutAll s p n 21
    cut-wrong {p} {i} l e at = record {
      number = sym (ap (λ (b : Bool). first_number (21 when b ∷ [])) (unfounded-true f w (wrong (at.none e))));
      policy = λ z. absurd (omega arith);
    }
      where
        wrong : ((j : ℕ) × (j < k) × (serial_at w j ≡ serial_at w k)) ⊎ ((j : ℕ) → j < n → ¬ (serial_of f j ≡ serial_at w k)) → Twice w ⊎ Unknown s
        wrong (inl (j, m, q)) = inl (j, k, m, l, q)
        wrong (inr u) = inr (k, l, λ j m. u j (omega arith))

  -- after the last
  pub cut-end : {p : List ℕ} {k : ℕ} → n ≡ N s → k ≡ count w → CutTo s p n k → CutAll s p n 0
  unfolding credentials_of credentials
  cut-end {p} {k} few e c = record {
    number = sym (ap (λ (b : Bool). first_number (21 when b ∷ [])) (unfounded-false f w founded));
    policy = λ _. record {
      count = few;
      decoded = c.decoded;
      means = map_same (credential_of p) (credential_in s) n 0 (λ i l. all.each i (omega arith)) ∙ ap (λ (j : ℕ). map (credential_in s) (below j)) few;
    };
  }
    where
      all : CutTo s p n (count w)
      all = subst (CutTo s p n) e c

      founded : Founded s
      founded = record { known = all.known; once = all.once }

-- where a withdrawal's serial is looked for: x is that serial
module _ (f w : List ℕ) (n k : ℕ) {x : ℕ} (e : x ≡ serial_at w k) where
  pub placed-twice : true ≡ any (λ j. eqb (serial_at w j) x) (below k) → Placed (f without w) n k n
  placed-twice t = record {
    within = omega arith;
    found = λ l. absurd (omega arith);
    none = λ _. let (j, m, q) = some-found w k x t in inl (j, m, q ∙ e);
  }

  pub placed-found : {i : ℕ} → false ≡ any (λ j. eqb (serial_at w j) x) (below k) → FirstWith f n x i → Placed (f without w) n k i
  placed-found t at = record {
    within = at.within;
    found = λ l. (at.here l ∙ e, λ j m q. none_found w k x t j m (q ∙ sym e));
    none = λ q. inr (λ j m z. at.before j (omega arith) (z ∙ sym e));
  }

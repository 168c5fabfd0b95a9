-- The numbers of a credential that passes 4 to 7 say that credential.
use mathlib.Core.Path.{◌≡◌, refl, sym, ap₂, ◌∙◌, subst⁻¹}
use mathlib.Core.Bool.{Bool, true, false}
use mathlib.Core.List.{List, ◌∷◌, map}
use Prim.Native.Nat.{ℕ, zero, suc, ◌+◌, ◌*◌, ◌/◌, ◌%◌, ◌≤◌, ◌<◌}
use native.Mathlib.Omega.{arith}
use lib.Dec.{eqb}
use lib.ListN.{get_or}
use lib.Pow.{pow-lt}
use borrow.Author.Tests.{ne_eqb}
use Rattle.meaning.specs.Lists.{if, up_from}
use Rattle.meaning.specs.Credentials.{◌·◌, Body, ◌⟵◌, Period, ◌during◌}
use Rattle.file.specs.declared.Head.{Head}
use Rattle.file.specs.Format.{N, field, with_body, body_of, credential_in, credentials}
use Rattle.file.specs.Values.{Headed}
use Rattle.file.proofs.Uses.{by_kind}
use Rattle.policy.specs.Policy.{body_by, stated_kind, stated_head, stated_set, WordFits, PolicyOf, credential_of, credentials_of}
use Rattle.policy.specs.Steps.{body_number, statement_number, word_in, period_number, Worded}
use Rattle.policy.proofs.Bytes.{Small, small}

-- what was put together is what is taken apart
module _ (k h x : ℕ) (a : h < 1024) (b : x < 4294967296) where
  kind-back : stated_kind (statement_number k h x) ≡ k
  kind-back = omega arith

  head-back : stated_head (statement_number k h x) ≡ h
  head-back = omega arith

  set_back : stated_set (statement_number k h x) ≡ x
  set_back = omega arith

module _ (x y : ℕ) (h : y < 1024) where
  first_back : (x * 1024 + y) / 1024 ≡ x
  first_back = omega arith

  second_back : (x * 1024 + y) % 1024 ≡ y
  second_back = omega arith

module _ (x y : ℕ) (h : y < 4294967296) where
  pub from_back : period_number x y / 4294967296 ≡ x
  from_back = omega arith

  pub until-back : period_number x y % 4294967296 ≡ y
  until-back = omega arith

-- what a kind makes of the number of its body
abbrev pub numbered : ℕ → ℕ → Body
numbered k x = body_by k x (x / 1024) (x % 1024)

body_back : (A : ℕ) (v : Period) (b s c t : ℕ) → c · t < 1024 → (k : ℕ) → k ≤ 5 → (k ≡ 2 → c · t ≡ t)
    → A ⟵ numbered k (body_number k b s c t) during v ≡ with_body A v (body_of k b s c t)
body_back A v b s c t h =
    let d = first_back (b · s) (c · t) h in
    let m = second_back (b · s) (c · t) h in
    by_kind (λ k. (k ≡ 2 → c · t ≡ t) → A ⟵ numbered k (body_number k b s c t) during v ≡ with_body A v (body_of k b s c t))
    (λ n. refl) (λ n. rw d) (λ n. rw (d, m, n refl)) (λ n. rw (d, m)) (λ n. rw (d, m)) (λ n. rw (d, m))

if-below : (q : Bool) (x y l : ℕ) → x < l → y < l → if q x y < l
if-below true x y l a b = a
if-below false x y l a b = b

module _ (f : List ℕ) (i : ℕ) (s : Small f i) where
  abbrev body : ℕ
  body = body_number (field f i 0) (field f i 3) (field f i 4) (field f i 5) (field f i 6)

  body_below : body < 4294967296
  body_below = if-below (eqb (field f i 0) 0) _ _ 4294967296 (pow-lt s.entity) (let a = s.first in let b = s.second in omega arith)

  kind-in : stated_kind (word_in f i) ≡ field f i 0
  kind-in = kind-back (field f i 0) (field f i 1 · field f i 2) body s.head body_below

  head_in : stated_head (word_in f i) ≡ field f i 1 · field f i 2
  head_in = head-back (field f i 0) (field f i 1 · field f i 2) body s.head body_below

  set-in : stated_set (word_in f i) ≡ body
  set-in = set_back (field f i 0) (field f i 1 · field f i 2) body s.head body_below

  -- where the kind is not 0, the body is two numbers
  joined_in : (field f i 0 ≡ 0 → ⊥) → stated_set (word_in f i) ≡ (field f i 3 · field f i 4) * 1024 + (field f i 5 · field f i 6)
  joined_in h = set-in ∙ simp (ne_eqb _ _ h)

  word_fits : WordFits (word_in f i)
  word_fits =
      let k = kind-in in
      record {
        kind = rw k s.kind;
        first = λ h. rw (joined_in (λ z. h (k ∙ z)), first_back _ _ s.second) s.first;
        name = λ h. let n = s.name (sym k ∙ h) in rw (joined_in (λ z. omega arith), second_back _ _ s.second, n.0) n.1;
      }

module _ (f p : List ℕ) (i : ℕ) (s : Small f i) (w : Worded f p i) where
  worded-fits : WordFits (get_or p (2 * i) 0)
  worded-fits = rw w.statement (word_fits f i s)

  worded-means : credential_of p i ≡ credential_in f i
  worded-means =
      rw (w.statement, w.period, head_in f i s, kind-in f i s, set-in f i s, from_back _ _ w.narrow, until-back _ _ w.narrow)
      (body_back _ _ _ _ _ _ s.second _ s.kind (λ two. (s.name two).0))

-- functions that agree below n
pub map_same : {A : Type 0} (g h : ℕ → A) (n i : ℕ) → ((j : ℕ) → j < i + n → g j ≡ h j) → map g (up_from i n) ≡ map h (up_from i n)
map_same g h zero i e = refl
map_same g h (suc n) i e = ap₂ ◌∷◌ (e i (omega arith)) (map_same g h n (suc i) (λ j l. e j (omega arith)))

-- all credentials of a file
pub policy-of : (f p : List ℕ) (h : Head) → Headed f h → ((i : ℕ) → i < N f → Worded f p i) → PolicyOf f p h.credentials
unfolding credentials credentials_of
policy-of f p h d e =
    let s : ((i : ℕ) → i < N f → Small f i) = λ i l. small f h i d (e i l).passed in
    subst⁻¹ (PolicyOf f p) d.credentials
    (record {
      count = refl;
      decoded = record { few = d.few; fits = λ i l. worded-fits f p i (s i l) (e i l) };
      means = map_same (credential_of p) (credential_in f) (N f) 0 (λ i l. let m : i < N f = omega arith in worded-means f p i (s i m) (e i m));
    })

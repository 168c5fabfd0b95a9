-- For callers: no uses in the empty lists, walks through the bodies of a family and the heads of a body, and the uses by their places.
--
use mathlib.Core.Path.{◌≡◌, sym, ap, ◌∙◌, subst⁻¹}
use mathlib.Core.List.{List}
use Prim.Native.Nat.{ℕ, suc, ◌+◌, ◌*◌, ◌≤◌, ◌<◌}
use native.Mathlib.Omega.{arith}
use lib.ListN.{length, get_or}
use Rattle.meaning.specs.Table.{bit}
use Rattle.store.specs.Entries.{latest, Chained}
use Rattle.store.proofs.Chains.{latest-below, latest-some, latest-none, chained-none}
use Rattle.rules.specs.declared.Use.{Use}
use Rattle.rules.specs.Uses.{use_of, family_in, kind_in, other_in, body_in, family_of, kind_of, other_of, body_of_head, head_of, bodies_in, heads_in, Listed, Uses, Formed, Fitting}
use Rattle.rules.proofs.CodeLaws.{head_in, family-in-code, kind-in-code, other-in-code, body-in-code, head-in-code, body-code-of, head-code-of}

-- ---- the empty lists

pub listed-none : {codes valid lists : List ℕ} → length codes ≡ 1024 → length valid ≡ 512 → length lists ≡ 3106 → ((p : ℕ) → p < 3106 → get_or lists p 0 ≡ 0) → Listed codes valid lists
listed-none {codes} {valid} {lists} c v l z =
    let b = z 3104 (omega arith) in
    let h = z 3105 (omega arith) in
    record {
      room = (c, v, l);
      few = (omega arith, omega arith);
      families = λ i k. absurd (omega arith);
      bodies = λ i k. absurd (omega arith);
      by_family = rw b (chained-none (family_of codes) 1056 (λ r. get_or lists (512 + r) 0) (λ i. get_or lists i 0) (λ r k. z (512 + r) (omega arith)));
      by_body = rw h (chained-none (body_of_head codes) 512 (λ r. get_or lists (2080 + r) 0) (λ i. get_or lists (1568 + i) 0) (λ r k. z (2080 + r) (omega arith)));
    }

pub formed-none : {codes lists : List ℕ} → bodies_in lists ≡ 0 → Formed codes lists
formed-none e = record { kinds = λ i k. absurd (omega arith); named = λ i k. absurd (omega arith); names = λ i k. absurd (omega arith) }

pub uses-none : {codes valid lists : List ℕ} {u : Use} {s : ℕ} → bodies_in lists ≡ 0 → Uses codes valid lists u s → ⊥
uses-none e x = omega (arith, x.low.0)

-- ---- a walk through a family

-- c is one more than the latest item of family r below m, 0 where there is none
pub record Next (family : ℕ → ℕ) (r m c : ℕ) : Type 0 where
  pub within : c ≤ m
  pub item : (i : ℕ) → c ≡ suc i → (i < m) × (family i ≡ r)
  pub none : (j : ℕ) → c ≤ j → j < m → family j ≡ r → ⊥

next-latest : (family : ℕ → ℕ) (r m c : ℕ) → c ≡ latest family r m → Next family r m c
next-latest family r m c e =
    record {
      within = subst⁻¹ (λ (x : ℕ). x ≤ m) e (latest-below family r m);
      item = λ i q. latest-some family r m i (sym e ∙ q);
      none = λ j k. latest-none family r m j (subst⁻¹ (λ (x : ℕ). x ≤ j) (sym e) k);
    }

module _ {family : ℕ → ℕ} {families n : ℕ} {last prev : ℕ → ℕ} (h : Chained family families n last prev) where
  pub walk_start : (r : ℕ) → r < families → Next family r n (last r)
  walk_start r k = next-latest family r n (last r) (h.lasts r k)

  pub walk-next : (r i : ℕ) → i < n → family i ≡ r → Next family r i (prev i)
  walk-next r i k e = next-latest family r i (prev i) (h.prevs i k ∙ ap (λ (x : ℕ). latest family x i) e)

module _ {codes valid lists : List ℕ} (l : Listed codes valid lists) where
  pub first_body : (f : ℕ) → f < 1056 → Next (family_of codes) f (bodies_in lists) (get_or lists (512 + f) 0)
  first_body = walk_start l.by_family

  pub next-body : (f i : ℕ) → i < bodies_in lists → family_of codes i ≡ f → Next (family_of codes) f i (get_or lists i 0)
  next-body = walk-next l.by_family

  pub first_head : (i : ℕ) → i < 512 → Next (body_of_head codes) i (heads_in lists) (get_or lists (2080 + i) 0)
  first_head = walk_start l.by_body

  pub next-head : (i j : ℕ) → j < heads_in lists → body_of_head codes j ≡ i → Next (body_of_head codes) i j (get_or lists (1568 + j) 0)
  next-head = walk-next l.by_body

-- ---- the use of a body and a head

abbrev pub use_at : List ℕ → ℕ → ℕ → Use
use_at codes i j = use_of (family_of codes i) (kind_of codes i) (other_of codes i) (head_of codes j)

pub use-at-fits : {codes valid lists : List ℕ} → Listed codes valid lists → (i j : ℕ) → i < bodies_in lists → Fitting (use_at codes i j)
use-at-fits l i j k = record { family = l.families i k; kind = omega arith; other = omega arith; head = omega arith }

-- head j of body i is a use, in its spans
pub use-at : (codes valid lists : List ℕ) (i j s : ℕ) → i < bodies_in lists → j < heads_in lists → body_of_head codes j ≡ i → bit (get_or valid j 0) s ≡ 1 → Uses codes valid lists (use_at codes i j) s
use-at codes valid lists i j s k m e v =
    record {
      body = i;
      head = j;
      low = (k, m);
      body_coded = body-code-of (get_or codes i 0);
      head_coded = head-code-of (get_or codes (512 + j) 0) ∙ ap (λ (x : ℕ). x * 1024 + head_of codes j) e;
      spans = v;
    }

-- and every use is one
module _ {codes valid lists : List ℕ} {w : Use} {s : ℕ} (f : Fitting w) (x : Uses codes valid lists w s) where
  pub use-family : family_of codes x.body ≡ w.family
  use-family = ap family_in x.body_coded ∙ family-in-code w.family w.kind w.other f.kind f.other

  pub use-kind : kind_of codes x.body ≡ w.kind
  use-kind = ap kind_in x.body_coded ∙ kind-in-code w.family w.kind w.other f.kind f.other

  pub use-other : other_of codes x.body ≡ w.other
  use-other = ap other_in x.body_coded ∙ other-in-code w.family w.kind w.other f.kind f.other

  pub use-body : body_of_head codes x.head ≡ x.body
  use-body = ap body_in x.head_coded ∙ body-in-code x.body w.head f.head

  pub use-head : head_of codes x.head ≡ w.head
  use-head = ap head_in x.head_coded ∙ head-in-code x.body w.head f.head
